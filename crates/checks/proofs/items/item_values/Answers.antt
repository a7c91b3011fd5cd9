-- `checks::items::item_values` meets its contract: each value is what is read of its item.
use Rattle.std.proofs.Common.{arith}
use Rattle.checks.proofs.NewChecks.{items_read}
use Rattle.checks.proofs.items.item_values.Goals as goal

pub returns : goal.returns
returns c = record {
  in_table = (c.item_value.ensures.in_table, (c.item_value-2.ensures.in_table, (c.item_value-3.ensures.in_table, (c.item_value-4.ensures.in_table, tt))));
  read =
      items_read c.args.items (omega arith) c.item_value.ensures.sees c.item_value-2.ensures.sees c.item_value-3.ensures.sees c.item_value-4.ensures.sees;
}

-- `writer::script_lines::put_items` meets its contract: before turn i the first i items are written.
use Rattle.std.proofs.Common.{◌*◌, rules}
use Rattle.rules.specs.Templates.{print_many}
use Rattle.buffer.proofs.Outputs.{nothing}
use Rattle.writer.proofs.Texts.{an_item_more, no_item_more, room_left}
use Rattle.writer.proofs.script_lines.put_items.Goals as goal
use Rattle.writer.proofs.script_lines.put_items.Goals.{then-item-ne0, else-item-ne0}

pub loop-item-init : goal.loop-item-init
unfolding print_many
loop-item-init g c = nothing (0 * g.item.1) (search rules)

pub put-requires : goal.put-requires
put-requires g c = c.requires.1.1.callable _ _ (search rules) (room_left c.loop-item.item-index g.item.1 (search rules) c.requires.1.0 c.loop-item.invariant)

pub loop-item-preserved : goal.loop-item-preserved
loop-item-preserved g c =
    elim c.if-item-ne0.branch [
      | then-item-ne0 w ↦
          rw w.out-is
          (an_item_more g.item.0 g.item.1 c.args.items (search rules) w.if-item-ne0.true c.loop-item.invariant
          (c.requires.1.1.writes _ _ _ (search rules) (room_left c.loop-item.item-index g.item.1 (search rules) c.requires.1.0 c.loop-item.invariant) w.put.ensures))
      | else-item-ne0 w ↦ rw w.out-is (no_item_more g.item.0 g.item.1 c.args.items (search rules) w.if-item-ne0.false c.loop-item.invariant)
    ]

-- `turn::form_moves::new_line` meets its contract: the checks of the operands and of their values are the line's; the object is made of these values, given and
-- held, then the slots of the items are left.
use Rattle.std.proofs.Common.{refl, arith}
use Rattle.rules.specs.declared.Value.TheVariants.{Absent}
use Rattle.checks.specs.declared.form_checks.Halt.TheVariants.{Stops}
use Rattle.checks.proofs.NewChecks.{new_no_operands, new_of_values, four_there}
use Rattle.turn.proofs.NewLines.{new_hands_on, none_left_yet, left_more, all_left, new_moves}
use Rattle.turn.proofs.form_moves.new_line.Goals as goal

pub returns-in_err-items_check : goal.returns-in_err-items_check
returns-in_err-items_check c =
    new_hands_on _ (Stops c.in_err-items_check.field-0.0) c.from_residual.ensures.1 (new_no_operands _ c.in_err-items_check.ensures refl)

pub returns-in_err-hold_check : goal.returns-in_err-hold_check
returns-in_err-hold_check c =
    new_hands_on _ (Stops c.in_err-hold_check.field-0.0) c.from_residual-in_err-hold_check.ensures.1
    (new_of_values _ c.in_ok-items_check.ensures refl c.item_values-values.ensures.read c.in_err-hold_check.ensures)

pub loop-i-init : goal.loop-i-init
loop-i-init c = record { long = omega arith; left = none_left_yet _ _ c.args.items c.item_values-values.result }

pub loop-i-preserved : goal.loop-i-preserved
loop-i-preserved c = record {
  long = omega arith;
  left = left_more c.args.items c.item_values-values.result c.loop-i.i (omega arith) (omega arith) c.loop-i.invariant.left c.leave_item.ensures;
}

pub returns : goal.returns
returns c =
    new_moves c.item_values-values.ensures.read c.object_count-n.ensures.sees refl c.rank.ensures.value
    (rw (four_there Absent c.item_values-values.result (omega arith)) c.add_object.ensures) c.give_value.ensures c.hold.ensures.counts
    (all_left c.args.items c.item_values-values.result c.loop-i.i (omega arith) (omega arith) c.loop-i.invariant.left)
    (new_of_values _ c.in_ok-items_check.ensures refl c.item_values-values.ensures.read c.in_ok-hold_check.ensures)

-- `turn::form_moves::swap_line` meets its contract: past its operand and its target the check is `swap_into`'s; the field's value is given, the operand's is stored there, then its slot is left.
use Rattle.std.proofs.Common.{refl}
use Rattle.checks.specs.declared.form_checks.Halt.TheVariants.{Stops}
use Rattle.checks.proofs.CheckLaws.{object_is}
use Rattle.checks.proofs.ObjectChecks.{swap_no_operand, swap_no_object, swap_of_object}
use Rattle.turn.proofs.TurnSteps.{line_hands_on, line_moves}
use Rattle.turn.proofs.ObjectLines.{swap_answers, swap_writes}
use Rattle.turn.proofs.form_moves.swap_line.Goals as goal

pub returns-in_err-operand_check : goal.returns-in_err-operand_check
returns-in_err-operand_check c =
    line_hands_on (Stops c.in_err-operand_check.field-0.0) c.from_residual.ensures.1
    (swap_answers _ _ _ (swap_no_operand _ _ _ c.in_err-operand_check.ensures refl))

pub returns-in_err-n : goal.returns-in_err-n
returns-in_err-n c =
    line_hands_on (Stops c.in_err-n.field-0.0) c.from_residual-in_err-n.ensures.1
    (swap_answers _ _ _ (swap_no_object _ _ _ c.in_ok-operand_check.ensures refl c.seen.ensures.sees c.in_err-n.ensures))

pub returns-in_err-swap_into : goal.returns-in_err-swap_into
returns-in_err-swap_into c =
    line_hands_on (Stops c.in_err-swap_into.field-0.0) c.from_residual-in_err-swap_into.ensures.1
    (swap_answers _ _ _ (swap_of_object _ _ _ c.in_ok-operand_check.ensures refl c.seen.ensures.sees (object_is c.in_ok-n.ensures) refl c.operand-v.ensures.sees
    c.in_err-swap_into.ensures))

pub returns : goal.returns
returns c =
    line_moves (swap_answers _ _ _ (swap_of_object _ _ _ c.in_ok-operand_check.ensures refl c.seen.ensures.sees (object_is c.in_ok-n.ensures) refl c.operand-v.ensures.sees
    c.in_ok-swap_into.ensures))
    (swap_writes _ c.field-old.ensures.sees c.give_value.ensures _ c.operand-v.ensures.sees c.store_field.ensures.becomes c.leave.ensures _ c.seen.ensures.sees
    (object_is c.in_ok-n.ensures))

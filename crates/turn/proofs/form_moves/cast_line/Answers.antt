-- `turn::form_moves::cast_line` meets its contract: its check is the line's; the operand's value is given, then its slot is left.
use Rattle.checks.specs.declared.form_checks.Halt.TheVariants.{Stops}
use Rattle.turn.proofs.TurnSteps.{line_hands_on, line_moves}
use Rattle.turn.proofs.SlotLines.{cast_answers, cast_writes}
use Rattle.turn.proofs.form_moves.cast_line.Goals as goal

pub returns-in_err-cast_check : goal.returns-in_err-cast_check
returns-in_err-cast_check c =
    line_hands_on (Stops c.in_err-cast_check.field-0.0) c.from_residual.ensures.1
    (cast_answers _ _ c.in_err-cast_check.ensures)

pub returns : goal.returns
returns c =
    line_moves (cast_answers _ _ c.in_ok-cast_check.ensures)
    (cast_writes _ c.operand-v.ensures.sees c.give_value.ensures c.leave.ensures _)

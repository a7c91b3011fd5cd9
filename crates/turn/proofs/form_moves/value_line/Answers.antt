-- `turn::form_moves::value_line` meets its contract: the operand's check is the line's; its value is given, then its slot is left.
use Rattle.checks.specs.declared.form_checks.Halt.TheVariants.{Stops}
use Rattle.turn.proofs.TurnSteps.{line_hands_on, line_moves}
use Rattle.turn.proofs.SlotLines.{value_answers, value_writes}
use Rattle.turn.proofs.form_moves.value_line.Goals as goal

pub returns-in_err-operand_check : goal.returns-in_err-operand_check
returns-in_err-operand_check c =
    line_hands_on (Stops c.in_err-operand_check.field-0.0) c.from_residual.ensures.1
    (value_answers _ c.in_err-operand_check.ensures)

pub returns : goal.returns
returns c =
    line_moves (value_answers _ c.in_ok-operand_check.ensures)
    (value_writes _ c.operand-v.ensures.sees c.give_value.ensures c.leave.ensures)

-- `turn::form_moves::give_line` meets its contract: the operand's check is the line's; the caller, if there is one, is given the operand's value, which it then holds; then the frame ends.
use Rattle.checks.specs.declared.form_checks.Halt.TheVariants.{Stops}
use Rattle.turn.proofs.TurnSteps.{line_hands_on, line_moves}
use Rattle.turn.proofs.CallLines.{give_answers, finish_writes, return_writes}
use Rattle.turn.proofs.form_moves.give_line.Goals as goal

pub returns-in_err-operand_check : goal.returns-in_err-operand_check
returns-in_err-operand_check c =
    line_hands_on (Stops c.in_err-operand_check.field-0.0) c.from_residual.ensures.1
    (give_answers _ c.in_err-operand_check.ensures)

pub returns-then-h-eq0 : goal.returns-then-h-eq0
returns-then-h-eq0 c =
    line_moves (give_answers _ c.in_ok-operand_check.ensures)
    (finish_writes c.if-h-eq0.true c.drop_frame.ensures)

pub returns : goal.returns
returns c =
    line_moves (give_answers _ c.in_ok-operand_check.ensures)
    (return_writes _ c.if-h-eq0.false c.operand-v.ensures.sees c.return_value.ensures c.hold.ensures.counts c.drop_frame-2.ensures)

-- `turn::form_moves::put_line` meets its contract: past its operand and its target the check is `put_into`'s; the operand's value is put as the message, then its slot is left.
use Rattle.std.proofs.Common.{refl}
use Rattle.checks.specs.declared.form_checks.Halt.TheVariants.{Stops}
use Rattle.checks.proofs.CheckLaws.{channel_is}
use Rattle.checks.proofs.ChannelChecks.{put_no_operand, put_no_channel, put_to_channel}
use Rattle.turn.proofs.TurnSteps.{line_hands_on, line_moves}
use Rattle.turn.proofs.SendLines.{put_answers, put_writes}
use Rattle.turn.proofs.form_moves.put_line.Goals as goal

pub returns-in_err-operand_check : goal.returns-in_err-operand_check
returns-in_err-operand_check c =
    line_hands_on (Stops c.in_err-operand_check.field-0.0) c.from_residual.ensures.1
    (put_answers _ _ (put_no_operand _ _ c.in_err-operand_check.ensures refl))

pub returns-in_err-c : goal.returns-in_err-c
returns-in_err-c c =
    line_hands_on (Stops c.in_err-c.field-0.0) c.from_residual-in_err-c.ensures.1
    (put_answers _ _ (put_no_channel _ _ c.in_ok-operand_check.ensures refl c.seen.ensures.sees c.in_err-c.ensures))

pub returns-in_err-put_into : goal.returns-in_err-put_into
returns-in_err-put_into c =
    line_hands_on c.in_err-put_into.field-0.0 c.from_residual-in_err-put_into.ensures.1
    (put_answers _ _ (put_to_channel _ _ c.in_ok-operand_check.ensures refl c.seen.ensures.sees (channel_is c.in_ok-c.ensures) refl c.operand-v.ensures.sees
    c.in_err-put_into.ensures))

pub returns : goal.returns
returns c =
    line_moves (put_answers _ _ (put_to_channel _ _ c.in_ok-operand_check.ensures refl c.seen.ensures.sees (channel_is c.in_ok-c.ensures) refl c.operand-v.ensures.sees
    c.in_ok-put_into.ensures))
    (put_writes _ _ c.seen.ensures.sees (channel_is c.in_ok-c.ensures) c.operand-v.ensures.sees c.put_message.ensures c.leave.ensures)

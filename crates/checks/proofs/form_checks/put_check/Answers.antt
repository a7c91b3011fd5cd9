-- `checks::form_checks::put_check` meets its contract: an operand that does not pass ends the rule; past the target the answer is `put_into`'s.
use Rattle.std.proofs.Common.{refl}
use Rattle.checks.proofs.CheckLaws.{stop_handed, channel_is}
use Rattle.checks.proofs.ChannelChecks.{put_no_operand, put_no_channel, put_to_channel}
use Rattle.checks.proofs.form_checks.put_check.Goals as goal

pub returns-in_err-operand_check : goal.returns-in_err-operand_check
returns-in_err-operand_check c = rw (stop_handed c.in_err-operand_check.field-0.0 c.from_residual.result c.from_residual.ensures.1) (put_no_operand _ _ c.in_err-operand_check.ensures refl)

pub returns-in_err-c : goal.returns-in_err-c
returns-in_err-c c =
    rw (stop_handed c.in_err-c.field-0.0 c.from_residual-in_err-c.result c.from_residual-in_err-c.ensures.1)
    (put_no_channel _ _ c.in_ok-operand_check.ensures refl c.seen.ensures.sees c.in_err-c.ensures)

pub returns : goal.returns
returns c =
    put_to_channel _ _ c.in_ok-operand_check.ensures refl c.seen.ensures.sees (channel_is c.in_ok-c.ensures) refl c.operand-v.ensures.sees c.put_into.ensures

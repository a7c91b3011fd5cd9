-- `checks::form_checks::recv_check` meets its contract: each way out is one of the rule's, with the target and its message as read.
use Rattle.std.proofs.Common.{sym, ◌∙◌}
use Rattle.checks.proofs.CheckLaws.{stop_handed, channel_is}
use Rattle.checks.proofs.Equal.{equals_absent}
use Rattle.checks.proofs.ChannelChecks.{recv_no_channel, recv_empty, recv_full}
use Rattle.checks.proofs.form_checks.recv_check.Goals as goal

pub returns-in_err-c : goal.returns-in_err-c
returns-in_err-c c = rw (stop_handed c.in_err-c.field-0.0 c.from_residual.result c.from_residual.ensures.1) (recv_no_channel _ c.slot.ensures.sees c.in_err-c.ensures)

pub returns-then-eq : goal.returns-then-eq
returns-then-eq c =
    recv_empty _ c.slot.ensures.sees (channel_is c.in_ok-c.ensures) c.message.ensures.sees (sym (equals_absent _) ∙ sym c.eq.ensures ∙ c.if-eq.true)

pub returns : goal.returns
returns c =
    recv_full _ c.slot.ensures.sees (channel_is c.in_ok-c.ensures) c.message.ensures.sees (sym (equals_absent _) ∙ sym c.eq.ensures ∙ c.if-eq.false)

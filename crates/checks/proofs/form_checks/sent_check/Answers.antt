-- `checks::form_checks::sent_check` meets its contract: each way out is one of the rule's, with the target, its message and its number as read.
use Rattle.std.proofs.Common.{sym, ◌∙◌}
use Rattle.checks.proofs.CheckLaws.{stop_handed, channel_is}
use Rattle.checks.proofs.Equal.{equals_absent}
use Rattle.checks.proofs.ChannelChecks.{sent_no_channel, sent_empty, sent_still_there, sent_taken}
use Rattle.checks.proofs.form_checks.sent_check.Goals as goal

pub returns-in_err-c : goal.returns-in_err-c
returns-in_err-c c = rw (stop_handed c.in_err-c.field-0.0 c.from_residual.result c.from_residual.ensures.1) (sent_no_channel _ c.slot.ensures.sees _ c.in_err-c.ensures)

pub returns-then-eq : goal.returns-then-eq
returns-then-eq c =
    sent_empty _ c.slot.ensures.sees (channel_is c.in_ok-c.ensures) c.message.ensures.sees _ (sym (equals_absent _) ∙ sym c.eq.ensures ∙ c.if-eq.true)

pub returns-then-message_number-d : goal.returns-then-message_number-d
returns-then-message_number-d c =
    sent_still_there _ c.slot.ensures.sees (channel_is c.in_ok-c.ensures) c.message.ensures.sees _
    (sym (equals_absent _) ∙ sym c.eq.ensures ∙ c.if-eq.false) c.message_number.ensures.sees c.if-message_number-d.true

pub returns : goal.returns
returns c =
    sent_taken _ c.slot.ensures.sees (channel_is c.in_ok-c.ensures) c.message.ensures.sees _
    (sym (equals_absent _) ∙ sym c.eq.ensures ∙ c.if-eq.false) c.message_number.ensures.sees c.if-message_number-d.false

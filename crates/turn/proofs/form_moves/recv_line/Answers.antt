-- `turn::form_moves::recv_line` meets its contract: each way out is one of the rule's, with the target and its message as read; the message is given, then the channel is emptied.
use Rattle.std.proofs.Common.{sym, ◌∙◌}
use Rattle.checks.specs.declared.form_checks.Halt.TheVariants.{Stops}
use Rattle.checks.proofs.CheckLaws.{channel_is}
use Rattle.checks.proofs.Equal.{equals_absent}
use Rattle.checks.proofs.ChannelChecks.{recv_no_channel, recv_empty, recv_full}
use Rattle.turn.proofs.TurnSteps.{line_halts, line_hands_on, line_moves}
use Rattle.turn.proofs.ChannelLines.{recv_answers, recv_writes}
use Rattle.turn.proofs.form_moves.recv_line.Goals as goal

pub returns-in_err-c : goal.returns-in_err-c
returns-in_err-c c =
    line_hands_on (Stops c.in_err-c.field-0.0) c.from_residual.ensures.1
    (recv_answers _ (recv_no_channel _ c.slot.ensures.sees c.in_err-c.ensures))

pub returns-then-eq : goal.returns-then-eq
returns-then-eq c =
    line_halts (recv_answers _ (recv_empty _ c.slot.ensures.sees (channel_is c.in_ok-c.ensures) c.message-v.ensures.sees
    (sym (equals_absent _) ∙ sym c.eq.ensures ∙ c.if-eq.true)))

pub returns : goal.returns
returns c =
    line_moves (recv_answers _ (recv_full _ c.slot.ensures.sees (channel_is c.in_ok-c.ensures) c.message-v.ensures.sees
    (sym (equals_absent _) ∙ sym c.eq.ensures ∙ c.if-eq.false)))
    (recv_writes _ c.slot.ensures.sees (channel_is c.in_ok-c.ensures) c.message-v.ensures.sees c.give_value.ensures c.empty_channel.ensures.becomes)

-- `checks::form_checks::put_into` meets its contract: each way out is one of the rule's past its target, with the value's capability and the message as read.
use Rattle.std.proofs.Common.{sym, ◌∙◌, refl}
use Rattle.rules.proofs.Equal.{equals_local}
use Rattle.checks.proofs.CheckLaws.{stop_handed, object_is}
use Rattle.checks.proofs.Equal.{equals_absent}
use Rattle.checks.proofs.ChannelChecks.{put_no_object, put_forbidden, put_empty, put_full}
use Rattle.checks.proofs.form_checks.put_into.Goals as goal

pub returns-in_err-n : goal.returns-in_err-n
returns-in_err-n c =
    rw (stop_handed c.in_err-n.field-0.0 c.from_residual.result c.from_residual.ensures.1)
    (put_no_object _ _ c.args.v c.in_err-n.ensures)

pub returns-in_err-permission_check : goal.returns-in_err-permission_check
returns-in_err-permission_check c =
    rw (stop_handed c.in_err-permission_check.field-0.0 c.from_residual-in_err-permission_check.result c.from_residual-in_err-permission_check.ensures.1)
    (put_forbidden _ (object_is c.in_ok-n.ensures) c.cap.ensures.sees (c.eq.ensures ∙ equals_local _) _ c.in_err-permission_check.ensures refl)

pub returns-then-eq : goal.returns-then-eq
returns-then-eq c =
    put_empty _ (object_is c.in_ok-n.ensures) c.cap.ensures.sees (c.eq.ensures ∙ equals_local _) (sym c.in_ok-permission_check.ensures)
    c.message.ensures.sees (sym (equals_absent _) ∙ sym c.eq-2.ensures ∙ c.if-eq.true)

pub returns : goal.returns
returns c =
    put_full _ (object_is c.in_ok-n.ensures) c.cap.ensures.sees (c.eq.ensures ∙ equals_local _) (sym c.in_ok-permission_check.ensures)
    c.message.ensures.sees (sym (equals_absent _) ∙ sym c.eq-2.ensures ∙ c.if-eq.false)

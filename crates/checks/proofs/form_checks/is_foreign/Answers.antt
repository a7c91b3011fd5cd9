-- `checks::form_checks::is_foreign` meets its contract: the capability is asked first, and the creator only where that is local.
use Rattle.std.proofs.Common.{sym, ◌∙◌}
use Rattle.rules.proofs.Equal.{equals_local}
use Rattle.checks.proofs.OperandChecks.{local_foreign, not_local_not_foreign}
use Rattle.checks.proofs.form_checks.is_foreign.Goals as goal

pub returns-then-eq : goal.returns-then-eq
returns-then-eq c = local_foreign _ _ c.cap.ensures.sees _ c.creator.ensures.sees (sym (equals_local _) ∙ sym c.eq.ensures ∙ c.if-eq.true)

pub returns-else-eq : goal.returns-else-eq
returns-else-eq c =
    rw c.if-eq.false (not_local_not_foreign _ _ c.cap.ensures.sees (sym (equals_local _) ∙ sym c.eq.ensures ∙ c.if-eq.false))

-- `checks::form_checks::are_apart` meets its contract: it asks what the rule does of both objects as read, and nothing more where one of them is not local.
use Rattle.std.proofs.Common.{◌≡◌, true, false, sym, ◌∙◌}
use Rattle.rules.proofs.ListLaws.{impossible}
use Rattle.rules.proofs.Equal.{equals_local}
use Rattle.checks.proofs.ObjectChecks.{apart_seen, value_not_local, not_local_not_apart}
use Rattle.checks.proofs.form_checks.are_apart.Goals.{then-eq, else-eq}
use Rattle.checks.proofs.form_checks.are_apart.Goals as goal

pub returns-then-eq-2 : goal.returns-then-eq-2
returns-then-eq-2 c = elim c.if-eq.branch [
  | then-eq w ↦
      apart_seen c.cap.ensures.sees (sym (equals_local _) ∙ sym c.eq.ensures ∙ w.if-eq.true) w.cap-then-eq.ensures.sees
      (sym (equals_local _) ∙ sym w.eq-then-eq.ensures ∙ sym w.value-is ∙ c.if-eq-2.true) c.creator.ensures.sees c.creator-then-eq-2.ensures.sees
  | else-eq w ↦ let none : true ≡ false = sym c.if-eq-2.true ∙ w.value-is ∙ w.if-eq.false in impossible cc
]

pub returns-else-eq-2 : goal.returns-else-eq-2
returns-else-eq-2 c = rw c.if-eq-2.false (elim c.if-eq.branch [
  | then-eq w ↦
      value_not_local c.cap.ensures.sees (sym (equals_local _) ∙ sym c.eq.ensures ∙ w.if-eq.true) w.cap-then-eq.ensures.sees
      (sym (equals_local _) ∙ sym w.eq-then-eq.ensures ∙ sym w.value-is ∙ c.if-eq-2.false)
  | else-eq w ↦ not_local_not_apart c.cap.ensures.sees (sym (equals_local _) ∙ sym c.eq.ensures ∙ w.if-eq.false)
])

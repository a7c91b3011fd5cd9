-- `turn::form_moves::field_line` meets its contract: each way out is one of the rule's, with the target, its field and its object as read; where it passes the field's value is
-- given, and held once more.
use Rattle.std.proofs.Common.{sym, ◌∙◌}
use Rattle.checks.specs.declared.form_checks.Halt.TheVariants.{Stops}
use Rattle.checks.proofs.CheckLaws.{object_is}
use Rattle.checks.proofs.Equal.{equals_absent}
use Rattle.checks.proofs.ObjectChecks.{field_no_object, field_missing, field_answered}
use Rattle.turn.proofs.TurnSteps.{line_halts, line_hands_on, line_moves}
use Rattle.turn.proofs.ObjectLines.{field_answers, field_writes}
use Rattle.turn.proofs.form_moves.field_line.Goals as goal

pub returns-in_err-n : goal.returns-in_err-n
returns-in_err-n c =
    line_hands_on (Stops c.in_err-n.field-0.0) c.from_residual.ensures.1
    (field_answers _ _ (field_no_object _ _ c.slot.ensures.sees c.in_err-n.ensures))

pub returns-then-eq : goal.returns-then-eq
returns-then-eq c =
    line_halts (field_answers _ _ (field_missing _ _ c.slot.ensures.sees (object_is c.in_ok-n.ensures) c.field-v.ensures.sees
    (sym (equals_absent _) ∙ sym c.eq.ensures ∙ c.if-eq.true)))

pub returns-in_err-permission_check : goal.returns-in_err-permission_check
returns-in_err-permission_check c =
    line_hands_on (Stops c.in_err-permission_check.field-0.0) c.from_residual-in_err-permission_check.ensures.1
    (field_answers _ _ (field_answered _ _ c.slot.ensures.sees (object_is c.in_ok-n.ensures) c.field-v.ensures.sees
    (sym (equals_absent _) ∙ sym c.eq.ensures ∙ c.if-eq.false) c.is_foreign-foreign.ensures c.is_iso_object-alias.ensures c.in_err-permission_check.ensures))

pub returns : goal.returns
returns c =
    line_moves (field_answers _ _ (field_answered _ _ c.slot.ensures.sees (object_is c.in_ok-n.ensures) c.field-v.ensures.sees
    (sym (equals_absent _) ∙ sym c.eq.ensures ∙ c.if-eq.false) c.is_foreign-foreign.ensures c.is_iso_object-alias.ensures c.in_ok-permission_check.ensures))
    (field_writes _ c.field-v.ensures.sees c.give_value.ensures _ c.slot.ensures.sees (object_is c.in_ok-n.ensures) c.hold.ensures.counts)

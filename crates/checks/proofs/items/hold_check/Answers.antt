-- `checks::items::hold_check` meets its contract: each way out is one of the rule past its operands, with what is seen of all four values.
use Rattle.std.proofs.Common.{sym, ◌∙◌, refl, rules, tests}
use Rattle.std.proofs.lemmas.Iterator.{YieldsList-from_slice}
use Rattle.std.proofs.lemmas.Iterator.Search.{any_from_yields_List}
use Rattle.checks.specs.NewItems.{is_channel}
use Rattle.checks.proofs.CheckLaws.{fault_handed}
use Rattle.checks.proofs.AnySeen.{any_is_any}
use Rattle.checks.proofs.HeldChecks.{held_channel, held_forbidden, held_passes, held_used_up}
use Rattle.checks.proofs.items.hold_check.Goals as goal

pub returns-then-any : goal.returns-then-any
returns-then-any c =
    let is = any_from_yields_List is_channel _ _ c.any.result c.any.ensures.ran (YieldsList-from_slice c.args.values cc) (λ x b q k. search (rules, tests)) in
    held_channel _ _ _ (any_is_any is_channel c.args.values ∙ sym is ∙ c.if-any.true)

pub returns-in_err-permission_check : goal.returns-in_err-permission_check
returns-in_err-permission_check c =
    let is = any_from_yields_List is_channel _ _ c.any.result c.any.ensures.ran (YieldsList-from_slice c.args.values cc) (λ x b q k. search (rules, tests)) in
    rw (fault_handed c.in_err-permission_check.field-0.0 c.from_residual.result c.from_residual.ensures.1)
    (held_forbidden _ _ _
    (any_is_any is_channel c.args.values ∙ sym is ∙ c.if-any.false) c.any_foreign-foreign.ensures c.any_above-other.ensures c.in_err-permission_check.ensures refl)

pub returns-then-object_count-lt-OBJECTS : goal.returns-then-object_count-lt-OBJECTS
returns-then-object_count-lt-OBJECTS c =
    let is = any_from_yields_List is_channel _ _ c.any.result c.any.ensures.ran (YieldsList-from_slice c.args.values cc) (λ x b q k. search (rules, tests)) in
    held_passes _ _ _
    (any_is_any is_channel c.args.values ∙ sym is ∙ c.if-any.false) c.any_foreign-foreign.ensures c.any_above-other.ensures
    (sym c.in_ok-permission_check.ensures) c.object_count.ensures.sees c.if-object_count-lt-OBJECTS.true

pub returns : goal.returns
returns c =
    let is = any_from_yields_List is_channel _ _ c.any.result c.any.ensures.ran (YieldsList-from_slice c.args.values cc) (λ x b q k. search (rules, tests)) in
    held_used_up _ _ _
    (any_is_any is_channel c.args.values ∙ sym is ∙ c.if-any.false) c.any_foreign-foreign.ensures c.any_above-other.ensures
    (sym c.in_ok-permission_check.ensures) c.object_count.ensures.sees c.if-object_count-lt-OBJECTS.false

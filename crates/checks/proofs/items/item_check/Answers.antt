-- `checks::items::item_check` meets its contract: an item whose slot an earlier one took finds it absent; any other sees the slot as it stands.
use Rattle.std.proofs.Common.{sym, ◌∙◌, rules, tests}
use Rattle.std.proofs.lemmas.Iterator.{YieldsList-from_slice}
use Rattle.std.proofs.lemmas.Iterator.Search.{any_from_yields_List}
use Rattle.checks.specs.NewItems.{takes_slot}
use Rattle.checks.proofs.ItemChecks.{no_item_passes, one_took, none_took}
use Rattle.checks.proofs.items.item_check.Goals as goal

pub returns-then-e-eq0 : goal.returns-then-e-eq0
returns-then-e-eq0 c = no_item_passes _ c.args.h c.args.before.now c.if-e-eq0.true

pub returns-then-any : goal.returns-then-any
returns-then-any c =
    let is = any_from_yields_List (λ a. takes_slot a c.args.e) _ _ c.any.result c.any.ensures.ran (YieldsList-from_slice c.args.before.now cc) (λ x b q k. search (rules, tests)) in
    one_took _ c.args.h c.args.before.now c.args.e c.if-e-eq0.false (sym is ∙ c.if-any.true)

pub returns : goal.returns
returns c =
    let is = any_from_yields_List (λ a. takes_slot a c.args.e) _ _ c.any.result c.any.ensures.ran (YieldsList-from_slice c.args.before.now cc) (λ x b q k. search (rules, tests)) in
    none_took _ c.args.h c.args.before.now c.args.e c.if-e-eq0.false (sym is ∙ c.if-any.false) c.operand_check.ensures

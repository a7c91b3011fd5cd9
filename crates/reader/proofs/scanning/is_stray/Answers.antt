-- The bytes of which one is not allowed are those that the definition looks for.
use mathlib.Core.Path.{◌≡◌, refl, ap, ◌∙◌}
use mathlib.Core.Bool.{Bool, not, ◌||◌}
use Rattle.std.proofs.Common.{rules, tests}
use Rattle.std.proofs.lemmas.Iterator.{YieldsList-from_slice}
use Rattle.std.proofs.lemmas.Iterator.Search.{any_from_yields_List}
use Rattle.std.specs.List.{list_any}
use Prim.Native.Nat.{ℕ}
use mathlib.Core.List.{List, [], ◌∷◌}
use Rattle.rules.specs.Lists.{any}
use Rattle.rules.specs.Text.{allowed, stray}
use Rattle.reader.proofs.scanning.is_stray.Goals as goal

any_is : (f : ℕ → Bool) (l : List ℕ) → list_any f l ≡ any f l
unfolding any
any_is f [] = refl
any_is f (x ∷ l) = ap (λ b. f x || b) (any_is f l)

pub returns : goal.returns
unfolding stray
returns c =
    let s = c.args.s.now in
    any_from_yields_List (λ x. not (allowed x)) _ _ c.any.result c.any.ensures.ran (YieldsList-from_slice s cc) (λ x b q k. search (rules, tests)) ∙ any_is (λ x. not (allowed x)) s

-- What a text begins with, as the library has it.
use Rattle.std.specs.Prelude.{ℕ, List, [], ◌∷◌, ◌≡◌}
use Rattle.std.proofs.Common.{refl, eqb}
use Rattle.std.specs.List.{starts_with}
use Rattle.rules.proofs.Counts.{eqb_sym}
use Rattle.grammar.specs.Words.{begins}

pub starts : (word text : List ℕ) → starts_with eqb text word ≡ begins word text
unfolding begins
starts [] text = refl
starts (c ∷ w) [] = refl
starts (c ∷ w) (x ∷ l) = rw (starts w l, eqb_sym c x) refl

-- Where the code sees the answer of a test for each element of a list, until one passes, it sees whether any does.
use Rattle.std.proofs.Common.{ℕ, zero, suc, ◌≡◌, ◌<◌, Bool, true, false, List, [], ◌∷◌, length, sym, refl, arith}
use Rattle.std.specs.Prelude.{slice_index_or}
use Rattle.std.specs.Bool.{MatchBool}
use Rattle.std.specs.List.{HoldsAt, AllWithin, list_any}
use Rattle.rules.specs.Lists.{any, Every}
use Rattle.rules.specs.State.{State}
use Rattle.rules.proofs.ListLaws.{by_bool}
use Rattle.table.specs.StateTable.{Counted, Sees}

-- the code sees that the test g answers b of x, in a state in which x is there
abbrev pub SeenAs : {A : Type 0} → List ℕ → (A → State → Type 0) → (State → A → Bool) → Bool → A → Type 0
SeenAs s There g b x = Sees s (There x) (λ S. g S x) b

module _ {A : Type 0} {s : List ℕ} (There : A → State → Type 0) (g : State → A → Bool) (d : A) where
  module _ {N : ℕ → ℕ} {S : State} {rest : List ℕ} (held : Counted s N S rest) where
    some_passes : (xs : List A) (k : ℕ) → k < length xs → SeenAs s There g true (slice_index_or xs k d) → Every (λ x. There x S) xs → any (g S) xs ≡ true
    unfolding any
    some_passes [] k few seen there = absurd (omega arith)
    some_passes (x ∷ xs) zero few seen there = rw (sym (seen.sees S rest held there.0)) refl
    some_passes (x ∷ xs) (suc k) few seen there = let more = some_passes xs k (omega arith) seen there.1 in by_bool (g S x) (λ t. rw t refl) (λ t. rw t more)

    none_passes : (xs : List A) → ((k : ℕ) → k < length xs → SeenAs s There g false (slice_index_or xs k d)) → Every (λ x. There x S) xs → any (g S) xs ≡ false
    unfolding any
    none_passes [] seen there = refl
    none_passes (x ∷ xs) seen there = rw (sym ((seen zero (omega arith)).sees S rest held there.0)) (none_passes xs (λ k few. seen (suc k) (omega arith)) there.1)

  pub any_seen : (xs : List A) (r : Bool) → MatchBool r ((k : ℕ) × (k < length xs) × HoldsAt (SeenAs s There g true) xs k) (AllWithin (SeenAs s There g false) xs 0 (length xs))
      → Sees s (λ S. Every (λ x. There x S) xs) (λ S. any (g S) xs) r
  any_seen xs true (k, few, seen) = record { sees = λ S rest held there. sym (some_passes held xs k few (seen d) there) }
  any_seen xs false seen = record { sees = λ S rest held there. sym (none_passes held xs (λ k few. seen k d (omega arith) few) there) }

-- the library's test of a list is the definitions'
pub any_is_any : {A : Type 0} (f : A → Bool) (xs : List A) → any f xs ≡ list_any f xs
unfolding any
any_is_any f [] = refl
any_is_any f (x ∷ xs) = rw (any_is_any f xs) refl

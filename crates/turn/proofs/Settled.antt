-- What a line's writes leave of the holder counts: raised by what it gained and lowered by what it lost, in words of 16 bits, they are those of the new
-- state, since that is how a turn changes them and none is above 5,136.
use Prim.Native.Nat.{ℕ, ◌+◌, ◌*◌, ◌%◌, ◌<◌}
use native.Mathlib.Omega.{arith}
use mathlib.Core.Path.{◌≡◌, refl, ◌∙◌}
use mathlib.Core.List.{List, [], ◌∷◌, ◌++◌}
use lib.Dec.{eqb}
use Rattle.rules.specs.declared.Value.{Value}
use Rattle.rules.specs.declared.Value.TheVariants.{Absent, Obj, Chan}
use Rattle.rules.specs.State.{State}
use Rattle.rules.specs.Reach.{count_one, count}
use Rattle.rules.specs.Holders.{holders}
use Rattle.rules.proofs.ListLaws.{by_bool}
use Rattle.table.specs.StateTable.{Counted, Held, recount, all_raised, all_lowered}
use Rattle.table.proofs.StateTable.{recounted}

-- every count is a word
pub record InWords (N : ℕ → ℕ) : Type 0 where
  pub few : (n : ℕ) → N n < 65536

value_tally : (d : ℕ) (v : Value) (N : ℕ → ℕ) (n : ℕ) → N n < 65536 → recount d v N n ≡ (N n + d * count_one n v) % 65536
unfolding recount
value_tally d Absent N n few = omega arith
value_tally d (Obj k) N n few = by_bool (eqb k n) (λ t. rw t (omega arith)) (λ t. rw t (omega arith))
value_tally d (Chan c) N n few = omega arith

value_in_words : (d : ℕ) (v : Value) {N : ℕ → ℕ} → InWords N → InWords (recount d v N)
value_in_words d v {N} small = record { few = λ n. omega (arith, value_tally d v N n (small.few n)) }

raised_tally : (vs : List Value) (N : ℕ → ℕ) → InWords N → (n : ℕ) → all_raised vs N n ≡ (N n + count n vs) % 65536
unfolding all_raised count
raised_tally [] N small n = omega (arith, small.few n)
raised_tally (v ∷ vs) N small n =
    omega (arith, raised_tally vs (recount 1 v N) (value_in_words 1 v small) n, value_tally 1 v N n (small.few n))

lowered_tally : (vs : List Value) (N : ℕ → ℕ) → InWords N → (n : ℕ) → all_lowered vs N n ≡ (N n + 65535 * count n vs) % 65536
unfolding all_lowered count
lowered_tally [] N small n = omega (arith, small.few n)
lowered_tally (v ∷ vs) N small n =
    omega (arith, lowered_tally vs (recount 65535 v N) (value_in_words 65535 v small) n, value_tally 65535 v N n (small.few n))

-- one list after the other
pub raised_append : (us vs : List Value) (N : ℕ → ℕ) → all_raised (us ++ vs) N ≡ all_raised vs (all_raised us N)
unfolding all_raised
raised_append [] vs N = refl
raised_append (u ∷ us) vs N = raised_append us vs (recount 1 u N)

-- ---- What a line has written

-- the table holds the new state, and its counts are those of S with these values gained and lost
pub record Written (s₁ : List ℕ) (S : State) (gains losses : List Value) (S₁ : State) (rest : List ℕ) : Type 0 where
  pub counts : ℕ → ℕ
  pub held : Counted s₁ counts S₁ rest
  pub tally : InWords (holders S) → (n : ℕ) → counts n ≡ (holders S n + count n gains + 65535 * count n losses) % 65536

pub written : {s₁ rest : List ℕ} {S S₁ : State} (gains losses : List Value) → Counted s₁ (all_lowered losses (all_raised gains (holders S))) S₁ rest
    → Written s₁ S gains losses S₁ rest
written {S = S} gains losses held = record {
  counts = all_lowered losses (all_raised gains (holders S));
  held = held;
  tally = λ small n.
      let raised = raised_tally gains (holders S) small in
      let few : InWords (all_raised gains (holders S)) = record { few = λ k. omega (arith, raised k) } in
      omega (arith, lowered_tally losses (all_raised gains (holders S)) few n, raised n);
}

-- nothing lost, and nothing gained
pub only_gained : {s₁ rest : List ℕ} {S S₁ : State} (gains : List Value) → Counted s₁ (all_raised gains (holders S)) S₁ rest → Written s₁ S gains [] S₁ rest
unfolding all_lowered
only_gained gains held = written gains [] held

pub nothing_gained : {s₁ rest : List ℕ} {S S₁ : State} → Counted s₁ (holders S) S₁ rest → Written s₁ S [] [] S₁ rest
unfolding all_raised
nothing_gained held = only_gained [] held

-- the counts are the new state's own
pub settled : {s₁ rest : List ℕ} {S S₁ : State} {gains losses : List Value} → Written s₁ S gains losses S₁ rest → InWords (holders S) → InWords (holders S₁)
    → ((n : ℕ) → holders S₁ n + count n losses ≡ holders S n + count n gains) → Held s₁ S₁ rest
settled {S₁ = S₁} w small small₁ changes =
    recounted w.held (holders S₁) λ n. w.tally small n ∙ omega (arith, small₁.few n, changes n)

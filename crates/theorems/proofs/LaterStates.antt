-- A later state of a run is reached by the turns that move: a turn of the list moves the state or leaves it as it is.
use Prim.Native.Nat.{ℕ, zero, suc, ◌+◌, ◌-◌, ◌≤◌, ◌<◌, zero-le}
use native.Mathlib.Nat.{suc-add, zero-add}
use native.Mathlib.Omega.{arith}
use mathlib.Core.Path.{◌≡◌, refl, ap, subst, subst⁻¹}
use mathlib.Core.List.{List}
use mathlib.Core.Logic.{◌⊎◌, inl, inr}
use lib.Dec.{ltb}
use lib.ListN.{length, take, get_or}
use borrow.Author.Tests.{ltb-true, ltb-false}
use Rattle.rules.specs.declared.Mosts.{Mosts}
use Rattle.rules.specs.Script.{Program}
use Rattle.rules.specs.State.{State, start}
use Rattle.rules.specs.Turn.{Res, ok, wait, stop, turn}
use Rattle.rules.specs.Run.{Stop, none, stopped, Run, fresh, after, advance, run_from, run}
use Rattle.theorems.specs.InFlight.{state_at}
use Rattle.rules.proofs.ListLaws.{by_bool, take_past}
use Rattle.rules.proofs.Runs.{step, run_one_more}

pub data Later (m : Mosts) (P : Program) (S : State) : State → Type 0 where
  now : Later m P S S
  then : {S₁ S₂ : State} (t : ℕ) → Later m P S S₁ → turn m P S₁ t ≡ ok S₂ → Later m P S S₂

module _ (m : Mosts) (P : Program) where
  after_goes : (S : State) (n t : ℕ) (r : Res State) → ((after S n t r).state ≡ S) ⊎ (r ≡ ok (after S n t r).state)
  unfolding after
  after_goes S n t (ok S₁) = inr refl
  after_goes S n t wait = inl refl
  after_goes S n t (stop k) = inl refl

  advance_goes : (S : State) (n : ℕ) (q : Stop) (t : ℕ) → ((advance m P S n q t).state ≡ S) ⊎ (turn m P S t ≡ ok (advance m P S n q t).state)
  unfolding advance
  advance_goes S n none t = after_goes S n t (turn m P S t)
  advance_goes S n (stopped k i b l) t = inl refl

  module _ (ts : List ℕ) where
    -- a turn of the list leaves the state or moves it
    pub one_turn : (k : ℕ) → k < length ts → (state_at m P ts (suc k) ≡ state_at m P ts k) ⊎ (turn m P (state_at m P ts k) (get_or ts k 0) ≡ ok (state_at m P ts (suc k)))
    unfolding state_at run step
    one_turn k there =
        let r = run m P (take k ts) in
        subst⁻¹ (λ (q : Run). (q.state ≡ r.state) ⊎ (turn m P r.state (get_or ts k 0) ≡ ok q.state)) (run_one_more m P fresh ts k there)
        (advance_goes r.state r.moves r.stop (get_or ts k 0))

    -- past the last turn it stays
    no_turn : (k : ℕ) → length ts ≤ k → state_at m P ts (suc k) ≡ state_at m P ts k
    unfolding state_at
    no_turn k all = ap (λ (us : List ℕ). (run m P us).state) (take_past ts k all)

    later_by : (k d : ℕ) → Later m P (state_at m P ts k) (state_at m P ts (d + k))
    later_by k zero = rw (zero-add k) now
    later_by k (suc d) =
        let before = later_by k d in
        rw (suc-add d k)
        (by_bool (ltb (d + k) (length ts))
        (λ more. elim (one_turn (d + k) (ltb-true (d + k) (length ts) more)) [ inl stays ↦ rw stays before | inr goes ↦ then (get_or ts (d + k) 0) before goes ])
        (λ all. rw (no_turn (d + k) (ltb-false (d + k) (length ts) all)) before))

    pub later : (k l : ℕ) → k ≤ l → Later m P (state_at m P ts k) (state_at m P ts l)
    later k l h = subst (λ (x : ℕ). Later m P (state_at m P ts k) (state_at m P ts x)) (omega arith) (later_by k (l - k))

    pub from_start : (k : ℕ) → Later m P start (state_at m P ts k)
    unfolding state_at run run_from
    from_start k = later 0 k zero-le

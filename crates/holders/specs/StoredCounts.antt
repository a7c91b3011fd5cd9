-- What the holder count answers: the count that the state table has, or why there is none. That it is the count taken afresh, `holders`, is what a
-- table that holds a state says.
use Rattle.std.specs.Prelude.{ℕ, ◌≤◌, ◌≡◌, List, ltb, length, Result, Ok}
use Rattle.rules.specs.Mosts as Most
use Rattle.rules.specs.Mosts.{mosts}
use Rattle.rules.specs.Reading.{Reading}
use Rattle.rules.specs.Numbers as No
use Rattle.rules.specs.Refusals.{Refuses}
use Rattle.rules.specs.declared.faults.Refusal.{Refusal}
use Rattle.rules.specs.State.{State}
use Rattle.rules.specs.Calls as Calls
use Rattle.rules.specs.Calls.{uncounted, counted, count_on, holder_count, run_call, program_after, state_after}
use Rattle.table.specs.StateTable.{Held}

-- the answer as the code gives it
abbrev pub Answers : Calls.Count → Result ℕ Refusal → Type 0
Answers (uncounted k n) r = Refuses r k n
Answers (counted places) r = r ≡ Ok places

-- of the state that a run left in a table
pub record CountsState (s : List ℕ) (object : ℕ) (r : Result ℕ Refusal) : Type 0 where
  pub counts : Most.words ≤ length s → (S : State) (rest : List ℕ) → Held s S rest → length S.objects ≤ mosts.objects
      → Answers (count_on S object (ltb object (length S.objects))) r
  -- where the slice is too short for that
  pub refuses : (Most.words ≤ length s → ⊥) → Refuses r No.short_table 0

-- what a call answers and leaves in what it was lent, by what its inputs come to
pub record HasCounted (C : Reading) (turns : List ℕ) (object : ℕ) (program state : List ℕ) (r : Result ℕ Refusal) (program₁ state₁ : List ℕ) : Type 0 where
  pub answers : Answers (holder_count mosts turns object C) r
  pub program_is : program₁ ≡ program_after C program
  pub state_is : state₁ ≡ state_after mosts turns C state

-- "takes a run's inputs and an object number and gives the stored count", of its inputs as lent
abbrev pub Counts : (text turns program state : List ℕ) → (object : ℕ) → Result ℕ Refusal → (program₁ state₁ : List ℕ) → Type 0
Counts text turns program state object r program₁ state₁ = HasCounted (run_call mosts text turns program state) turns object program state r program₁ state₁

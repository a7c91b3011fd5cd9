-- What the code counts on the tables.
use Rattle.std.specs.Prelude.{ℕ, ◌+◌, ◌≤◌, ◌<◌, ◌≡◌, Bool, true, false, List, [], ◌∷◌, length, drop}
use Rattle.rules.specs.Mosts as Most
use Rattle.rules.specs.Mosts.{mosts}
use Rattle.rules.specs.Lists.{Every}
use Rattle.rules.specs.Script.{Program}
use Rattle.rules.specs.Valid.{Valid}
use Rattle.rules.specs.State.{State, thread_at, start}
use Rattle.rules.specs.Turn.{turn}
use Rattle.rules.specs.Run.{after, is_finished}
use Rattle.rules.specs.Fits.{Fits}
use Rattle.table.specs.ProgramTable.{fresh_table}
use Rattle.table.specs.StateTable.{Held}
use Rattle.turn.specs.Performed.{Loaded}
use Rattle.tally.specs.declared.Fate.{Fate}
use Rattle.tally.specs.declared.Fate.TheVariants.{Moved, Waited, Idled, Halted, Unplayed}
use Rattle.tally.specs.Fates.{fate_by, count_at, raise, tally, played}

-- what comes of the turn of thread t, in any state of a run of a program, and the state that it leaves
pub record TakesOne (p s : List ℕ) (t : ℕ) (r : Fate) (s₁ : List ℕ) : Type 0 where
  pub fate : (P : Program) (n : ℕ) (S : State) (rest : List ℕ) → Loaded p P → Held s S rest → Valid mosts P → Fits mosts P n S → n < Most.turns
      → r ≡ fate_by (turn mosts P S t) (is_finished (thread_at S t))
  pub leaves : (P : Program) (n : ℕ) (S : State) (rest : List ℕ) → Loaded p P → Held s S rest → Valid mosts P → Fits mosts P n S → n < Most.turns
      → Held s₁ (after S n t (turn mosts P S t)).state rest

abbrev pub stops : Fate → Bool
stops Moved = false
stops Waited = false
stops Idled = false
stops Halted = true
stops Unplayed = false

-- each count is at most n
abbrev pub Low : ℕ → List ℕ → Type 0
Low n counts = Every (λ (x : ℕ). x ≤ n) counts

-- turns that are not played any more
unfoldable pub unplayed_from : List ℕ → List ℕ → List ℕ
unplayed_from counts [] = counts
unplayed_from counts (t ∷ ts) = unplayed_from (raise counts (count_at t Unplayed)) ts

-- the turns up to the one that stops the run, of any program from a fresh start; r of them are played before it
pub record CountsPlayed (p s turns : List ℕ) (r : ℕ) (counts₁ : List ℕ) : Type 0 where
  pub low : Low (r + 1) counts₁
  pub wide : length counts₁ ≡ 85
  pub within : r ≤ length turns
  pub counts : (P : Program) (rest : List ℕ) → Loaded p P → Valid mosts P → Held s start rest → tally mosts P turns ≡ unplayed_from counts₁ (drop (r + 1) turns)
  pub before : (P : Program) (rest : List ℕ) → Loaded p P → Valid mosts P → Held s start rest → played mosts P turns ≡ r

-- all turns, of a program that was read, in a fresh table
pub record Tallies (p s turns : List ℕ) (r : ℕ) (counts₁ : List ℕ) : Type 0 where
  pub within : r ≤ length turns
  pub counts : (P : Program) → Loaded p P → Valid mosts P → s ≡ fresh_table → counts₁ ≡ tally mosts P turns
  pub before : (P : Program) → Loaded p P → Valid mosts P → s ≡ fresh_table → r ≡ played mosts P turns

-- The one way in: what stands in two fresh tables when a run was made there, which is all that an entry may rely on.
use Rattle.std.specs.Prelude.{ℕ, ◌≡◌, Bool, List, [], Result}
use Rattle.rules.specs.declared.faults.Refusal.{Refusal}
use Rattle.rules.specs.Mosts as Most
use Rattle.rules.specs.Mosts.{mosts}
use Rattle.rules.specs.Script.{Program}
use Rattle.rules.specs.Reading.{Reading, turned_away, accepted}
use Rattle.rules.specs.Refusals.{Refuses}
use Rattle.rules.specs.Valid.{Valid}
use Rattle.rules.specs.Run.{run, answer}
use Rattle.rules.specs.Fits.{Fits}
use Rattle.rules.specs.Tables.{program_words, state_words}
use Rattle.rules.specs.Calls.{inputs}
use Rattle.table.specs.ProgramTable.{fresh_table}
use Rattle.table.specs.StateTable.{Held}
use Rattle.turn.specs.Performed.{Loaded}
use Rattle.run.specs.declared.Outcome.{Outcome}
use Rattle.run.specs.RunAnswers.{told}

-- the run of an accepted script: its answer, its words, and the abstract program and state that they hold
pub record Holds (P : Program) (turns : List ℕ) (r : Result Outcome Refusal) (p s : List ℕ) : Type 0 where
  pub answers : told r ≡ answer mosts P (run mosts P turns)
  pub program_words_are : p ≡ program_words P
  pub state_words_are : s ≡ state_words (run mosts P turns).state
  pub valid : Valid mosts P
  pub loaded : Loaded p P
  pub held : Held s (run mosts P turns).state []
  pub fits : Fits mosts P Most.turns (run mosts P turns).state

-- after a refusal the words are of no use
abbrev pub Made : Reading → (turns : List ℕ) → Result Outcome Refusal → (p s : List ℕ) → Type 0
Made (turned_away k n) turns r p s = Refuses r k n
Made (accepted P) turns r p s = Holds P turns r p s

-- the caller tells whether a slice that it was lent is under its length
pub record Makes (text turns : List ℕ) (short : Bool) (p s : List ℕ) (r : Result Outcome Refusal) (p₁ s₁ : List ℕ) : Type 0 where
  pub makes : p ≡ fresh_table → s ≡ fresh_table → Made (inputs mosts text turns short) turns r p₁ s₁

-- What is found of both runs of an accepted script.
use Rattle.std.specs.Prelude.{ℕ, ◌≤◌, ◌≡◌, Bool, false, Result, List, length, take}
use Rattle.rules.specs.Mosts.{mosts}
use Rattle.rules.specs.Script.{Program}
use Rattle.rules.specs.Reading.{accepted}
use Rattle.rules.specs.Calls.{inputs}
use Rattle.rules.specs.declared.faults.Refusal.{Refusal}
use Rattle.run.specs.declared.Outcome.{Outcome}
use Rattle.run.specs.RunAnswers.{told}
use Rattle.run.specs.Made.{Holds}
use Rattle.tally.specs.Fates.{tally, played}
use Rattle.stripping.specs.StrippedRuns.{guards_change_nothing}
use Rattle.sheet.specs.Ticks.{stripped_answer}
use Rattle.sheet.specs.declared.examined.Examined.{Examined}

-- the inputs are accepted as this program
abbrev pub ReadsAs : (text turns : List ℕ) → Program → Type 0
ReadsAs text turns P = inputs mosts text turns false ≡ accepted P

pub record StrippedAnswers (text turns : List ℕ) (r : Result Outcome Refusal) : Type 0 where
  pub answers : (P : Program) → ReadsAs text turns P → told r ≡ stripped_answer P turns

-- s is the guarded run's table on all turns; these are the ones that it plays
pub record ComparesRuns (text before s : List ℕ) (r : Bool) : Type 0 where
  pub compares : (P : Program) (turns p : List ℕ) (a : Result Outcome Refusal) → ReadsAs text before P → before ≡ take (played mosts P turns) turns → Holds P turns a p s
      → r ≡ guards_change_nothing P turns

pub record Examines (text turns p s : List ℕ) (r : Examined) : Type 0 where
  pub within : r.played ≤ length turns
  pub wide : length r.counts ≡ 85
  pub counts : (P : Program) (a : Result Outcome Refusal) → ReadsAs text turns P → Holds P turns a p s → r.counts ≡ tally mosts P turns
  pub before : (P : Program) (a : Result Outcome Refusal) → ReadsAs text turns P → Holds P turns a p s → r.played ≡ played mosts P turns
  pub stripped : (P : Program) (a : Result Outcome Refusal) → ReadsAs text turns P → Holds P turns a p s → told r.stripped ≡ stripped_answer P turns
  pub same : (P : Program) (a : Result Outcome Refusal) → ReadsAs text turns P → Holds P turns a p s → r.same ≡ guards_change_nothing P turns

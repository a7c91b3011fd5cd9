-- The run of the stripped script: all that holds of a run that was made holds of it. And condition 4 on one script and one list of turns.
use Rattle.std.specs.Prelude.{ℕ, ◌≡◌, Bool, false, List, take, Result}
use Rattle.rules.specs.Mosts.{mosts}
use Rattle.rules.specs.Reading.{Reading, turned_away, accepted}
use Rattle.rules.specs.Script.{Program}
use Rattle.rules.specs.Run.{run}
use Rattle.rules.specs.Stripped.{strip, erase}
use Rattle.rules.specs.Tables.{state_words}
use Rattle.rules.specs.Calls.{inputs}
use Rattle.table.specs.ProgramTable.{fresh_table, same_words}
use Rattle.rules.specs.declared.faults.Refusal.{Refusal}
use Rattle.run.specs.declared.Outcome.{Outcome}
use Rattle.run.specs.Made.{Made}
use Rattle.tally.specs.Fates.{played}

-- "once it is read, every K in it is changed to unsafe"; a refusal stays
abbrev pub stripped_of : Reading → Reading
stripped_of (turned_away k n) = turned_away k n
stripped_of (accepted P) = accepted (strip P)

pub record MakesStripped (text turns p s : List ℕ) (r : Result Outcome Refusal) (p₁ s₁ : List ℕ) : Type 0 where
  pub makes : p ≡ fresh_table → s ≡ fresh_table → Made (stripped_of (inputs mosts text turns false)) turns r p₁ s₁

-- "A script with its guards in gives the table it gave when all records were unsafe", capabilities aside: word for word, where the guarded run
-- ended or stopped, and after as many turns of the stripped one
unfoldable pub guards_change_nothing : Program → (turns : List ℕ) → Bool
guards_change_nothing P turns = same_words (state_words (erase (run mosts P turns).state)) (state_words (run mosts (strip P) (take (played mosts P turns) turns)).state)

-- Document 01's answer to a run, told by the code's Result and as numbers; and demand 3, said of what the code answers and leaves.
use Rattle.std.specs.Prelude.{ℕ, ◌≡◌, Bool, List, Result, Ok, Err, take}
use Rattle.rules.specs.declared.faults.Refusal.{Refusal}
use Rattle.rules.specs.Mosts as Most
use Rattle.rules.specs.Mosts.{mosts}
use Rattle.rules.specs.Numbers.{number}
use Rattle.rules.specs.Script.{Program}
use Rattle.rules.specs.Reading.{Reading, turned_away, accepted}
use Rattle.rules.specs.Run as R
use Rattle.rules.specs.Run.{finished, stuck, open_end, refused, ended, halted, run, answer}
use Rattle.rules.specs.Stripped.{Matches}
use Rattle.rules.specs.Tables.{state_words}
use Rattle.rules.specs.Calls.{lent_inputs, run_call, run_answer, program_after, state_after}
use Rattle.run.specs.declared.Outcome.{Outcome}
use Rattle.run.specs.declared.Outcome.TheVariants.{Finished, Stuck, Open, Stopped}

-- the code's answers as document 01's
abbrev pub outcome : Outcome → R.Answer
outcome (Finished m) = ended finished m
outcome (Stuck m) = ended stuck m
outcome (Open m) = ended open_end m
outcome (Stopped x) = halted (number x.fault) x.thread x.block x.line x.moves

abbrev pub told : Result Outcome Refusal → R.Answer
told (Err e) = refused (number e.fault) e.line
told (Ok x) = outcome x

-- which end it is
abbrev pub end_number : R.Answer → ℕ
end_number (ended finished m) = 0
end_number (ended stuck m) = 1
end_number (ended open_end m) = 2
end_number (halted k t b l m) = 3
end_number (refused k n) = 4

-- and its numbers, 0 where there is none
abbrev pub number_of : R.Answer → ℕ
number_of (ended e m) = 0
number_of (halted k t b l m) = k
number_of (refused k n) = k

abbrev pub thread_of : R.Answer → ℕ
thread_of (ended e m) = 0
thread_of (halted k t b l m) = t
thread_of (refused k n) = 0

abbrev pub block_of : R.Answer → ℕ
block_of (ended e m) = 0
block_of (halted k t b l m) = b
block_of (refused k n) = 0

abbrev pub line_of : R.Answer → ℕ
line_of (ended e m) = 0
line_of (halted k t b l m) = l
line_of (refused k n) = n

abbrev pub moves_of : R.Answer → ℕ
moves_of (ended e m) = m
moves_of (halted k t b l m) = m
moves_of (refused k n) = 0

pub record Tells (a : R.Answer) (end number thread block line moves : ℕ) : Type 0 where
  pub end_is : end ≡ end_number a
  pub number_is : number ≡ number_of a
  pub thread_is : thread ≡ thread_of a
  pub block_is : block ≡ block_of a
  pub line_is : line ≡ line_of a
  pub moves_is : moves ≡ moves_of a

-- the code's answer and its table are the guarded run's, and the stripped run matches it
pub record Guarded (P : Program) (turns : List ℕ) (r : Result Outcome Refusal) (state : List ℕ) : Type 0 where
  pub answers : told r ≡ answer mosts P (run mosts P turns)
  pub leaves : take Most.words state ≡ state_words (run mosts P turns).state
  pub matches : Matches mosts P turns

abbrev pub Demand3 : Reading → List ℕ → Result Outcome Refusal → List ℕ → Type 0
Demand3 (turned_away k n) turns r state = Unit {0}
Demand3 (accepted P) turns r state = Guarded P turns r state

-- what a run answers and leaves in the tables that it was lent, by what its inputs come to
pub record Ran (C : Reading) (turns program state : List ℕ) (r : Result Outcome Refusal) (program₁ state₁ : List ℕ) : Type 0 where
  pub answers : told r ≡ run_answer mosts turns C
  pub program_is : program₁ ≡ program_after C program
  pub state_is : state₁ ≡ state_after mosts turns C state
  pub demand_3 : Demand3 C turns r state₁

-- of its inputs as lent, where another slice of the call may be under its length
abbrev pub RunsInto : (text turns program state : List ℕ) → (short : Bool) → Result Outcome Refusal → (program₁ state₁ : List ℕ) → Type 0
RunsInto text turns program state short r program₁ state₁ = Ran (lent_inputs mosts text turns program state short) turns program state r program₁ state₁

-- "running a script on a list of turns"
abbrev pub Runs : (text turns program state : List ℕ) → Result Outcome Refusal → (program₁ state₁ : List ℕ) → Type 0
Runs text turns program state r program₁ state₁ = Ran (run_call mosts text turns program state) turns program state r program₁ state₁

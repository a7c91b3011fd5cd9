-- boxrun's input taken apart: the script's text and the list of turns.
use Rattle.std.specs.Prelude.{ℕ, ◌≤◌, ◌≡◌, cond, List, ltb, length, take, Option, None, Some, Result, Ok, Err, ⊤}
use Rattle.rules.specs.Mosts as Most
use Rattle.rules.specs.Numbers as No
use Rattle.rules.specs.Text.{lines, join}
use Rattle.rules.specs.Run.{refused}
use Rattle.rules.specs.Listing.{answer_line}
use Rattle.rules.specs.Input.{last_line, lines_before, Turns, fault, turns, turns_of}
use Rattle.rules.specs.declared.faults.Refusal.{Refusal}
use Rattle.listing.specs.Outputs.{run_text}
use Rattle.replay.specs.declared.Parts.{Parts}
use Rattle.replay.specs.declared.Misfit.{Misfit}

-- an input is turned away whole; or its last line has a fault, and what stands before it is still a text; or it is a text and a list of turns
pub data Given : Type 0 where
  away : (number : ℕ) → Given
  faulty : (text : List ℕ) → (number line : ℕ) → Given
  given : (text turns : List ℕ) → Given

-- "A fault in it, with its line in the input"
abbrev pub given_by : List (List ℕ) → Turns → Given
given_by before (fault k) = faulty (join before) k (length before)
given_by before (turns ts) = given (join before) ts

-- "boxrun reads standard input, at most 65,536 bytes: a script, then the last line (turns T ..)."
unfoldable pub given_of : List ℕ → Given
given_of input = cond (ltb Most.input (length input)) (away No.overlong) (given_by (lines_before (lines input)) (turns_of (last_line (lines input))))

-- the same with a list that is lent for the turns; "9 short table: a lent table or list under its length" comes after 1
unfoldable pub given_in : (input list : List ℕ) → Given
given_in input list = cond (ltb Most.input (length input)) (away No.overlong) (cond (ltb (length list) Most.turns) (away No.short_table) (given_of input))

-- what boxrun prints of it
abbrev pub printed_given : Given → List ℕ
printed_given (away k) = answer_line (refused k 0)
printed_given (faulty text k n) = answer_line (refused k n)
printed_given (given text ts) = run_text text ts

-- the code's answer: texts are fronts of the input, the turns stand at the front of the list
abbrev pub misfit_told : Refusal → Option ℕ → (input : List ℕ) → Given
misfit_told r None input = away (No.number r.fault)
misfit_told r (Some at) input = faulty (take at input) (No.number r.fault) r.line

abbrev pub told_of : Result Parts Misfit → (input list : List ℕ) → Given
told_of (Ok p) input list = given (take p.script input) (take p.turns list)
told_of (Err m) input list = misfit_told m.refusal m.script input

-- where the script ends, and how many bytes of the list count
abbrev pub cut_by : Option ℕ → ℕ
cut_by None = 0
cut_by (Some at) = at

abbrev pub cut_of : Result Parts Misfit → ℕ
cut_of (Ok p) = p.script
cut_of (Err m) = cut_by m.script

abbrev pub turns_in : Result Parts Misfit → ℕ
turns_in (Ok p) = p.turns
turns_in (Err m) = 0

-- an input that is turned away whole has no line to tell
abbrev pub TellsNone : Refusal → Option ℕ → Type 0
TellsNone r None = r.line ≡ 0
TellsNone r (Some at) = ⊤

abbrev pub TellsLine : Result Parts Misfit → Type 0
TellsLine (Ok p) = ⊤
TellsLine (Err m) = TellsNone m.refusal m.script

-- Free: what the list holds past the turns, or after a fault.
pub record Splits (input list : List ℕ) (r : Result Parts Misfit) (list₁ : List ℕ) : Type 0 where
  pub is : given_in input list ≡ told_of r input list₁
  pub cut : cut_of r ≤ length input
  pub few : turns_in r ≤ length list₁
  pub line : TellsLine r

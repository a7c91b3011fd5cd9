-- The stripped script as a text: what is printed of an input of boxrun is again one, or the line of a refusal.
use Rattle.std.specs.Prelude.{ℕ, ◌+◌, ◌≤◌, ◌<◌, ◌≡◌, false, List, ◌++◌, length, drop, Result, Ok, Err}
use Rattle.rules.specs.Mosts as Most
use Rattle.rules.specs.Mosts.{mosts}
use Rattle.rules.specs.Numbers as No
use Rattle.rules.specs.Reading.{Reading, turned_away, accepted}
use Rattle.rules.specs.Run.{refused}
use Rattle.rules.specs.Stripped.{strip}
use Rattle.rules.specs.Tables.{program_words}
use Rattle.rules.specs.Calls.{inputs}
use Rattle.rules.specs.Writer.{ReadsTo, NoneReadsTo}
use Rattle.rules.specs.Listing.{answer_line}
use Rattle.rules.specs.declared.faults.Refusal.{Refusal}
use Rattle.listing.specs.Outputs.{short_refusal}
use Rattle.replay.specs.Given.{Given, away, faulty, given, given_of}
use Rattle.printing.specs.Printing.{Tells}

-- ---- The text

-- of a table, before a line of turns
pub data SaysAgain (table last : List ℕ) : List ℕ → Type 0 where
  -- the script that reads to the table, and the line as it stands
  again : {text : List ℕ} → ReadsTo mosts table text → length text + length last ≤ Most.input → SaysAgain table last (text ++ last)
  -- "boxrun reads standard input, at most 65,536 bytes"
  too_long : {text : List ℕ} → ReadsTo mosts table text → Most.input < length text + length last → SaysAgain table last (answer_line (refused No.overlong 0))
  -- "18 no script, when no accepted text reads to this table": a text has at most 16,384 bytes
  no_script_again : NoneReadsTo mosts table → SaysAgain table last (answer_line (refused No.no_script 0))

-- of what a script and a list of turns come to
abbrev pub StrippedText : Reading → (last text : List ℕ) → Type 0
StrippedText (turned_away k n) last text = text ≡ answer_line (refused k n)
StrippedText (accepted P) last text = SaysAgain (program_words (strip P)) last text

-- of an input of boxrun: what stands after its script is its line of turns; with its refusals
abbrev pub StrippedGiven : (input : List ℕ) → Given → (text : List ℕ) → Type 0
StrippedGiven input (away k) text = text ≡ answer_line (refused k 0)
StrippedGiven input (faulty script k n) text = text ≡ answer_line (refused k n)
StrippedGiven input (given script ts) text = StrippedText (inputs mosts script ts false) (drop (length script) input) text

abbrev pub StrippedInput : (input text : List ℕ) → Type 0
StrippedInput input text = StrippedGiven input (given_of input) text

-- ---- In a lent output

-- a text of which Q holds is written and counted, or is the line of the refusal that is answered
pub record Says (Q : List ℕ → Type 0) (output : List ℕ) (r : Result ℕ Refusal) (output₁ : List ℕ) : Type 0 where
  pub text : List ℕ
  pub such : Q text
  pub tells : Tells text output r output₁

-- it holds a text of which Q holds, and past it what it held
pub record Prints (Q : List ℕ → Type 0) (output : List ℕ) (r : Result ℕ Refusal) (output₁ : List ℕ) : Type 0 where
  pub text : List ℕ
  pub such : Q text
  pub answers : r ≡ Ok (length text)
  pub leaves : output₁ ≡ text ++ drop (length text) output

pub record PrintsStripped (input output : List ℕ) (r : Result ℕ Refusal) (output₁ : List ℕ) : Type 0 where
  -- "9 short table: a lent table or list under its length": under as many bytes as an input may have
  pub short : length output < Most.input → (r ≡ Err short_refusal) × (output₁ ≡ output)
  pub prints : Most.input ≤ length output → Prints (StrippedInput input) output r output₁

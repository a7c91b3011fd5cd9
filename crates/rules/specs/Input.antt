-- boxrun's own reading of its input, and what it prints: "a script, then the last line (turns T ..)".
use Rattle.std.specs.Prelude.{ℕ, false, ◌||◌, cond, List, [], ◌∷◌, ltb, length}
use Rattle.rules.specs.declared.Mosts.{Mosts}
use Rattle.rules.specs.Mosts as Most
use Rattle.rules.specs.Numbers as No
use Rattle.rules.specs.Lists.{any}
use Rattle.rules.specs.Text.{lines, join}
use Rattle.rules.specs.Templates.{Taken, took, unfit, Part, Holds, template, fit, whole}
use Rattle.rules.specs.Reading.{Reading, turned_away, accepted, reading}
use Rattle.rules.specs.State.{State}
use Rattle.rules.specs.Run.{run, Answer, refused, answer}
use Rattle.rules.specs.Calls.{long_text, long_turns}
use Rattle.rules.specs.Listing.{answer_line, listing}

-- "That line is what follows the last LF that is not the input's final byte, or all of the input if there is none."
unfoldable pub last_line : List (List ℕ) → List ℕ
last_line [] = []
last_line (l ∷ []) = l
last_line (l ∷ k ∷ ls) = last_line (k ∷ ls)

unfoldable pub lines_before : List (List ℕ) → List (List ℕ)
lines_before [] = []
lines_before (l ∷ []) = []
lines_before (l ∷ k ∷ ls) = l ∷ lines_before (k ∷ ls)

abbrev pub turns_t : List Part
turns_t = template "(turnsD)\n"

-- "A fault in it .. : 3, also for a stray byte or empty input, then 4 for a number over 255."
pub data Turns : Type 0 where
  fault : (number : ℕ) → Turns
  turns : List ℕ → Turns

abbrev pub turns_by : Taken (Holds turns_t) → Turns
turns_by unfit = fault No.malformed
turns_by (took p l) = cond (any (ltb Most.number) p.0) (fault No.over_count) (turns p.0)

unfoldable pub turns_of : List ℕ → Turns
turns_of l = turns_by (whole (fit turns_t l))

-- what boxrun prints from: an answer, and for one that is no refusal the state that the run left
pub data Outcome : Type 0 where
  turns_away : (number line : ℕ) → Outcome
  ran : Answer → State → Outcome

abbrev pub ran_on : Mosts → List ℕ → Reading → Outcome
ran_on m ts (turned_away k n) = turns_away k n
ran_on m ts (accepted P) = let r = run m P ts in ran (answer m P r) r.state

-- "A fault in it, with its line in the input, is found before the script's". The tables that boxrun lends are never short.
abbrev pub outcome_by : Mosts → List (List ℕ) → Turns → Outcome
outcome_by m before (fault k) = turns_away k (length before)
outcome_by m before (turns ts) = let text = join before in ran_on m ts (reading m (long_text text || long_turns ts) false text)

-- "boxrun reads standard input, at most 65,536 bytes"; "(1 for long input has line 0)"
unfoldable pub outcome : Mosts → List ℕ → Outcome
outcome m input =
    cond (ltb Most.input (length input)) (turns_away No.overlong 0)
    (outcome_by m (lines_before (lines input)) (turns_of (last_line (lines input))))

abbrev pub printed : Outcome → List ℕ
printed (turns_away k n) = answer_line (refused k n)
printed (ran a S) = listing a S

unfoldable pub boxrun : Mosts → List ℕ → List ℕ
boxrun m input = printed (outcome m input)

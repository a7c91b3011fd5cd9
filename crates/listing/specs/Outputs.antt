-- The printed run in a lent output. `printed_in`, `printed_of` and what they leave speak of any text.
use Rattle.std.specs.Prelude.{ℕ, Result, Ok, Err, false, ◌||◌, cond, List, ◌++◌, ltb, length, drop}
use Rattle.rules.specs.Mosts.{mosts}
use Rattle.rules.specs.Reading.{reading}
use Rattle.rules.specs.Calls.{long_text, long_turns}
use Rattle.rules.specs.Listing.{answer_line}
use Rattle.rules.specs.Input.{ran_on, printed}
use Rattle.rules.specs.Run as R
use Rattle.rules.specs.Run.{finished, stuck, open_end, refused, ended, halted}
use Rattle.listing.specs.declared.answers.Answer.{Answer}
use Rattle.listing.specs.declared.answers.Answer.TheVariants.{Refused, Finished, Stuck, Open, Stopped}
use Rattle.rules.specs.declared.faults.Fault.TheVariants.{ShortTable}
use Rattle.rules.specs.declared.faults.Refusal.{Refusal}

-- what document 01 prints of a script and a list of turns, refusals included
unfoldable pub run_text : (text turns : List ℕ) → List ℕ
run_text text turns = printed (ran_on mosts turns (reading mosts (long_text text || long_turns turns) false text))

-- "9 short table: a lent table or list under its length", with line 0
abbrev pub short_refusal : Refusal
short_refusal = record { fault = ShortTable; line = 0 }

-- in a lent output that must have `room` bytes: it is refused, or the text's bytes are counted
abbrev pub printed_in : (room : ℕ) → (text output : List ℕ) → Result ℕ Refusal
printed_in room text output = cond (ltb (length output) room) (Err short_refusal) (Ok (length text))

-- "Numbers 1 to 9 change no lent word."; otherwise the text stands first, and the bytes past it keep their value
abbrev pub output_in : (room : ℕ) → (text output : List ℕ) → List ℕ
output_in room text output = cond (ltb (length output) room) output (text ++ drop (length text) output)

-- how many bytes the output of a printed run needs: every listing fits
abbrev pub output_bytes : ℕ
output_bytes = 32768

unfoldable pub printed_of : (text output : List ℕ) → Result ℕ Refusal
printed_of text output = printed_in output_bytes text output

unfoldable pub output_after : (text output : List ℕ) → List ℕ
output_after text output = output_in output_bytes text output

-- what a run answers, in the code's numbers, as document 01's answer
abbrev pub in_numbers : Answer → R.Answer
in_numbers (Refused k n) = refused k n
in_numbers (Finished m) = ended finished m
in_numbers (Stuck m) = ended stuck m
in_numbers (Open m) = ended open_end m
in_numbers (Stopped k t b l m) = halted k t b l m

-- and its line
abbrev pub answer_text : Answer → List ℕ
answer_text a = answer_line (in_numbers a)

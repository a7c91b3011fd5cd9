-- What the box offers, as functions of what is lent: the answer, and every lent word afterwards.
use Rattle.std.specs.Prelude.{ℕ, Bool, true, false, ◌||◌, List, ◌++◌, ltb, length, drop}
use Rattle.rules.specs.declared.Mosts.{Mosts}
use Rattle.rules.specs.Mosts as Most
use Rattle.rules.specs.Numbers as No
use Rattle.rules.specs.Lists.{pad}
use Rattle.rules.specs.Reading.{Reading, turned_away, accepted, reading}
use Rattle.rules.specs.Script.{Program}
use Rattle.rules.specs.State.{State}
use Rattle.rules.specs.Run.{run, Answer, refused, answer}
use Rattle.rules.specs.Reach.{roots, reach_list}
use Rattle.rules.specs.Holders.{holders}
use Rattle.rules.specs.Tables.{program_words, state_words}

-- "1 overlong: text or turns too long", "9 short table: a lent table or list under its length"
unfoldable pub long_text : List ℕ → Bool
long_text text = ltb Most.text (length text)

unfoldable pub long_turns : List ℕ → Bool
long_turns turns = ltb Most.turns (length turns)

unfoldable pub short_table : List ℕ → Bool
short_table table = ltb (length table) Most.words

-- ---- "reading a script into a program table"

unfoldable pub read_call : Mosts → (text program : List ℕ) → Reading
read_call m text program = reading m (long_text text) (short_table program) text

-- "Numbers 1 to 9 change no lent word." "words past them keep their value"
abbrev pub program_after : Reading → List ℕ → List ℕ
program_after (turned_away k n) program = program
program_after (accepted P) program = program_words P ++ drop Most.words program

-- ---- "running a script on a list of turns"

-- a run's inputs, and whether any lent slice is under its length
unfoldable pub inputs : Mosts → (text turns : List ℕ) → (short : Bool) → Reading
inputs m text turns short = reading m (long_text text || long_turns turns) short text

-- with both tables as lent, and whether another slice of the call is under its length
unfoldable pub lent_inputs : Mosts → (text turns program state : List ℕ) → (short : Bool) → Reading
lent_inputs m text turns program state short = inputs m text turns (short_table program || (short_table state || short))

unfoldable pub run_call : Mosts → (text turns program state : List ℕ) → Reading
run_call m text turns program state = lent_inputs m text turns program state false

abbrev pub run_answer : Mosts → List ℕ → Reading → Answer
run_answer m turns (turned_away k n) = refused k n
run_answer m turns (accepted P) = answer m P (run m P turns)

abbrev pub state_after : Mosts → List ℕ → Reading → List ℕ → List ℕ
state_after m turns (turned_away k n) state = state
state_after m turns (accepted P) state = state_words (run m P turns).state ++ drop Most.words state

-- ---- "a reach report": "takes a run's inputs, a thread and a list of 256 words. It runs, then lists ..., then zeros, with their number."

unfoldable pub reach_call : Mosts → (text turns program state list : List ℕ) → Reading
reach_call m text turns program state list = lent_inputs m text turns program state (ltb (length list) Most.reach_list)

pub data Report : Type 0 where
  unreported : (number line : ℕ) → Report
  reached : (objects : List ℕ) → Report

-- on the state S of a run of P: "17 no thread: report on a thread never started", "17 comes last"
abbrev pub report_on : Program → State → ℕ → (started : Bool) → Report
report_on P S t true = reached (reach_list S.objects (roots P S t))
report_on P S t false = unreported No.no_thread 0

abbrev pub reach_report : Mosts → (turns : List ℕ) → (thread : ℕ) → Reading → Report
reach_report m turns t (turned_away k n) = unreported k n
reach_report m turns t (accepted P) = let S = (run m P turns).state in report_on P S t (ltb t (length S.threads))

-- "lists every object reached .., then zeros"
abbrev pub list_words : List ℕ → List ℕ
list_words objects = pad Most.reach_list 0 objects

-- where nothing is reported "the list keeps its words"
abbrev pub list_after : Report → List ℕ → List ℕ
list_after (unreported k n) list = list
list_after (reached objects) list = list_words objects ++ drop Most.reach_list list

-- ---- document 02, L7: "takes a run's inputs and an object number and gives the stored count"; its inputs are those of run_call

pub data Count : Type 0 where
  uncounted : (number line : ℕ) → Count
  counted : (places : ℕ) → Count

-- in the state S of a run: "21 no object, when the number was never made, checked after the run's own refusals 1 to 9"
abbrev pub count_on : State → ℕ → (made : Bool) → Count
count_on S n true = counted (holders S n)
count_on S n false = uncounted No.no_object 0

abbrev pub holder_count : Mosts → (turns : List ℕ) → (object : ℕ) → Reading → Count
holder_count m turns n (turned_away k l) = uncounted k l
holder_count m turns n (accepted P) = let S = (run m P turns).state in count_on S n (ltb n (length S.objects))

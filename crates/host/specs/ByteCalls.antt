-- The calls of documents 01 and 02 for a host that lends bytes: the answer as numbers, and every lent byte afterwards.
use Rattle.std.specs.Prelude.{ℕ, ◌*◌, ◌≡◌, Bool, false, ◌||◌, List, ltb, length, take, Option, Result, Ok, Err}
use Rattle.rules.specs.declared.faults.Refusal.{Refusal}
use Rattle.rules.specs.Mosts as Most
use Rattle.rules.specs.Numbers as No
use Rattle.rules.specs.Mosts.{mosts}
use Rattle.rules.specs.Script.{Program}
use Rattle.rules.specs.Reading.{Reading, turned_away, accepted, reading}
use Rattle.rules.specs.Run.{run, answer}
use Rattle.rules.specs.Stripped.{Matches}
use Rattle.rules.specs.Tables.{program_words, state_words}
use Rattle.rules.specs.Calls.{long_text, inputs, run_answer, Report, unreported, reached, reach_report, list_words, Count, uncounted, counted, holder_count}
use Rattle.rules.specs.Drawing.{Drawn, undrawn, drawn, drawn_of, buffer_after}
use Rattle.rules.specs.Races.{Verdict, norace, race, Judged, unjudged, judged, judged_of}
use Rattle.rules.specs.Writer as Writer
use Rattle.rules.specs.Writer.{refused, wrote, WriteCall}
use Rattle.reader.specs.ReadAnswers.{number_of, line_of}
use Rattle.run.specs.declared.Outcome.{Outcome}
use Rattle.run.specs.RunAnswers.{told, Tells}
use Rattle.run.specs.Made.{Made}
use Rattle.reach.specs.Reported as Reach
use Rattle.races.specs.declared.Race.{Race}
use Rattle.races.specs.Judged as Races
use Rattle.holders.specs.StoredCounts as Holders
use Rattle.drawing.specs.Drawings.{Drew}
use Rattle.host.specs.Bytes.{bytes_of, bytes_after, words_of}

-- "9 short table: a lent table or list under its length", which is n words
unfoldable pub short_bytes : ℕ → List ℕ → Bool
short_bytes n bytes = ltb (length bytes) (2 * n)

-- "Numbers 1 to 9 change no lent word."
abbrev pub table_after : (Program → List ℕ) → Reading → List ℕ → List ℕ
table_after words (turned_away k n) table = table
table_after words (accepted P) table = bytes_after Most.words (words P) table

-- ---- "reading a script into a program table"

unfoldable pub read_bytes : (text program : List ℕ) → Reading
read_bytes text program = reading mosts (long_text text) (short_bytes Most.words program) text

-- what is answered, and every byte lent, by what the inputs come to
pub record HasRead (C : Reading) (program : List ℕ) (number line : ℕ) (program₁ : List ℕ) : Type 0 where
  pub number_is : number ≡ number_of C
  pub line_is : line ≡ line_of C
  pub program_is : program₁ ≡ table_after program_words C program

abbrev pub ReadsBytes : (text program : List ℕ) → (number line : ℕ) → (program₁ : List ℕ) → Type 0
ReadsBytes text program number line program₁ = HasRead (read_bytes text program) program number line program₁

-- ---- "running a script on a list of turns"

-- a run's inputs with both tables as lent, and whether another slice of the call is under its length
unfoldable pub lent_bytes : (text turns program state : List ℕ) → (short : Bool) → Reading
lent_bytes text turns program state short = inputs mosts text turns (short_bytes Most.words program || (short_bytes Most.words state || short))

unfoldable pub run_bytes : (text turns program state : List ℕ) → Reading
run_bytes text turns program state = lent_bytes text turns program state false

-- the words that the state table holds
unfoldable pub ran_words : List ℕ → Program → List ℕ
ran_words turns P = state_words (run mosts P turns).state

-- the run was made in two fresh tables, p and s, and both are stored; or nothing is
pub record Stores (C : Reading) (turns program state : List ℕ) (r : Result Outcome Refusal) (p s program₁ state₁ : List ℕ) : Type 0 where
  pub made : Made C turns r p s
  pub program_is : program₁ ≡ table_after program_words C program
  pub state_is : state₁ ≡ table_after (ran_words turns) C state

abbrev pub MakesBytes : (text turns program state : List ℕ) → (short : Bool) → Result Outcome Refusal → (p s program₁ state₁ : List ℕ) → Type 0
MakesBytes text turns program state short r p s program₁ state₁ = Stores (lent_bytes text turns program state short) turns program state r p s program₁ state₁

-- the code's answer by its numbers
abbrev pub TellsAnswer : Result Outcome Refusal → (end number thread block line moves : ℕ) → Type 0
TellsAnswer r end number thread block line moves = Tells (told r) end number thread block line moves

-- a refusal or a count by its numbers: that of the refusal, 0 for none; the count, 0 where there is none; the refusal's line
abbrev pub CountInNumbers : Result ℕ Refusal → (number count line : ℕ) → Type 0
CountInNumbers (Ok n) k count line = (k ≡ 0) × (count ≡ n) × (line ≡ 0)
CountInNumbers (Err e) k count line = (k ≡ No.number e.fault) × (count ≡ 0) × (line ≡ e.line)

-- demand 3: the numbers and the bytes are the guarded run's, and the stripped run matches it
pub record Guarded (P : Program) (turns : List ℕ) (end number thread block line moves : ℕ) (state : List ℕ) : Type 0 where
  pub answers : Tells (answer mosts P (run mosts P turns)) end number thread block line moves
  pub leaves : take (2 * Most.words) state ≡ bytes_of (ran_words turns P)
  pub matches : Matches mosts P turns

abbrev pub Demand3 : Reading → List ℕ → (end number thread block line moves : ℕ) → List ℕ → Type 0
Demand3 (turned_away k n) turns end number thread block line moves state = Unit {0}
Demand3 (accepted P) turns end number thread block line moves state = Guarded P turns end number thread block line moves state

pub record HasRun (C : Reading) (turns program state : List ℕ) (end number thread block line moves : ℕ) (program₁ state₁ : List ℕ) : Type 0 where
  pub answers : Tells (run_answer mosts turns C) end number thread block line moves
  pub program_is : program₁ ≡ table_after program_words C program
  pub state_is : state₁ ≡ table_after (ran_words turns) C state
  pub demand_3 : Demand3 C turns end number thread block line moves state₁

abbrev pub RunsBytes : (text turns program state : List ℕ) → (end number thread block line moves : ℕ) → (program₁ state₁ : List ℕ) → Type 0
RunsBytes text turns program state end number thread block line moves program₁ state₁ =
    HasRun (run_bytes text turns program state) turns program state end number thread block line moves program₁ state₁

-- ---- "a reach report"

unfoldable pub reach_bytes : (text turns program state list : List ℕ) → Reading
reach_bytes text turns program state list = lent_bytes text turns program state (short_bytes Most.reach_list list)

-- the report as numbers: that of the refusal, 0 for none; its line; the count of objects, 0 where there is none
abbrev pub report_number : Report → ℕ
report_number (unreported k n) = k
report_number (reached objects) = 0

abbrev pub report_line : Report → ℕ
report_line (unreported k n) = n
report_line (reached objects) = 0

abbrev pub report_count : Report → ℕ
report_count (unreported k n) = 0
report_count (reached objects) = length objects

-- "the list keeps its words"
abbrev pub list_bytes : Report → List ℕ → List ℕ
list_bytes (unreported k n) list = list
list_bytes (reached objects) list = bytes_after Most.reach_list (list_words objects) list

pub record Reports (R : Report) (list : List ℕ) (number count line : ℕ) (list₁ : List ℕ) : Type 0 where
  pub number_is : number ≡ report_number R
  pub count_is : count ≡ report_count R
  pub line_is : line ≡ report_line R
  pub list_is : list₁ ≡ list_bytes R list

-- the code's own answer, and what it leaves
pub record HasListed (C : Reading) (turns : List ℕ) (thread : ℕ) (program state list : List ℕ) (r : Result ℕ Refusal) (program₁ state₁ list₁ : List ℕ) : Type 0 where
  pub answers : Reach.Answers (reach_report mosts turns thread C) r
  pub list_is : list₁ ≡ list_bytes (reach_report mosts turns thread C) list
  pub program_is : program₁ ≡ table_after program_words C program
  pub state_is : state₁ ≡ table_after (ran_words turns) C state

abbrev pub ListsBytes : (text turns program state : List ℕ) → (thread : ℕ) → (list : List ℕ) → Result ℕ Refusal → (program₁ state₁ list₁ : List ℕ) → Type 0
ListsBytes text turns program state thread list r program₁ state₁ list₁ =
    HasListed (reach_bytes text turns program state list) turns thread program state list r program₁ state₁ list₁

pub record HasReported (C : Reading) (turns : List ℕ) (thread : ℕ) (program state list : List ℕ) (number count line : ℕ) (program₁ state₁ list₁ : List ℕ) : Type 0 where
  pub report : Reports (reach_report mosts turns thread C) list number count line list₁
  pub program_is : program₁ ≡ table_after program_words C program
  pub state_is : state₁ ≡ table_after (ran_words turns) C state

abbrev pub ReachesBytes : (text turns program state : List ℕ) → (thread : ℕ) → (list : List ℕ) → (number count line : ℕ) → (program₁ state₁ list₁ : List ℕ) → Type 0
ReachesBytes text turns program state thread list number count line program₁ state₁ list₁ =
    HasReported (reach_bytes text turns program state list) turns thread program state list number count line program₁ state₁ list₁

-- ---- document 02, L7: "takes a run's inputs and an object number and gives the stored count"; its inputs are those of run_bytes

-- the answer as numbers: that of the refusal, 0 for none; its line; how many places hold the object, 0 where none is told
abbrev pub count_number : Count → ℕ
count_number (uncounted k n) = k
count_number (counted places) = 0

abbrev pub count_line : Count → ℕ
count_line (uncounted k n) = n
count_line (counted places) = 0

abbrev pub count_places : Count → ℕ
count_places (uncounted k n) = 0
count_places (counted places) = places

pub record TellsCount (N : Count) (number count line : ℕ) : Type 0 where
  pub number_is : number ≡ count_number N
  pub count_is : count ≡ count_places N
  pub line_is : line ≡ count_line N

-- the code's own answer, and what it leaves
pub record HasAsked (C : Reading) (turns : List ℕ) (object : ℕ) (program state : List ℕ) (r : Result ℕ Refusal) (program₁ state₁ : List ℕ) : Type 0 where
  pub answers : Holders.Answers (holder_count mosts turns object C) r
  pub program_is : program₁ ≡ table_after program_words C program
  pub state_is : state₁ ≡ table_after (ran_words turns) C state

abbrev pub AsksBytes : (text turns program state : List ℕ) → (object : ℕ) → Result ℕ Refusal → (program₁ state₁ : List ℕ) → Type 0
AsksBytes text turns program state object r program₁ state₁ = HasAsked (run_bytes text turns program state) turns object program state r program₁ state₁

pub record HasCounted (C : Reading) (turns : List ℕ) (object : ℕ) (program state : List ℕ) (number count line : ℕ) (program₁ state₁ : List ℕ) : Type 0 where
  pub told : TellsCount (holder_count mosts turns object C) number count line
  pub program_is : program₁ ≡ table_after program_words C program
  pub state_is : state₁ ≡ table_after (ran_words turns) C state

abbrev pub CountsBytes : (text turns program state : List ℕ) → (object number count line : ℕ) → (program₁ state₁ : List ℕ) → Type 0
CountsBytes text turns program state object number count line program₁ state₁ =
    HasCounted (run_bytes text turns program state) turns object program state number count line program₁ state₁

-- ---- document 02, L8: "takes a run's inputs and a lent buffer of 65,536 bytes and gives the length"

unfoldable pub draw_bytes : (text turns program state buffer : List ℕ) → Reading
draw_bytes text turns program state buffer = lent_bytes text turns program state (ltb (length buffer) Most.drawing)

-- the answer as numbers: that of the refusal, 0 for none; its line; how many bytes are written, 0 where there are none
abbrev pub drawn_number : Drawn → ℕ
drawn_number (undrawn k n) = k
drawn_number (drawn text) = 0

abbrev pub drawn_line : Drawn → ℕ
drawn_line (undrawn k n) = n
drawn_line (drawn text) = 0

abbrev pub drawn_length : Drawn → ℕ
drawn_length (undrawn k n) = 0
drawn_length (drawn text) = length text

pub record Draws (D : Drawn) (buffer : List ℕ) (number written line : ℕ) (buffer₁ : List ℕ) : Type 0 where
  pub number_is : number ≡ drawn_number D
  pub written_is : written ≡ drawn_length D
  pub line_is : line ≡ drawn_line D
  pub buffer_is : buffer₁ ≡ buffer_after D buffer

-- the code's own answer, and what it leaves
pub record HasPictured (C : Reading) (turns program state buffer : List ℕ) (r : Result ℕ Refusal) (program₁ state₁ buffer₁ : List ℕ) : Type 0 where
  pub drew : Drew (drawn_of mosts turns C) buffer r buffer₁
  pub program_is : program₁ ≡ table_after program_words C program
  pub state_is : state₁ ≡ table_after (ran_words turns) C state

abbrev pub PicturesBytes : (text turns program state buffer : List ℕ) → Result ℕ Refusal → (program₁ state₁ buffer₁ : List ℕ) → Type 0
PicturesBytes text turns program state buffer r program₁ state₁ buffer₁ =
    HasPictured (draw_bytes text turns program state buffer) turns program state buffer r program₁ state₁ buffer₁

pub record HasDrawn (C : Reading) (turns program state buffer : List ℕ) (number written line : ℕ) (program₁ state₁ buffer₁ : List ℕ) : Type 0 where
  pub drew : Draws (drawn_of mosts turns C) buffer number written line buffer₁
  pub program_is : program₁ ≡ table_after program_words C program
  pub state_is : state₁ ≡ table_after (ran_words turns) C state

abbrev pub DrawsBytes : (text turns program state buffer : List ℕ) → (number written line : ℕ) → (program₁ state₁ buffer₁ : List ℕ) → Type 0
DrawsBytes text turns program state buffer number written line program₁ state₁ buffer₁ =
    HasDrawn (draw_bytes text turns program state buffer) turns program state buffer number written line program₁ state₁ buffer₁

-- ---- document 02, L9: "an entry that takes a run's inputs, with at most 1,024 turns .. More turns are 1 there."

unfoldable pub race_bytes : (text turns program state : List ℕ) → Reading
race_bytes text turns program state =
    reading mosts (long_text text || ltb Most.race_turns (length turns)) (short_bytes Most.words program || short_bytes Most.words state) text

-- "Its tables then hold the run.": the code's own answer, and what it leaves
pub record HasFound (C : Reading) (turns program state : List ℕ) (r : Result (Option Race) Refusal) (program₁ state₁ : List ℕ) : Type 0 where
  pub answers : Races.Answers (judged_of mosts turns C) r
  pub program_is : program₁ ≡ table_after program_words C program
  pub state_is : state₁ ≡ table_after (ran_words turns) C state

abbrev pub FindsBytes : (text turns program state : List ℕ) → Result (Option Race) Refusal → (program₁ state₁ : List ℕ) → Type 0
FindsBytes text turns program state r program₁ state₁ = HasFound (race_bytes text turns program state) turns program state r program₁ state₁

-- the answer as numbers: that of the refusal, 0 for none; its line
abbrev pub judged_number : Judged → ℕ
judged_number (unjudged k n) = k
judged_number (judged v) = 0

abbrev pub judged_line : Judged → ℕ
judged_line (unjudged k n) = n
judged_line (judged v) = 0

-- with a refusal there is no race
abbrev pub verdict_in : Judged → Verdict
verdict_in (unjudged k n) = norace
verdict_in (judged v) = v

-- 1 for a race, its two turns, its object and its field: "zeros where there is none"
abbrev pub is_race : Verdict → ℕ
is_race norace = 0
is_race (race i j n f) = 1

abbrev pub first_turn : Verdict → ℕ
first_turn norace = 0
first_turn (race i j n f) = i

abbrev pub second_turn : Verdict → ℕ
second_turn norace = 0
second_turn (race i j n f) = j

abbrev pub race_object : Verdict → ℕ
race_object norace = 0
race_object (race i j n f) = n

abbrev pub race_field : Verdict → ℕ
race_field norace = 0
race_field (race i j n f) = f

pub record TellsRace (J : Judged) (number found first second object field line : ℕ) : Type 0 where
  pub number_is : number ≡ judged_number J
  pub found_is : found ≡ is_race (verdict_in J)
  pub first_is : first ≡ first_turn (verdict_in J)
  pub second_is : second ≡ second_turn (verdict_in J)
  pub object_is : object ≡ race_object (verdict_in J)
  pub field_is : field ≡ race_field (verdict_in J)
  pub line_is : line ≡ judged_line J

-- the code's answer by its numbers
pub record TellsFound (r : Result (Option Race) Refusal) (number found first second object field line : ℕ) : Type 0 where
  pub tells : (J : Judged) → Races.Answers J r → TellsRace J number found first second object field line

pub record HasRaced (C : Reading) (turns program state : List ℕ) (number found first second object field line : ℕ) (program₁ state₁ : List ℕ) : Type 0 where
  pub told : TellsRace (judged_of mosts turns C) number found first second object field line
  pub program_is : program₁ ≡ table_after program_words C program
  pub state_is : state₁ ≡ table_after (ran_words turns) C state

abbrev pub RacesBytes : (text turns program state : List ℕ) → (number found first second object field line : ℕ) → (program₁ state₁ : List ℕ) → Type 0
RacesBytes text turns program state number found first second object field line program₁ state₁ =
    HasRaced (race_bytes text turns program state) turns program state number found first second object field line program₁ state₁

-- ---- document 02, L2: "write a script back out"

-- the answer as numbers: that of the refusal, 0 for none; how many bytes are written, 0 where there are none
abbrev pub write_number : Writer.Answer → ℕ
write_number (refused k) = k
write_number (wrote n) = 0

abbrev pub write_length : Writer.Answer → ℕ
write_length (refused k) = 0
write_length (wrote n) = n

-- document 02's call on the words that the program table's bytes are
pub record WritesBytes (program script : List ℕ) (number length : ℕ) (after : List ℕ) : Type 0 where
  pub answer : Writer.Answer
  pub writes : WriteCall mosts (words_of program) script answer after
  pub number_is : number ≡ write_number answer
  pub length_is : length ≡ write_length answer

-- Document 02, L2, "Write a script back out": what the writer answers, and what it leaves in the lent buffer.
use Rattle.std.specs.Prelude.{ℕ, ◌≡◌, Bool, true, false, ◌||◌, List, ◌++◌, ◌⊎◌, ltb, length, take, drop}
use Rattle.rules.specs.declared.Mosts.{Mosts}
use Rattle.rules.specs.Mosts as Most
use Rattle.rules.specs.Numbers as No
use Rattle.rules.specs.Reading.{accepted}
use Rattle.rules.specs.Script.{Program}
use Rattle.rules.specs.Tables.{program_words}
use Rattle.rules.specs.Calls.{short_table, read_call, program_after}

-- "accepted text reads to this table": the call that reads it into this table accepts it, and these are the words that it would write
pub record ReadsTo (m : Mosts) (table text : List ℕ) : Type 0 where
  pub program : Program
  pub reads : read_call m text table ≡ accepted program
  pub words : take Most.words table ≡ program_words program

-- "no accepted text reads to this table"
abbrev pub NoneReadsTo : Mosts → List ℕ → Type 0
NoneReadsTo m table = (text : List ℕ) → ReadsTo m table text → ⊥

-- "The writer says how many bytes it wrote"; or it turns the table away, with a number
pub data Answer : Type 0 where
  refused : (number : ℕ) → Answer
  wrote : (bytes : ℕ) → Answer

-- the text is written, "and the buffer's other bytes stay"
pub record Written (text buffer : List ℕ) (answer : Answer) (after : List ℕ) : Type 0 where
  pub answers : answer ≡ wrote (length text)
  pub leaves : after ≡ text ++ drop (length text) buffer

-- "A refusal keeps the buffer's bytes."
pub record TurnedAway (number : ℕ) (buffer : List ℕ) (answer : Answer) (after : List ℕ) : Type 0 where
  pub answers : answer ≡ refused number
  pub leaves : after ≡ buffer

-- on a table and a buffer that are long enough
pub record Writes (m : Mosts) (table buffer : List ℕ) (answer : Answer) (after : List ℕ) : Type 0 where
  -- "Every text that the reader accepts comes back byte for byte from its table."
  pub comes_back : (text : List ℕ) → ReadsTo m table text → Written text buffer answer after
  -- "18 no script, when no accepted text reads to this table"
  pub no_script_answers : NoneReadsTo m table → TurnedAway No.no_script buffer answer after
  -- one of the two it is, whatever words the table has
  pub decided : ((text : List ℕ) × ReadsTo m table text) ⊎ NoneReadsTo m table

-- "Given a program table and a lent buffer of 16,384 bytes"; "checked after 9"
unfoldable pub short_buffer : List ℕ → Bool
short_buffer buffer = ltb (length buffer) Most.text

abbrev pub WritesUnless : (short : Bool) → Mosts → (table buffer : List ℕ) → Answer → List ℕ → Type 0
WritesUnless true m table buffer answer after = TurnedAway No.short_table buffer answer after
WritesUnless false m table buffer answer after = Writes m table buffer answer after

abbrev pub WriteCall : Mosts → (table buffer : List ℕ) → Answer → List ℕ → Type 0
WriteCall m table buffer answer after = WritesUnless (short_table table || short_buffer buffer) m table buffer answer after

-- The same over texts: read into any table that is long enough, and written from there into any buffer that is.
abbrev pub ComesBack : Mosts → Type 0
ComesBack m = (text table buffer : List ℕ) (P : Program) → read_call m text table ≡ accepted P → short_buffer buffer ≡ false
    → (answer : Answer) (after : List ℕ) → WriteCall m (program_after (accepted P) table) buffer answer after → Written text buffer answer after

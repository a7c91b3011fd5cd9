-- A text that was read comes back: read again into its table it is accepted again, so it is one of the texts of which the writer's contract speaks.
-- Which texts read to a table is told by its first words: every table that is long enough accepts the same texts.
use Prim.Native.Nat.{ℕ, ◌≤◌}
use native.Mathlib.Nat.{le_refl}
use native.Mathlib.Omega.{arith}
use mathlib.Core.Path.{◌≡◌, sym, ◌∙◌}
use mathlib.Core.Bool.{Bool, true, false}
use mathlib.Core.List.{List, ◌++◌, map}
use mathlib.Core.Logic.{◌⊎◌, inl, inr}
use lib.ListN.{length, take, drop, length-append}
use lib.Seq.{take-append_seam, length-take-le, take-take}
use borrow.Author.Tests.{ltb-false, le-ltb}
use Rattle.rules.specs.declared.Mosts.{Mosts}
use Rattle.rules.specs.Mosts as Most
use Rattle.rules.specs.Text.{join}
use Rattle.rules.specs.Script.{Program, lines_of}
use Rattle.rules.specs.Templates.{show, head_of}
use Rattle.rules.specs.Reading.{nothing, reading, accepted, script}
use Rattle.rules.specs.Valid.{Valid}
use Rattle.rules.specs.Tables.{program_words}
use Rattle.rules.specs.Calls.{long_text, short_table, read_call, program_after}
use Rattle.rules.specs.Writer.{ReadsTo, NoneReadsTo, Answer, Written, Writes, short_buffer, WritesUnless, WriteCall, ComesBack}
use Rattle.rules.proofs.Scanned.{Scanned}
use Rattle.rules.proofs.Accepted.{accepted_valid, accepted_scanned, accepted_prints, reading_accepted}
use Rattle.rules.proofs.TableWords.{program_words_length}

-- a text in which reading meets none of 1 to 8 reads into every table that is long enough
pub reads_into : (m : Mosts) (text : List ℕ) (P : Program) → long_text text ≡ false → script m text ≡ accepted P → (table : List ℕ) → Most.words ≤ length table
    → read_call m text table ≡ accepted P
unfolding read_call short_table reading
reads_into m text P short is table long = rw (le-ltb (length table) Most.words long, short) is

-- ---- A text that some table was long enough for

module _ (m : Mosts) (text table : List ℕ) (P : Program) (read : read_call m text table ≡ accepted P) where
  met_none : (long_text text ≡ false) × (short_table table ≡ false) × (script m text ≡ accepted P)
  unfolding read_call
  met_none = reading_accepted m (long_text text) (short_table table) text P read

  pub read_length : length text ≤ Most.text
  unfolding long_text
  read_length = ltb-false _ _ met_none.0

  pub read_scanned : Scanned m (nothing P.edition) (lines_of P)
  read_scanned = accepted_scanned m text P met_none.2

  pub read_prints : text ≡ head_of P.edition ++ join (map show (lines_of P))
  read_prints = accepted_prints m text P met_none.2

  pub read_valid : Valid m P
  read_valid = accepted_valid m text P met_none.2

  -- it reads into every table that is
  pub read_again : (other : List ℕ) → Most.words ≤ length other → read_call m text other ≡ accepted P
  read_again = reads_into m text P met_none.0 met_none.2

-- ---- Only a table's first words matter

-- to a table with the same first words
reads_to_same_words : (m : Mosts) (table other text : List ℕ) → Most.words ≤ length other → take Most.words table ≡ take Most.words other → ReadsTo m table text → ReadsTo m other text
reads_to_same_words m table other text long same reads =
    record {
      program = reads.program;
      reads = read_again m text table reads.program reads.reads other long;
      words = sym same ∙ reads.words;
    }

module _ (m : Mosts) (table : List ℕ) (long : Most.words ≤ length table) where
  -- what "8,192 words" leave of it
  abbrev front : List ℕ
  front = take Most.words table

  front_long : Most.words ≤ length front
  front_long = rw (length-take-le Most.words table long) (le_refl Most.words)

  front_of_front : take Most.words front ≡ take Most.words table
  front_of_front = take-take Most.words Most.words table (le_refl Most.words)

  to_front : (text : List ℕ) → ReadsTo m table text → ReadsTo m front text
  to_front text reads = reads_to_same_words m table front text front_long (sym front_of_front) reads

  from_front : (text : List ℕ) → ReadsTo m front text → ReadsTo m table text
  from_front text reads = reads_to_same_words m front table text long front_of_front reads

  decided_from_front : ((text : List ℕ) × ReadsTo m front text) ⊎ NoneReadsTo m front → ((text : List ℕ) × ReadsTo m table text) ⊎ NoneReadsTo m table
  decided_from_front (inl some) = inl (some.0, from_front some.0 some.1)
  decided_from_front (inr none) = inr (λ text reads. none text (to_front text reads))

  module _ (buffer : List ℕ) (answer : Answer) (after : List ℕ) where
    writes_by_front : Writes m front buffer answer after → Writes m table buffer answer after
    writes_by_front writes =
        record {
          comes_back = λ text reads. writes.comes_back text (to_front text reads);
          no_script_answers = λ none. writes.no_script_answers (λ text reads. none text (from_front text reads));
          decided = decided_from_front writes.decided;
        }

    unless_by_front : (short : Bool) → WritesUnless short m front buffer answer after → WritesUnless short m table buffer answer after
    unless_by_front true call = call
    unless_by_front false call = writes_by_front call

    pub write_call_by_front : WriteCall m front buffer answer after → WriteCall m table buffer answer after
    unfolding short_table
    write_call_by_front call =
        rw (le-ltb (length table) Most.words long) (unless_by_front (short_buffer buffer) (rw (le-ltb (length front) Most.words front_long) at call))

-- ---- Read and written

module _ (m : Mosts) (text table : List ℕ) (P : Program) (read : read_call m text table ≡ accepted P) where
  abbrev after : List ℕ
  after = program_after (accepted P) table

  long_enough : Most.words ≤ length after
  long_enough = rw (length-append (program_words P) (drop Most.words table), program_words_length P) (omega arith)

  reads_to_its_table : ReadsTo m after text
  reads_to_its_table =
      record {
        program = P;
        reads = read_again m text table P read after long_enough;
        words = rw (← program_words_length P) (take-append_seam (program_words P) (drop Most.words table));
      }

  written_back : (buffer : List ℕ) → short_buffer buffer ≡ false → (answer : Answer) (left : List ℕ) → WriteCall m after buffer answer left → Written text buffer answer left
  unfolding short_table
  written_back buffer wide answer left call = (rw (le-ltb (length after) Most.words long_enough, wide) at call).comes_back text reads_to_its_table

pub comes_back : (m : Mosts) → ComesBack m
comes_back m text table buffer P read wide answer left call = written_back m text table P read buffer wide answer left call

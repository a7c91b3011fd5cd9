-- From what was written beside the buffer to the writer's answer. A text that reads to the table is what the table's words say, so it is the one
-- that was written; read again it is accepted and gives the table's words. Where that fails, there is no such text.
use Rattle.std.proofs.Common.{ℕ, ◌≤◌, ◌<◌, arith, ◌≡◌, refl, sym, ap, ◌∙◌, subst, Bool, true, false, List, [], ◌∷◌, ◌++◌, map, append-nil, inl, inr, ◌⊎◌, ltb, leb, length, take, drop, take-append-drop, length-take-le, ltb-false, lt-ltb, le-ltb, Result, Ok, Err}
use Rattle.std.proofs.Math.Seq.{take-append_seam, drop-length}
use Rattle.rules.specs.declared.Mosts.{Mosts}
use Rattle.rules.specs.Mosts as Most
use Rattle.rules.specs.Mosts.{mosts}
use Rattle.rules.specs.Numbers as No
use Rattle.rules.specs.Lists.{Every}
use Rattle.rules.specs.Text.{join}
use Rattle.rules.specs.Script.{bind, give, Form, kind, opens, line, Program, lines_of}
use Rattle.rules.specs.Templates.{show, head_of}
use Rattle.rules.specs.Reading.{operands_in, Sofar, slots_filled, over_most, Reading, turned_away, accepted}
use Rattle.rules.specs.Tables.{edition_word, program_words}
use Rattle.rules.specs.Calls.{short_table, read_call, program_after}
use Rattle.rules.specs.Writer.{ReadsTo, NoneReadsTo, refused, wrote, Written, short_buffer, WriteCall}
use Rattle.rules.proofs.ListLaws.{impossible, or_false₃}
use Rattle.rules.proofs.Scanned.{Scanned, ended, passed}
use Rattle.rules.proofs.Accepted.{table_lines}
use Rattle.rules.proofs.Writer.{read_length, read_scanned, read_prints, read_valid, read_again}
use Rattle.buffer.proofs.Appends.{front_is}
use Rattle.table.specs.ProgramTable.{Filled, Same}
use Rattle.table.proofs.ProgramTable.{program_words_by_lines}
use Rattle.table.proofs.ProgramLines.{blocks_of_lines}
use Rattle.std.specs.Result.{is_err}
use Prim.{Unit}
use Rattle.rules.specs.declared.faults.Refusal.{Refusal}
use Rattle.reader.specs.ReadAnswers.{Answers}
use Rattle.writer.specs.Lines.{FewParts, WritesScript}

-- ---- Lists of at most four

few_parts : (m : Mosts) (s : Sofar) (F : Form) → over_most m s F ≡ false → FewParts F
unfolding over_most operands_in
few_parts m s (kind K) h = ltb-false Most.methods (length K.methods) (or_false₃ (leb m.kinds s.kinds) (ltb Most.fields K.fields) _ h).2
few_parts m s (opens o) h = tt
few_parts m s (line (give w)) h = omega arith
few_parts m s (line (bind e)) h =
    ltb-false Most.operands (length (operands_in (line (bind e)))) (or_false₃ (leb Most.slots (slots_filled s.place)) (leb m.lets s.lets) _ h).2

every_few : {m : Mosts} {s : Sofar} {Fs : List Form} → Scanned m s Fs → Every FewParts Fs
every_few (ended some closed) = tt
every_few {m} {s} (passed {F} p rest) = (few_parts m s F p.in_mosts, every_few rest)

-- ---- What the table's words say

module _ {table text : List ℕ} (it : ReadsTo mosts table text) where
  abbrev P : Program
  P = it.program

  its_lines : Filled table (length P.kinds ∷ length P.blocks ∷ length (lines_of P) ∷ edition_word P.edition ∷ []) (lines_of P) (drop Most.words table)
  its_lines =
      let valid = read_valid mosts text table P it.reads in
      record {
        words = sym (take-append-drop Most.words table) ∙ ap (λ (ws : List ℕ). ws ++ drop Most.words table) (it.words ∙ program_words_by_lines P);
        lines = table_lines P valid;
        blocks = rw (blocks_of_lines P) valid.few_blocks;
      }

  few : Every FewParts (lines_of P)
  few = every_few (read_scanned mosts text table P it.reads)

  no_longer : length (head_of P.edition ++ join (map show (lines_of P))) ≤ Most.text
  no_longer = rw (← read_prints mosts text table P it.reads) (read_length mosts text table P it.reads)

-- a text that reads to the table is the one that was written
pub is_written : {table l l₁ text : List ℕ} {r : ℕ} → WritesScript table l l₁ r → ReadsTo mosts table text → take r l₁ ≡ text
is_written {table} {l} {l₁} {text} {r} written it =
    let w = written.writes _ _ it.program.edition (drop Most.words table) (lines_of it.program) (its_lines it) (few it) (no_longer it) in
    let f = front_is w in
    let same : head_of it.program.edition ++ join (map show (lines_of it.program)) ≡ text = sym (read_prints mosts text table it.program it.reads) in
    rw (f.0, f.1, same) (take-append_seam text (drop (length text) l))

-- ---- What reading it again tells

was_accepted : {r : Result Unit Refusal} (x : Reading) → Answers x r → r ≡ Ok tt → (P : Program) × (x ≡ accepted P)
was_accepted (turned_away k n) a e = let both = sym a.is ∙ e in impossible cc
was_accepted (accepted P) a e = (P, refl)

pub is_read : (r : Result Unit Refusal) → is_err r ≡ false → r ≡ Ok tt
is_read (Ok u) e = refl
is_read (Err x) e = impossible cc

pub is_refused : (r : Result Unit Refusal) → is_err r ≡ true → r ≡ Ok tt → ⊥
is_refused (Ok u) e is = impossible cc
is_refused (Err x) e is = impossible cc

-- what was read again is as short as a text must be, so it fits the buffer
pub fits_buffer : {r : ℕ} (l words buffer : List ℕ) (answer : Result Unit Refusal) → r ≤ length l → Answers (read_call mosts (take r l) words) answer
    → is_err answer ≡ false → Most.text ≤ length buffer → r ≤ length buffer
fits_buffer {r} l words buffer answer within answers e room =
    let a = was_accepted (read_call mosts (take r l) words) answers (is_read answer e) in
    omega (arith, length-take-le r l within, read_length mosts (take r l) words a.0 a.1, room)

-- read into 8,192 words
module _ (printed words : List ℕ) {words₁ : List ℕ} (answer : Result Unit Refusal) (wide : length words ≡ Most.words)
    (answers : Answers (read_call mosts printed words) answer) (leaves : words₁ ≡ program_after (read_call mosts printed words) words) where
  gives_words : (P : Program) → read_call mosts printed words ≡ accepted P → words₁ ≡ program_words P
  gives_words P is =
      let none_left : drop Most.words words ≡ [] = subst (λ (k : ℕ). drop k words ≡ []) wide (drop-length words) in
      leaves ∙ ap (λ (x : Reading). program_after x words) is ∙ ap (λ (ws : List ℕ). program_words P ++ ws) none_left ∙ append-nil (program_words P)

  module _ {table : List ℕ} (long : Most.words ≤ length table) where
    -- accepted, and with the table's words: it reads to the table
    pub reads_to : answer ≡ Ok tt → take Most.words table ≡ words₁ → ReadsTo mosts table printed
    reads_to read same =
        let a = was_accepted (read_call mosts printed words) answers read in
        record { program = a.0; reads = read_again mosts printed words a.0 a.1 table long; words = same ∙ gives_words a.0 a.1 }

    -- and every text that reads to the table does both
    module _ (only : (text : List ℕ) → ReadsTo mosts table text → printed ≡ text) where
      again : (text : List ℕ) (it : ReadsTo mosts table text) → read_call mosts printed words ≡ accepted it.program
      again text it = rw (only text it) (read_again mosts text table it.program it.reads words (omega arith))

      pub refused_none : (answer ≡ Ok tt → ⊥) → NoneReadsTo mosts table
      refused_none not_read text it = not_read (subst (λ (x : Reading). Answers x answer) (again text it) answers)

      pub other_words_none : {r : Bool} → Same table words₁ r → r ≡ false → NoneReadsTo mosts table
      other_words_none same differ text it = same.other differ (it.words ∙ sym (gives_words it.program (again text it)))

-- ---- The answers

module _ (table buffer : List ℕ) where
  pub too_short : (length table < Most.words) ⊎ ((Most.words ≤ length table) × (length buffer < Most.text))
      → WriteCall mosts table buffer (refused No.short_table) buffer
  unfolding short_table short_buffer
  too_short (inl short) = rw (lt-ltb (length table) Most.words short) (record { answers = refl; leaves = refl })
  too_short (inr (long, short)) = rw (le-ltb (length table) Most.words long, lt-ltb (length buffer) Most.text short) (record { answers = refl; leaves = refl })

  module _ (long : Most.words ≤ length table) where
    module _ (room : Most.text ≤ length buffer) where
      pub turned_away_lem : NoneReadsTo mosts table → WriteCall mosts table buffer (refused No.no_script) buffer
      unfolding short_table short_buffer
      turned_away_lem none =
          rw (le-ltb (length table) Most.words long, le-ltb (length buffer) Most.text room)
          (record { comes_back = λ text it. absurd (none text it); no_script_answers = λ _. record { answers = refl; leaves = refl }; decided = inr none })

      pub written_out : {r : ℕ} {printed after : List ℕ} → ReadsTo mosts table printed → ((text : List ℕ) → ReadsTo mosts table text → printed ≡ text)
          → after ≡ printed ++ drop (length printed) buffer → r ≡ length printed → WriteCall mosts table buffer (wrote r) after
      unfolding short_table short_buffer
      written_out {r} {printed} {after} it only left count =
          rw (le-ltb (length table) Most.words long, le-ltb (length buffer) Most.text room)
          (record { comes_back = back; no_script_answers = λ none. absurd (none printed it); decided = inl (printed, it) })
        where
          back : (text : List ℕ) → ReadsTo mosts table text → Written text buffer (wrote r) after
          back text other =
              let out : Written printed buffer (wrote r) after = record { answers = ap wrote count; leaves = left } in
              subst (λ (t : List ℕ). Written t buffer (wrote r) after) (only text other) out

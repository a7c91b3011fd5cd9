-- What the parts of a sheet find in the table of a program.
use Prim.Native.Nat.{ℕ, ◌+◌, ◌≤◌}
use native.Mathlib.Omega.{arith}
use mathlib.Core.Path.{◌≡◌, refl, sym, ap, ◌∙◌}
use mathlib.Core.Bool.{true}
use mathlib.Core.List.{List, [], ◌∷◌, ◌++◌, append-nil}
use lib.ListN.{length}
use Rattle.rules.specs.Mosts.{mosts}
use Rattle.rules.specs.Text.{bytes}
use Rattle.rules.specs.Templates.{decimal, print_many}
use Rattle.rules.specs.Script.{Edition, edition1, edition2, Program, lines_of}
use Rattle.rules.specs.Valid.{Valid}
use Rattle.rules.specs.Reading.{lines_before}
use Rattle.rules.specs.Tables.{edition_word, program_words}
use Rattle.rules.proofs.Accepted.{table_lines}
use Rattle.buffer.specs.declared.Output.{Output}
use Rattle.buffer.specs.Outputs.{Wrote}
use Rattle.buffer.specs.Writing.{number_part}
use Rattle.buffer.proofs.Outputs.{◌▹◌, same_text}
use Rattle.table.specs.ProgramTable.{Filled, LineCount, EditionIs}
use Rattle.table.proofs.ProgramTable.{program_words_by_lines}
use Rattle.table.proofs.ProgramLines.{blocks_of_lines}
use Rattle.sheet.specs.Ticks.{making, naming}
use Rattle.sheet.specs.SheetText.{title_one, title_two, tick, read_text, cap_text, cap_counts, names_or_none, naming_of, two_text}
use Rattle.sheet.specs.CapLines.{CountsMaking, WritesNaming}
use Rattle.sheet.specs.SheetParts.{WritesProgram, FirstNumber}

-- the counts that stand before a program's lines
abbrev counts_of : Program → List ℕ
counts_of P = length P.kinds ∷ length P.blocks ∷ length (lines_of P) ∷ edition_word P.edition ∷ []

program_filled : (P : Program) → Valid mosts P → {p : List ℕ} → p ≡ program_words P → Filled p (counts_of P) (lines_of P) []
program_filled P valid words =
    record {
      words = words ∙ program_words_by_lines P ∙ sym (append-nil _);
      lines = table_lines P valid;
      blocks = rw (blocks_of_lines P) valid.few_blocks;
    }

-- ---- The first line's number

module _ {p : List ℕ} {w : ℕ} (seen : EditionIs p w) where
  edition_is : (P : Program) → Valid mosts P → p ≡ program_words P → w ≡ edition_word P.edition
  edition_is P valid words = seen.is (counts_of P) [] (lines_of P) (program_filled P valid words)

  pub first_is_one : w ≡ 2 → FirstNumber p 1
  first_is_one two = record { is = λ P valid words. go P.edition (sym (edition_is P valid words) ∙ two); few = omega arith }
    where
      go : (e : Edition) → edition_word e ≡ 2 → 1 ≡ lines_before e
      go edition1 same = absurd (omega (arith, same))
      go edition2 same = refl

  pub first_is_none : (w ≡ 2 → ⊥) → FirstNumber p 0
  first_is_none other = record { is = λ P valid words. go P.edition (λ (e : edition_word P.edition ≡ 2). other (edition_is P valid words ∙ e)); few = omega arith }
    where
      go : (e : Edition) → (edition_word e ≡ 2 → ⊥) → 0 ≡ lines_before e
      go edition1 none = refl
      go edition2 none = absurd (none refl)

-- ---- A text that is the program's

pub program_text : {k : ℕ} {p t : List ℕ} {o o₁ : Output} (text : Program → List ℕ) → Wrote k o o₁ t → ((P : Program) → Valid mosts P → p ≡ program_words P → t ≡ text P)
    → WritesProgram k p o o₁ text
program_text {k} text put same =
    record { writes = λ P valid words. same_text k (same P valid words) (omega arith) put; most = put.most; length_same = put.length_same; buffer_same = put.buffer_same }

-- ---- 1

pub reads_program : {p : List ℕ} {o o₁ : Output} {lines first : ℕ} → LineCount p lines → FirstNumber p first
    → Wrote 63 o o₁ (tick true title_one ++ (bytes "      " ++ (number_part (lines + first) ++ bytes " lines\n"))) → WritesProgram 63 p o o₁ read_text
unfolding read_text
reads_program {lines = lines} counted number put =
    program_text read_text put (λ P valid words. (
    let count : lines ≡ length (lines_of P) = counted.is (counts_of P) [] (lines_of P) (program_filled P valid words) in
    rw (count, number.is P valid words) refl
    ))

-- ---- 2

pub counts_program : {p : List ℕ} {o o₁ : Output} {a b c d : ℕ} → CountsMaking p 1 a → CountsMaking p 2 b → CountsMaking p 3 c → CountsMaking p 4 d → Wrote 165 o o₁ (cap_text a b c d)
    → WritesProgram 165 p o o₁ cap_counts
unfolding cap_counts
counts_program {p} {a = a} {b} {c} {d} first second third fourth put =
    program_text cap_counts put (λ P valid words. (
    let made : (k n : ℕ) → CountsMaking p k n → n ≡ making k (lines_of P) = λ (k n : ℕ) (x : CountsMaking p k n). x.is (counts_of P) [] (lines_of P) (program_filled P valid words) refl in
    rw (made 1 a first, made 2 b second, made 3 c third, made 4 d fourth) refl
    ))

none_named : (ns : List ℕ) {k : ℕ} {o o₁ : Output} → Wrote k o o₁ (print_many decimal ns) → o₁.at ≡ o.at → ns ≡ []
unfolding print_many
none_named [] wrote same = refl
none_named (n ∷ ns) wrote same = absurd (let end = wrote.writes.end in omega (arith, end, same))

some_named : (ns : List ℕ) {k : ℕ} {o o₁ : Output} → Wrote k o o₁ (print_many decimal ns) → (o₁.at ≡ o.at → ⊥) → print_many decimal ns ≡ names_or_none ns
unfolding print_many
some_named [] {o = o} wrote other = absurd (other (wrote.writes.end ∙ omega arith))
some_named (n ∷ ns) wrote other = refl

module _ {p : List ℕ} {o o₁ o₂ : Output} {first : ℕ} (number : FirstNumber p first) (head : Wrote 30 o o₁ (bytes "       lines that name unsafe:"))
    (named : WritesNaming p first o₁ o₂) where
  names_at : (P : Program) → Valid mosts P → p ≡ program_words P → Wrote 4032 o₁ o₂ (print_many decimal (naming 4 (lines_before P.edition) (lines_of P)))
  names_at P valid words = rw (← number.is P valid words) (named.writes (counts_of P) [] (lines_of P) (program_filled P valid words) refl)

  named_text : {o₃ : Output} {k : ℕ} {end : List ℕ} → Wrote k o₂ o₃ end → 4062 + k ≤ 4070
      → ((P : Program) (ns : List ℕ) → Wrote 4032 o₁ o₂ (print_many decimal ns) → print_many decimal ns ++ end ≡ names_or_none ns ++ bytes "\n") → WritesProgram 4070 p o o₃ naming_of
  unfolding naming_of
  named_text {o₃} put room same =
      record {
        writes = λ P valid words. (
            same_text 4070 (ap (bytes "       lines that name unsafe:" ++◌) (same P (naming 4 (lines_before P.edition) (lines_of P)) (names_at P valid words))) (omega (arith, room))
            (head ▹ names_at P valid words ▹ put)
            );
        most = omega (arith, room, head.most, named.most, put.most);
        length_same = put.length_same ∙ named.length_same ∙ head.length_same;
        buffer_same = put.buffer_same ∙ named.buffer_same ∙ head.buffer_same;
      }

  pub names_none : {o₃ : Output} → o₂.at ≡ o₁.at → Wrote 6 o₂ o₃ (bytes " none\n") → WritesProgram 4070 p o o₃ naming_of
  unfolding print_many
  names_none same put = named_text put (omega arith) (λ P ns wrote. rw (none_named ns wrote same) refl)

  pub names_some : {o₃ : Output} → (o₂.at ≡ o₁.at → ⊥) → Wrote 1 o₂ o₃ (bytes "\n") → WritesProgram 4070 p o o₃ naming_of
  names_some other put = named_text put (omega arith) (λ P ns wrote. ap (λ (t : List ℕ). t ++ bytes "\n") (some_named ns wrote other))

pub two_program : {p : List ℕ} {o o₁ o₂ o₃ : Output} → Wrote 44 o o₁ (tick true title_two) → WritesProgram 165 p o₁ o₂ cap_counts → WritesProgram 4070 p o₂ o₃ naming_of
    → WritesProgram 4279 p o o₃ two_text
unfolding two_text
two_program title counts names =
    record {
      writes = λ P valid words. same_text 4279 refl (omega arith) (title ▹ counts.writes P valid words ▹ names.writes P valid words);
      most = omega (arith, title.most, counts.most, names.most);
      length_same = names.length_same ∙ counts.length_same ∙ title.length_same;
      buffer_same = names.buffer_same ∙ counts.buffer_same ∙ title.buffer_same;
    }

-- What is read and then stripped: the words of the stripped program, which is valid as the program is.
use Prim.Native.Nat.{ℕ, ◌≤◌, ◌<◌}
use mathlib.Core.Path.{◌≡◌, sym, ◌∙◌}
use mathlib.Core.Bool.{false}
use mathlib.Core.List.{List, [], append-nil}
use lib.ListN.{length}
use borrow.Author.Tests.{lt-ltb}
use Rattle.rules.specs.Mosts as Most
use Rattle.rules.specs.Numbers as No
use Rattle.rules.specs.Mosts.{mosts}
use Rattle.rules.specs.Script.{Program}
use Rattle.rules.specs.Reading.{turned_away, accepted, reading}
use Rattle.rules.specs.Valid.{Valid}
use Rattle.rules.specs.Stripped.{strip}
use Rattle.rules.specs.Tables.{program_words}
use Rattle.rules.specs.Calls.{long_text, long_turns, inputs}
use Rattle.rules.proofs.ListLaws.{by_bool}
use Rattle.rules.proofs.Accepted.{accepted_valid, reading_accepted, table_lines}
use Rattle.rules.proofs.StrippedValid.{stripped_valid}
use Rattle.table.specs.ProgramTable.{fresh_table}
use Rattle.table.specs.StrippedTables.{Strips}
use Rattle.std.specs.Prelude.{Result, Ok}
use Rattle.rules.specs.declared.faults.Refusal.{Refusal}
use Rattle.reader.specs.ReadAnswers.{Makes}
use Rattle.reader.proofs.Outcome.{read_is}
use Rattle.run.proofs.Answering.{as_read}

pub long_away : (text turns : List ℕ) → Most.turns < length turns → inputs mosts text turns false ≡ turned_away No.overlong 0
unfolding inputs reading long_turns
long_away text turns h = rw (lt-ltb _ _ h) (by_bool (long_text text) (λ t. rw t) (λ t. rw t))

pub record IsStripped (text turns p : List ℕ) : Type 0 where
  pub program : Program
  pub is : inputs mosts text turns false ≡ accepted program
  pub valid : Valid mosts (strip program)
  pub words : p ≡ program_words (strip program)

pub read_stripped : (text turns : List ℕ) {p p₁ p₂ : List ℕ} {x : Result Unit Refusal} {u : Unit {0}} → length turns ≤ Most.turns → Makes text false p x p₁ → p ≡ fresh_table → x ≡ Ok u → Strips p₁ p₂
    → IsStripped text turns p₂
read_stripped text turns few read fresh is strips =
    let of = read_is (reading mosts (long_text text) false text) (read.makes fresh) is in
    let P = of.program in
    let valid = accepted_valid mosts text P (reading_accepted mosts (long_text text) false text P of.is).2 in
    record {
      program = P;
      is = as_read text turns false few ∙ of.is;
      valid = stripped_valid mosts P valid;
      words = strips.words P [] (table_lines P valid) valid.few_blocks (of.words ∙ sym (append-nil (program_words P))) ∙ append-nil (program_words (strip P));
    }

-- What the writer answers of the stripped table is printed: the script with the line of turns after it, or the refusal that stands for it.
use Prim.Native.Nat.{ℕ, ◌-◌, ◌≤◌, ◌<◌}
use native.Mathlib.Omega.{arith}
use mathlib.Core.Path.{◌≡◌, refl, sym, ap, ◌∙◌}
use mathlib.Core.List.{List, ◌++◌}
use mathlib.Core.Logic.{◌⊎◌, inl, inr}
use lib.ListN.{length, take}
use lib.Seq.{take_at}
use borrow.Author.Tests.{le-ltb}
use Rattle.rules.specs.Mosts as Most
use Rattle.rules.specs.Mosts.{mosts}
use Rattle.rules.specs.Numbers as No
use Rattle.rules.specs.Run.{refused}
use Rattle.rules.specs.Calls.{short_table}
use Rattle.rules.specs.Listing.{answer_line}
use Rattle.rules.specs.Writer.{ReadsTo, NoneReadsTo, Writes, short_buffer, WriteCall}
use Rattle.rules.proofs.ListLaws.{impossible}
use Rattle.rules.proofs.Writer.{read_length}
use Rattle.buffer.specs.Writing.{Wrote}
use Rattle.buffer.proofs.Appends.{front_is}
use Rattle.std.specs.Prelude.{Result, Ok, Err}
use Rattle.rules.specs.Numbers.{number}
use Rattle.rules.specs.declared.faults.Fault.{Fault}
use Rattle.rules.specs.declared.faults.Fault.TheVariants as F
use Rattle.rules.specs.declared.faults.Refusal.{Refusal}
use Rattle.writer.specs.WriteAnswers.{answer_of}
use Rattle.stripping.specs.StrippedTexts.{SaysAgain, again, too_long, no_script_again, Says}

-- ---- What is said

-- a refusal, over an output that stays as it was
pub says_refusal : {Q : List ℕ → Type 0} {output output₁ : List ℕ} {e : Refusal} {k n : ℕ} → number e.fault ≡ k → e.line ≡ n → output₁ ≡ output
    → Q (answer_line (refused k n)) → Says Q output (Err e) output₁
says_refusal {k = k} {n = n} why line same such = record { text = answer_line (refused k n); such = such; tells = (rw (why, line) refl, same) }

-- what is written from the output's first byte on
says_written : {Q : List ℕ → Type 0} {output output₁ text : List ℕ} {k n : ℕ} → Wrote k output output₁ 0 n text → Q text → Says Q output (Ok n) output₁
says_written {text = text} w such = let front = front_is w in record { text = text; such = such; tells = (front.1, front.0) }

-- ---- What the writer tells

-- it was called with a table and a buffer that are long enough
pub record Called (table after : List ℕ) (answer : Result ℕ Fault) : Type 0 where
  buffer : List ℕ
  writes : Writes mosts table buffer (answer_of answer) after

pub called : (table buffer after : List ℕ) (answer : Result ℕ Fault) → WriteCall mosts table buffer (answer_of answer) after → Most.words ≤ length table → Most.text ≤ length buffer
    → Called table after answer
unfolding short_table short_buffer
called table buffer after answer call long wide =
    record { buffer = buffer; writes = rw (le-ltb (length table) Most.words long, le-ltb (length buffer) Most.text wide) at call }

record IsWritten (table after : List ℕ) (n : ℕ) : Type 0 where
  script : List ℕ
  reads : ReadsTo mosts table script
  count : n ≡ length script
  front : take n after ≡ script

module _ {table after : List ℕ} {answer : Result ℕ Fault} (told : Called table after answer) where
  written_is : {n : ℕ} → answer ≡ Ok n → IsWritten table after n
  written_is {n} is = by_decided told.writes.decided
    where
      by_decided : ((text : List ℕ) × ReadsTo mosts table text) ⊎ NoneReadsTo mosts table → IsWritten table after n
      by_decided (inl some) =
          let back = told.writes.comes_back some.0 some.1 in
          let both = sym (ap answer_of is) ∙ back.answers in
          let count : n ≡ length some.0 = cc in
          record { script = some.0; reads = some.1; count = count; front = ap (take n) back.leaves ∙ take_at some.0 _ n (sym count) }
      by_decided (inr none) = let both = sym (ap answer_of is) ∙ (told.writes.no_script_answers none).answers in impossible cc

  not_written_is : {f : Fault} → answer ≡ Err f → (number f ≡ No.no_script) × NoneReadsTo mosts table
  not_written_is {f} is = by_decided told.writes.decided
    where
      by_decided : ((text : List ℕ) × ReadsTo mosts table text) ⊎ NoneReadsTo mosts table → (number f ≡ No.no_script) × NoneReadsTo mosts table
      by_decided (inl some) = let both = sym (ap answer_of is) ∙ (told.writes.comes_back some.0 some.1).answers in impossible cc
      by_decided (inr none) = let both = sym (ap answer_of is) ∙ (told.writes.no_script_answers none).answers in (cc, none)

  -- the script's bytes stand at the front of the buffer, at most 16,384
  pub script_fits : {n : ℕ} → answer ≡ Ok n → (n ≤ Most.text) × (length (take n after) ≡ n)
  script_fits is =
      let of = written_is is in
      (omega (arith, of.count, read_length mosts of.script table of.reads.program of.reads.reads), ap length of.front ∙ sym of.count)

  module _ (last : List ℕ) {output output₁ : List ℕ} where
    pub says_no_script : {f : Fault} {e : Refusal} → answer ≡ Err f → e.fault ≡ f → e.line ≡ 0 → output₁ ≡ output → Says (SaysAgain table last) output (Err e) output₁
    says_no_script is why line same =
        let none = not_written_is is in
        says_refusal (rw why none.0) line same (no_script_again none.1)

    pub says_too_long : {n : ℕ} {e : Refusal} → answer ≡ Ok n → Most.input - n < length last → e.fault ≡ F.Overlong → e.line ≡ 0 → output₁ ≡ output
        → Says (SaysAgain table last) output (Err e) output₁
    says_too_long is over_most why line same =
        let of = written_is is in
        says_refusal (rw why refl) line same (too_long of.reads (omega (arith, of.count, (script_fits is).0)))

    pub says_again : {n k m : ℕ} → answer ≡ Ok n → length last ≤ Most.input - n → Wrote k output output₁ 0 m (take n after ++ last)
        → Says (SaysAgain table last) output (Ok m) output₁
    says_again is few wrote =
        let of = written_is is in
        says_written (rw of.front at wrote) (again of.reads (omega (arith, of.count, (script_fits is).0)))

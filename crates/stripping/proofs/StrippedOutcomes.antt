-- What an input comes to is printed: a refusal by its line, an accepted script by its stripped table's text.
use Prim.Native.Nat.{ℕ, ◌≤◌, ◌<◌}
use native.Mathlib.Omega.{arith}
use mathlib.Core.Path.{◌≡◌, refl, sym, subst}
use mathlib.Core.Bool.{false}
use mathlib.Core.List.{List, ◌++◌}
use lib.ListN.{length, drop}
use lib.Seq.{drop-append_seam}
use Rattle.std.specs.Prelude.{Result, Ok, Err}
use Rattle.std.specs.Borrow.{Bor, MutBor}
use Rattle.rules.specs.declared.faults.Fault.TheVariants as F
use Rattle.rules.specs.declared.faults.Refusal.{Refusal}
use Rattle.rules.specs.Mosts as Most
use Rattle.rules.specs.Mosts.{mosts}
use Rattle.rules.specs.Reading.{Reading, reading}
use Rattle.rules.specs.Calls.{long_text, inputs}
use Rattle.table.specs.ProgramTable.{fresh_table}
use Rattle.table.specs.StrippedTables.{Strips}
use Rattle.reader.specs.ReadAnswers.{Makes}
use Rattle.reader.proofs.Outcome.{refused_is}
use Rattle.run.proofs.Answering.{as_read}
use Rattle.replay.specs.Given.{Given, away, faulty, given, given_of}
use Rattle.printing.specs.Printing.{Tells, PrintsParts}
use Rattle.printing.proofs.JobLaws.{Such, such_printed}
use Rattle.stripping.specs.StrippedTexts.{SaysAgain, StrippedText, StrippedGiven, Says, PrintsStripped}
use Rattle.stripping.proofs.StrippedRead.{long_away, read_stripped}
use Rattle.stripping.proofs.StrippedPrints.{says_refusal}

-- ---- A script and a list of turns

module _ (text turns last : List ℕ) {output output₁ : List ℕ} where
  pub says_long : {e : Refusal} → Most.turns < length turns → e.fault ≡ F.Overlong → e.line ≡ 0 → output₁ ≡ output
      → Says (StrippedText (inputs mosts text turns false) last) output (Err e) output₁
  says_long h why line same = rw (long_away text turns h) (says_refusal (rw why refl) line same refl)

  module _ (few : length turns ≤ Most.turns) {p p₁ : List ℕ} {x : Result Unit Refusal} (fresh : p ≡ fresh_table) (read : Makes text false p x p₁) where
    pub says_away : {e : Refusal} → x ≡ Err e → output₁ ≡ output → Says (StrippedText (inputs mosts text turns false) last) output (Err e) output₁
    says_away is same =
        rw (as_read text turns false few, refused_is (reading mosts (long_text text) false text) p₁ (read.makes fresh) is) (says_refusal refl refl same refl)

    pub says_script : {u : Unit {0}} {p₂ : List ℕ} {r : Result ℕ Refusal} → x ≡ Ok u → Strips p₁ p₂ → Says (SaysAgain p₂ last) output r output₁
        → Says (StrippedText (inputs mosts text turns false) last) output r output₁
    says_script {r = r} is strips says =
        let of = read_stripped text turns few read fresh is strips in
        rw of.is (subst (λ (t : List ℕ). Says (SaysAgain t last) output r output₁) of.words says)

-- ---- An input

rest_of : (text last input : List ℕ) → text ++ last ≡ input → last ≡ drop (length text) input
rest_of text last input whole = rw (← whole) (sym (drop-append_seam text last))

says_rest : (C : Reading) (text last input : List ℕ) {output output₁ : List ℕ} {q : Result ℕ Refusal} → text ++ last ≡ input → Says (StrippedText C last) output q output₁
    → (t : List ℕ) × StrippedText C (drop (length text) input) t × Tells t output q output₁
says_rest C text last input whole says = (says.text, subst (λ (x : List ℕ). StrippedText C x says.text) (rest_of text last input whole) says.such, says.tells)

such_given : (input text : List ℕ) (x : Given) → Such (λ t ts. StrippedText (inputs mosts t ts false) (drop (length t) input)) x text → StrippedGiven input x text
such_given input text (away k) such = such
such_given input text (faulty t k n) such = such
such_given input text (given t ts) such = such

module _ {post : Bor (List ℕ) → Bor (List ℕ) → Bor (List ℕ) → MutBor (List ℕ) → Result ℕ Refusal → MutBor (List ℕ) → Type 0} {input output output₁ : List ℕ}
    {r : Result ℕ Refusal} where
  pub prints_stripped : PrintsParts post input Most.input output r output₁
      → ((text turns last : Bor (List ℕ)) (lent : MutBor (List ℕ)) (q : Result ℕ Refusal) (left : MutBor (List ℕ)) → post text turns last lent q left
      → Says (StrippedText (inputs mosts text.now turns.now false) last.now) lent.now q left.now) → PrintsStripped input output r output₁
  prints_stripped prints job = record {
    short = λ short. prints.short short;
    prints = λ wide.
        let printed = such_printed prints (omega arith) (λ t ts. StrippedText (inputs mosts t ts false) (drop (length t) input))
        (λ text turns last lent q left p g l f w. says_rest (inputs mosts text.now turns.now false) text.now last.now input l (job text turns last lent q left p)) wide in
        record { text = printed.text; such = such_given input printed.text (given_of input) printed.such; answers = printed.answers; leaves = printed.leaves };
  }

-- What a job prints of an input's parts, and what is printed of the input by it.
use Prim.Native.Nat.{ℕ, ◌≤◌}
use native.Mathlib.Omega.{arith}
use mathlib.Core.Path.{◌≡◌, refl, sym, ◌∙◌, subst}
use mathlib.Core.Bool.{true, false}
use mathlib.Core.List.{List, ◌++◌}
use lib.Dec.{ltb}
use lib.ListN.{length, take, drop}
use Rattle.std.specs.Prelude.{Option, None, Some, Result, Ok, Err}
use Rattle.std.specs.Borrow.{Bor, MutBor}
use borrow.Author.Tests.{le-ltb, ltb-false}
use Rattle.rules.specs.Mosts as Most
use Rattle.rules.specs.Run.{refused}
use Rattle.rules.specs.Listing.{answer_line}
use Rattle.rules.proofs.ListLaws.{by_bool, below}
use Rattle.rules.specs.declared.faults.Refusal.{Refusal}
use Rattle.listing.specs.Outputs.{printed_in, output_in, output_bytes, printed_of, output_after}
use Rattle.listing.proofs.PrintOutcomes.{short_in}
use Rattle.replay.specs.declared.Parts.{Parts}
use Rattle.replay.specs.declared.Misfit.{Misfit}
use Rattle.rules.specs.Refusals.{Refuses}
use Rattle.replay.specs.Given.{Given, away, faulty, given, given_of, misfit_told, told_of, TellsNone, TellsLine, Splits}
use Rattle.printing.specs.Printing.{Tells, Shows, JobDone, DoesGiven, DoesJob, Printed, PrintsParts}
use Rattle.replay.proofs.GivenLaws.{given_told}

-- ---- What a job is called on

module _ {post : Bor (List ℕ) → Bor (List ℕ) → Bor (List ℕ) → MutBor (List ℕ) → Result ℕ Refusal → MutBor (List ℕ) → Type 0} (input output : List ℕ)
    {r : Result ℕ Refusal} {output₁ : List ℕ} where
  as_given : (x : Given) → given_of input ≡ x → DoesGiven post input x output r output₁ → DoesJob post input output r output₁
  as_given x e does = record { does = subst (λ (y : Given). DoesGiven post input y output r output₁) (sym e) does }

  module _ {list list₁ : List ℕ} {parts : Result Parts Misfit} (splits : Splits input list parts list₁) (long : Most.turns ≤ length list) where
    pub does_job : {p : Parts} → parts ≡ Ok p → JobDone post input (take p.script input) (take p.turns list₁) output r output₁
        → DoesJob post input output r output₁
    does_job {p} is done = as_given (given (take p.script input) (take p.turns list₁)) (given_told splits long (Ok p) is) done

    pub does_misfit : {m : Misfit} → parts ≡ Err m → r ≡ Err m.refusal → output₁ ≡ output → DoesJob post input output r output₁
    does_misfit {m} is answers same =
        as_given (told_of (Err m) input list₁) (given_told splits long (Err m) is) (go m.script (subst (λ (x : Result Parts Misfit). TellsLine x) is splits.line))
      where
        go : (o : Option ℕ) → TellsNone m.refusal o → DoesGiven post input (misfit_told m.refusal o input) output r output₁
        go None none = (record { refusal = m.refusal; is = answers; number_is = refl; line_is = none }, same)
        go (Some at) tell = (record { refusal = m.refusal; is = answers; number_is = refl; line_is = refl }, same)

-- ---- What is printed of an input: a text of which Q holds, if the job tells such a text

-- what a text of an input's parts is: a refusal's line, or one of which the job's Q holds
abbrev pub Such : (List ℕ → List ℕ → List ℕ → Type 0) → Given → (text : List ℕ) → Type 0
Such Q (away k) text = text ≡ answer_line (refused k 0)
Such Q (faulty t k n) text = text ≡ answer_line (refused k n)
Such Q (given t ts) text = Q t ts text

pub record TextPrinted (Q : List ℕ → List ℕ → List ℕ → Type 0) (input : List ℕ) (room : ℕ) (output : List ℕ) (r : Result ℕ Refusal) (output₁ : List ℕ) : Type 0 where
  pub text : List ℕ
  pub such : Such Q (given_of input) text
  pub answers : r ≡ Ok (length text)
  pub leaves : output₁ ≡ text ++ drop (length text) output

-- a refusal's line is short
shown : (text output : List ℕ) (q : Result ℕ Refusal) (written : List ℕ) {r : Result ℕ Refusal} {output₁ : List ℕ} → output_bytes ≤ length output → Tells text output q written
    → Shows q written r output₁ → (r ≡ Ok (length text)) × (output₁ ≡ text ++ drop (length text) output)
unfolding printed_of output_after
shown text output (Ok n) written long tells shows = (rw tells.0 at shows.0, shows.1 ∙ tells.1)
shown text output (Err e) written long tells shows = rw (tells.1, ← tells.0, le-ltb (length output) output_bytes long) at shows

module _ {post : Bor (List ℕ) → Bor (List ℕ) → Bor (List ℕ) → MutBor (List ℕ) → Result ℕ Refusal → MutBor (List ℕ) → Type 0} {input output output₁ : List ℕ} {room : ℕ}
    {r : Result ℕ Refusal} (prints : PrintsParts post input room output r output₁) (low : output_bytes ≤ room) (Q : List ℕ → List ℕ → List ℕ → Type 0)
    (job : (text turns last : Bor (List ℕ)) (lent : MutBor (List ℕ)) (q : Result ℕ Refusal) (left : MutBor (List ℕ)) → post text turns last lent q left
    → given_of input ≡ given text.now turns.now → text.now ++ last.now ≡ input → length turns.now ≤ Most.turns → room ≤ length lent.now
    → (t : List ℕ) × Q text.now turns.now t × Tells t lent.now q left.now) (wide : room ≤ length output) where
  pub such_printed : TextPrinted Q input room output r output₁
  such_printed = by_given (given_of input) refl done.does.does
    where
      done : Printed post input output r output₁
      done = prints.prints wide

      printed_as : (t : List ℕ) → Such Q (given_of input) t → Tells t output done.answer done.written → TextPrinted Q input room output r output₁
      printed_as t such tells =
          let all = shown t output done.answer done.written (omega arith) tells done.shows in
          record { text = t; such = such; answers = all.0; leaves = all.1 }

      refused_as : (k n : ℕ) → Such Q (given_of input) (answer_line (refused k n)) → Refuses done.answer k n × (done.written ≡ output) → TextPrinted Q input room output r output₁
      refused_as k n such told =
          printed_as (answer_line (refused k n)) such (rw told.0.is (rw (told.0.number_is, told.0.line_is) refl, told.1))

      told_as : {x y l w text ts : List ℕ} → x ≡ text → y ≡ ts → l ≡ output → w ≡ done.written → given_of input ≡ given text ts
          → (t : List ℕ) × Q x y t × Tells t l done.answer w → TextPrinted Q input room output r output₁
      told_as x y l w e (t, such, tells) = printed_as t (rw e (rw (x, y) at such)) (rw (l, w) at tells)

      by_given : (x : Given) → given_of input ≡ x → DoesGiven post input x output done.answer done.written → TextPrinted Q input room output r output₁
      by_given (away k) e does = refused_as k 0 (rw e refl) does
      by_given (faulty text k n) e does = refused_as k n (rw e refl) does
      by_given (given text ts) e does =
          let told = job does.text_lent does.turns_lent does.last_lent does.output_lent done.answer does.left does.called (rw (does.text_is, does.turns_are) e)
          does.whole does.few (rw does.output_is wide) in
          told_as does.text_is does.turns_are does.output_is does.leaves e told

-- what is printed as a run is told
pub printed_tells : (text output : List ℕ) {q : Result ℕ Refusal} {output₁ : List ℕ} → output_bytes ≤ length output → q ≡ printed_of text output
    → output₁ ≡ output_after text output → Tells text output q output₁
unfolding printed_of output_after
printed_tells text output long answers leaves =
    let room = le-ltb (length output) output_bytes long in
    rw (rw room at answers) (refl, rw room at leaves)

-- and where the text is the only one
module _ {post : Bor (List ℕ) → Bor (List ℕ) → Bor (List ℕ) → MutBor (List ℕ) → Result ℕ Refusal → MutBor (List ℕ) → Type 0} {input output output₁ : List ℕ} {room : ℕ}
    {r : Result ℕ Refusal} (prints : PrintsParts post input room output r output₁) (low : output_bytes ≤ room) (W : Given → List ℕ)
    (whole : (k : ℕ) → W (away k) ≡ answer_line (refused k 0)) (faults : (text : List ℕ) (k n : ℕ) → W (faulty text k n) ≡ answer_line (refused k n))
    (job : (text turns last : Bor (List ℕ)) (lent : MutBor (List ℕ)) (q : Result ℕ Refusal) (left : MutBor (List ℕ)) → post text turns last lent q left
    → given_of input ≡ given text.now turns.now → text.now ++ last.now ≡ input → length turns.now ≤ Most.turns → room ≤ length lent.now
    → Tells (W (given text.now turns.now)) lent.now q left.now) where
  pub text_printed : (r ≡ printed_in room (W (given_of input)) output) × (output₁ ≡ output_in room (W (given_of input)) output)
  text_printed = by_bool (ltb (length output) room) short long
    where
      short : ltb (length output) room ≡ true → (r ≡ printed_in room (W (given_of input)) output) × (output₁ ≡ output_in room (W (given_of input)) output)
      short t = let told = prints.short (below t) in let kept = short_in room (W (given_of input)) output (below t) in (told.0 ∙ kept.0, told.1 ∙ kept.1)

      only : (x : Given) (t : List ℕ) → Such (λ text turns t. t ≡ W (given text turns)) x t → t ≡ W x
      only (away k) t such = such ∙ sym (whole k)
      only (faulty text k n) t such = such ∙ sym (faults text k n)
      only (given text ts) t such = such

      long : ltb (length output) room ≡ false → (r ≡ printed_in room (W (given_of input)) output) × (output₁ ≡ output_in room (W (given_of input)) output)
      long f =
          let printed = such_printed prints low (λ text turns t. t ≡ W (given text turns))
          (λ text turns last lent q left p g l f w. (W (given text.now turns.now), refl, job text turns last lent q left p g l f w)) (ltb-false (length output) room f) in
          let same = only (given_of input) printed.text printed.such in
          rw (f, ← same) (printed.answers, printed.leaves)

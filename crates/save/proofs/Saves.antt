-- What was read and is written back is the text itself; what was not read is printed as its refusal.
use Prim.Native.Nat.{ℕ, ◌≤◌}
use native.Mathlib.Nat.{zero-add}
use native.Mathlib.Omega.{arith}
use mathlib.Core.Path.{◌≡◌, refl, sym, ap, ◌∙◌, subst}
use mathlib.Core.Bool.{Bool, true, false, ◌||◌, cond}
use mathlib.Core.List.{List, ◌++◌}
use lib.Dec.{ltb}
use lib.ListN.{length}
use borrow.Author.Tests.{le-ltb}
use Rattle.std.specs.Prelude.{Result, Ok, Err}
use Rattle.rules.specs.Mosts as Most
use Rattle.rules.specs.Mosts.{mosts}
use Rattle.rules.specs.Numbers as No
use Rattle.rules.specs.Numbers.{number}
use Rattle.rules.specs.declared.faults.Fault.{Fault}
use Rattle.rules.specs.declared.faults.Refusal.{Refusal}
use Rattle.rules.specs.Text.{lines}
use Rattle.rules.specs.Reading.{Reading, turned_away, accepted, reading}
use Rattle.rules.specs.Run.{refused}
use Rattle.rules.specs.Calls.{long_text, long_turns, short_table, read_call, program_after}
use Rattle.rules.specs.Listing.{answer_line}
use Rattle.rules.specs.Input.{Turns, fault, turns, turns_of, last_line, lines_before, Outcome, turns_away, ran_on, outcome_by, outcome}
use Rattle.rules.specs.Writer as Writer
use Rattle.rules.specs.Writer.{short_buffer, WriteCall}
use Rattle.rules.proofs.ListLaws.{impossible}
use Rattle.rules.proofs.Writer.{comes_back}
use Rattle.reader.specs.ReadAnswers.{Answers}
use Rattle.buffer.specs.Writing.{over, Wrote}
use Rattle.buffer.proofs.Appends.{◌▹◌, front_is}
use Rattle.writer.specs.WriteAnswers as Told
use Rattle.replay.specs.Given.{Given, away, faulty, given, given_by, given_of}
use Rattle.printing.specs.Printing.{Tells}
use Rattle.save.specs.Saved.{saved_as, saved, script_saved_as, script_saved, saved_bytes}

-- ---- The script

module _ (text table : List ℕ) (wide : length table ≡ Most.words) (rest : List ℕ) where
  same_reading : read_call mosts text table ≡ reading mosts (long_text text) false text
  unfolding read_call short_table
  same_reading = rw (le-ltb (length table) Most.words (omega arith)) refl

  -- a refusal stands for the script
  pub refusal_line : {e : Refusal} {r : Result Unit Refusal} → Answers (read_call mosts text table) r → r ≡ Err e → script_saved text rest ≡ answer_line (refused (number e.fault) e.line)
  unfolding script_saved
  refusal_line {e} {r} told is = of_reading (reading mosts (long_text text) false text) (subst (λ (x : Reading). Answers x r) same_reading told)
    where
      of_reading : (x : Reading) → Answers x r → script_saved_as text rest x ≡ answer_line (refused (number e.fault) e.line)
      of_reading (turned_away i l) told =
          let both = sym told.is ∙ is in
          let same : told.refusal ≡ e = cc in
          rw (← told.number_is, ← told.line_is, same)
      of_reading (accepted P) told = let both = sym told ∙ is in impossible cc

  -- and what was read comes back
  pub script_written : {u : Unit {0}} {r : Result Unit Refusal} {table₁ output after : List ℕ} {answer : Writer.Answer} → Answers (read_call mosts text table) r → r ≡ Ok u
      → table₁ ≡ program_after (read_call mosts text table) table → saved_bytes ≤ length output → WriteCall mosts table₁ output answer after
      → (script_saved text rest ≡ text ++ rest) × Writer.Written text output answer after
  unfolding script_saved short_buffer
  script_written {r = r} {table₁ = table₁} {output} {after} {answer} told e leaves room call = of_reading (read_call mosts text table) refl told
    where
      of_reading : (x : Reading) → read_call mosts text table ≡ x → Answers x r
          → (script_saved_as text rest (reading mosts (long_text text) false text) ≡ text ++ rest) × Writer.Written text output answer after
      of_reading (turned_away k n) is told = let both = sym told.is ∙ e in impossible cc
      of_reading (accepted P) is told =
          let its : table₁ ≡ program_after (accepted P) table = leaves ∙ ap (λ (x : Reading). program_after x table) is in (
            ap (script_saved_as text rest) (sym same_reading ∙ is),
            comes_back mosts text table output P is (le-ltb (length output) Most.text (omega arith)) answer after (subst (λ (t : List ℕ). WriteCall mosts t output answer after) its call),
          )

-- as the writer's own answer has it
module _ (text rest output : List ℕ) {after : List ℕ} {answer : Result ℕ Fault}
    (written : (script_saved text rest ≡ text ++ rest) × Writer.Written text output (Told.answer_of answer) after) where
  pub count_written : {n : ℕ} → answer ≡ Ok n → n ≡ length text
  count_written is = let told = sym (ap Told.answer_of is) ∙ written.1.answers in cc

  front_written : {n : ℕ} → answer ≡ Ok n → Wrote n output after 0 n text
  unfolding over
  front_written {n} is =
      record {
        is = rw (zero-add (length text)) written.1.leaves;
        end = rw zero-add (count_written is);
        most = omega arith;
        from = omega arith;
      }

  -- with what follows it
  pub rest_written : {n k m : ℕ} {after₁ left : List ℕ} → answer ≡ Ok n → Wrote k after after₁ n m rest → left ≡ after₁ → Tells (script_saved text rest) output (Ok m) left
  rest_written is w same = rw written.0 (let front = front_is (front_written is ▹ w) in (front.1, same ∙ front.0))

  pub never_refused : {f : Fault} → answer ≡ Err f → ⊥
  never_refused is = let told = sym (ap Told.answer_of is) ∙ written.1.answers in impossible cc

-- ---- The input

abbrev pub outcome_given : Given → Outcome
outcome_given (away k) = turns_away k 0
outcome_given (faulty t k n) = turns_away k n
outcome_given (given t ts) = ran_on mosts ts (reading mosts (long_text t || long_turns ts) false t)

comes_to : (input : List ℕ) → outcome mosts input ≡ outcome_given (given_of input)
unfolding outcome given_of
comes_to input = go (ltb Most.input (length input)) (turns_of (last_line (lines input)))
  where
    go : (b : Bool) (t : Turns)
        → cond b (turns_away No.overlong 0) (outcome_by mosts (lines_before (lines input)) t) ≡ outcome_given (cond b (away No.overlong) (given_by (lines_before (lines input)) t))
    go true t = refl
    go false (fault k) = refl
    go false (turns ts) = refl

-- what is saved, by what the input comes to
abbrev pub saved_given : (input : List ℕ) → Given → List ℕ
saved_given input x = saved_as input (outcome_given x)

pub saved_by_given : (input : List ℕ) → saved input ≡ saved_given input (given_of input)
unfolding saved
saved_by_given input = ap (saved_as input) (comes_to input)

-- of a script and what follows it; fewer turns than the most are never too many
pub saved_parts : (input text ts last : List ℕ) → text ++ last ≡ input → length ts ≤ Most.turns → script_saved text last ≡ saved_given input (given text ts)
unfolding script_saved long_turns
saved_parts input text ts last whole few = rw (le-ltb Most.turns (length ts) few) (go (long_text text))
  where
    of_reading : (x : Reading) → script_saved_as text last x ≡ saved_as input (ran_on mosts ts x)
    of_reading (turned_away k m) = refl
    of_reading (accepted P) = whole

    go : (b : Bool) → script_saved_as text last (reading mosts b false text) ≡ saved_as input (ran_on mosts ts (reading mosts (b || false) false text))
    go true = of_reading (reading mosts true false text)
    go false = of_reading (reading mosts false false text)

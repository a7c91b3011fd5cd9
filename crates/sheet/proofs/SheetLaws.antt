-- The sheets, from what their parts write.
use Prim.Native.Nat.{ℕ, ◌≤◌, ◌<◌}
use native.Mathlib.Nat.{zero-add}
use native.Mathlib.Omega.{arith}
use mathlib.Core.Path.{◌≡◌, refl, sym, ap, ◌∙◌, subst}
use mathlib.Core.Bool.{Bool, false}
use mathlib.Core.List.{List, ◌++◌, append_assoc}
use lib.ListN.{length, drop}
use borrow.Author.Tests.{lt-ltb, le-ltb}
use Rattle.std.specs.Prelude.{Option, Some, None, Result, Ok, Err}
use Rattle.rules.specs.declared.faults.Fault.TheVariants.{ShortTable}
use Rattle.rules.specs.declared.faults.Refusal.{Refusal}
use Rattle.rules.specs.Mosts as Most
use Rattle.rules.specs.Mosts.{mosts}
use Rattle.rules.specs.Numbers.{number}
use Rattle.rules.specs.Reading.{turned_away, accepted}
use Rattle.rules.specs.Calls.{long_text, inputs}
use Rattle.rules.proofs.Accepted.{accepted_valid, reading_accepted}
use Rattle.buffer.specs.declared.Output.{Output}
use Rattle.buffer.specs.Outputs.{Wrote}
use Rattle.buffer.specs.Writing.{over, Wrote as WroteAt}
use Rattle.buffer.proofs.Outputs.{◌▹◌, same_text}
use Rattle.table.specs.ProgramTable.{fresh_table}
use Rattle.reader.specs.ReadAnswers as ReadAnswers
use Rattle.reader.proofs.Outcome as Outcome
use Rattle.run.specs.declared.Outcome as Run
use Rattle.run.specs.RunAnswers.{outcome, told}
use Rattle.run.specs.Made.{Holds, Made, Makes}
use Rattle.run.proofs.AnswerTells.{made_is, refused_is}
use Rattle.listing.specs.Outputs.{output_after}
use Rattle.replay.specs.Given.{Given, given_of, misfit_told}
use Rattle.sheet.specs.declared.examined.Examined.{Examined}
use Rattle.sheet.specs.Ticks.{reading_of}
use Rattle.sheet.specs.SheetText.{heading, title_two, unexamined, part_one, part_two, read_text, two_text, three_text, four_text, part_four, verdict, refused_end, filed_sheet, faulty_end, faulty_sheet, holds_filed, sheet_by, holds_by, sheet_of, holds_of, checked_of}
use Rattle.sheet.specs.SheetParts.{WritesProgram}
use Rattle.sheet.specs.Examined.{ReadsAs, Examines}
use Rattle.sheet.specs.Sheets.{WritesRan}
use Rattle.sheet.proofs.ExaminedLaws.{inputs_are}

-- ---- 1 and 2, of a text that was read or not

module _ {text p p₁ : List ℕ} {o o₁ o₂ : Output} {answer : Result Unit Refusal} (makes : ReadAnswers.Makes text false p answer p₁) (fresh : p ≡ fresh_table) where
  pub script_refused : {e : Refusal} → answer ≡ Err e → Wrote 446 o o₁ (part_one (turned_away (number e.fault) e.line) text) → Wrote 64 o₁ o₂ (unexamined title_two)
      → Wrote 4400 o o₂ (part_one (reading_of text) text ++ part_two (reading_of text))
  unfolding reading_of part_two
  script_refused {e} is one two =
      let away : reading_of text ≡ turned_away (number e.fault) e.line = Outcome.refused_is (reading_of text) p₁ (makes.makes fresh) is in
      rw away (same_text 4400 refl (omega arith) (one ▹ two))

  pub script_read : {u : Unit {0}} → answer ≡ Ok u → WritesProgram 63 p₁ o o₁ read_text → WritesProgram 4279 p₁ o₁ o₂ two_text
      → Wrote 4400 o o₂ (part_one (reading_of text) text ++ part_two (reading_of text))
  unfolding reading_of part_one part_two
  script_read is one two =
      let read = Outcome.read_is (reading_of text) (makes.makes fresh) is in
      let valid = accepted_valid mosts text read.program (reading_accepted mosts (long_text text) false text read.program read.is).2 in
      rw read.is (same_text 4400 refl (omega arith) (one.writes read.program valid read.words ▹ two.writes read.program valid read.words))

-- ---- A last line with a fault

pub faulty_sheet_lem : (text input : List ℕ) (k n : ℕ) {o o₁ o₂ o₃ : Output} → Wrote 32 o o₁ heading
    → Wrote 4400 o₁ o₂ (part_one (reading_of text) text ++ part_two (reading_of text)) → Wrote 550 o₂ o₃ (faulty_end k n input)
    → Wrote 8192 o o₃ (heading ++ faulty_sheet (reading_of text) text k n input)
unfolding faulty_sheet
faulty_sheet_lem text input k n head script end =
    let R = reading_of text in
    same_text 8192 (ap (heading ++◌) (append_assoc (part_one R text) (part_two R) (faulty_end k n input))) (omega arith) (head ▹ script ▹ end)

-- ---- A run that was made

pub ran_written : {text turns p s : List ℕ} {o o₁ o₂ o₃ o₄ : Output} {e : Examined} (guarded : Run.Outcome) → Examines text turns p s e
    → WritesProgram 63 p o o₁ read_text → WritesProgram 4279 p o₁ o₂ two_text → Wrote 1644 o₂ o₃ (three_text (length turns) e.counts)
    → Wrote 270 o₃ o₄ (four_text (outcome guarded) (told e.stripped) e.same e.played ++ verdict e.same) → WritesRan text turns p s guarded o o₄ e.same
unfolding filed_sheet part_four
ran_written guarded examines one two three last =
    record {
      writes = λ P reads holds. (
          same_text 6256
          (rw (← examines.counts P (Ok guarded) reads holds, ← examines.before P (Ok guarded) reads holds, ← examines.stripped P (Ok guarded) reads holds, ← examines.same P (Ok guarded) reads holds, ← holds.answers) refl)
          (omega arith) (one.writes P holds.valid holds.program_words_are ▹ two.writes P holds.valid holds.program_words_are ▹ three ▹ last)
          );
      verdict = λ P reads holds. examines.same P (Ok guarded) reads holds;
      most = omega (arith, one.most, two.most, three.most, last.most);
      length_same = last.length_same ∙ three.length_same ∙ two.length_same ∙ one.length_same;
      buffer_same = last.buffer_same ∙ three.buffer_same ∙ two.buffer_same ∙ one.buffer_same;
    }

-- ---- A script and its turns

module _ {text turns p s p₁ s₁ : List ℕ} {answer : Result Run.Outcome Refusal} (makes : Makes text turns false p s answer p₁ s₁) (fresh-p : p ≡ fresh_table) (fresh-s : s ≡ fresh_table)
    (few : length turns ≤ Most.turns) where
  made : Made (inputs mosts text turns false) turns answer p₁ s₁
  made = makes.makes fresh-p fresh-s

  pub filed_refused : {o o₁ o₂ o₃ : Output} {e : Refusal} → answer ≡ Err e → Wrote 32 o o₁ heading
      → Wrote 446 o₁ o₂ (part_one (turned_away (number e.fault) e.line) text) → Wrote 231 o₂ o₃ (refused_end (length turns))
      → Wrote 8192 o o₃ (heading ++ filed_sheet (reading_of text) text turns) × (false ≡ holds_filed (reading_of text) turns)
  unfolding filed_sheet
  filed_refused is head one end =
      let away : reading_of text ≡ turned_away _ _ = sym (inputs_are text turns few) ∙ refused_is turns p₁ s₁ (inputs mosts text turns false) made is in
      rw away (same_text 8192 refl (omega arith) (head ▹ one ▹ end), refl)

  pub filed_ran : {o o₁ o₂ : Output} {guarded : Run.Outcome} {holds : Bool} → answer ≡ Ok guarded → Wrote 32 o o₁ heading → WritesRan text turns p₁ s₁ guarded o₁ o₂ holds
      → Wrote 8192 o o₂ (heading ++ filed_sheet (reading_of text) text turns) × (holds ≡ holds_filed (reading_of text) turns)
  filed_ran is head ran =
      let is_made = made_is turns p₁ s₁ (inputs mosts text turns false) made is in
      let P = is_made.program in
      let reads : ReadsAs text turns P = is_made.is in
      let same : reading_of text ≡ accepted P = sym (inputs_are text turns few) ∙ reads in
      let holds = subst (λ (r : Result Run.Outcome Refusal). Holds P turns r p₁ s₁) is is_made.holds in
      rw same (same_text 8192 refl (omega arith) (head ▹ ran.writes P reads holds), ran.verdict P reads holds)

-- ---- In an output

pub misfit_holds : (r : Refusal) (at : Option ℕ) (input : List ℕ) → false ≡ holds_by (misfit_told r at input)
misfit_holds r None input = refl
misfit_holds r (Some at) input = refl

-- as the input was taken apart
pub sheet_is : (input : List ℕ) {o o₁ : Output} {holds : Bool} (g : Given) → given_of input ≡ g → Wrote 8192 o o₁ (sheet_by input g) → holds ≡ holds_by g
    → Wrote 8192 o o₁ (sheet_of input) × (holds ≡ holds_of input)
unfolding sheet_of holds_of
sheet_is input g is wrote told = rw is (wrote, told)

module _ (input output : List ℕ) where
  pub output_short : length output < 32768 → (Err ShortTable ≡ checked_of input output) × (output ≡ output_after (sheet_of input) output)
  unfolding checked_of output_after
  output_short short = rw (lt-ltb (length output) 32768 short) (refl, refl)

  pub sheet_printed : {output₁ : List ℕ} {n : ℕ} {holds : Bool} → 32768 ≤ length output → WroteAt 8192 output output₁ 0 n (sheet_of input) → holds ≡ holds_of input
      → (Ok (record { length = n; holds = holds }) ≡ checked_of input output) × (output₁ ≡ output_after (sheet_of input) output)
  unfolding checked_of output_after over
  sheet_printed {n = n} room wrote is =
      let sheet = sheet_of input in
      let length_is : n ≡ length sheet = wrote.end ∙ zero-add (length sheet) in
      rw (le-ltb (length output) 32768 room) (rw (length_is, is) refl, wrote.is ∙ ap (λ (i : ℕ). sheet ++ drop i output) (zero-add (length sheet)))

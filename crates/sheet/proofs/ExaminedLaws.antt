-- Both runs, from what each of them leaves.
use Prim.Native.Nat.{ℕ, ◌≤◌}
use native.Mathlib.Omega.{arith}
use mathlib.Core.Path.{◌≡◌, refl, sym, ap, ◌∙◌, subst}
use mathlib.Core.Bool.{Bool, true, false, ◌||◌}
use mathlib.Core.List.{List}
use lib.ListN.{length, take}
use lib.Seq.{length-take-le}
use borrow.Author.Tests.{le-ltb}
use Rattle.rules.specs.Mosts as Most
use Rattle.rules.specs.Mosts.{mosts}
use Rattle.rules.specs.Script.{Program}
use Rattle.rules.specs.Reading.{Reading, reading}
use Rattle.rules.specs.Stripped.{strip, erase}
use Rattle.rules.specs.Calls.{long_text, long_turns, inputs}
use Rattle.table.specs.ProgramTable.{fresh_table, Same}
use Rattle.table.specs.StateTable.{Becomes}
use Rattle.std.specs.Prelude.{Result}
use Rattle.rules.specs.declared.faults.Refusal.{Refusal}
use Rattle.run.specs.declared.Outcome.{Outcome}
use Rattle.run.specs.Made.{Holds, Made}
use Rattle.tally.specs.Counted.{Tallies}
use Rattle.stripping.specs.StrippedRuns.{stripped_of, MakesStripped}
use Rattle.stripping.proofs.FourthCondition.{condition_told}
use Rattle.sheet.specs.Ticks.{reading_of}
use Rattle.sheet.specs.Examined.{ReadsAs, StrippedAnswers, ComparesRuns, Examines}

-- ---- The inputs

no_or : (b : Bool) → (b || false) ≡ b
no_or true = refl
no_or false = refl

-- a list that is not too long changes nothing
pub inputs_are : (text turns : List ℕ) → length turns ≤ Most.turns → inputs mosts text turns false ≡ reading_of text
unfolding inputs long_turns reading_of
inputs_are text turns few = rw (le-ltb Most.turns (length turns) few) (ap (λ (b : Bool). reading mosts b false text) (no_or (long_text text)))

front_reads : (text turns : List ℕ) {k : ℕ} {P : Program} → length turns ≤ Most.turns → k ≤ length turns → ReadsAs text turns P → ReadsAs text (take k turns) P
front_reads text turns {k} few within reads =
    inputs_are text (take k turns) (omega (arith, length-take-le k turns within)) ∙ sym (inputs_are text turns few) ∙ reads

-- ---- The stripped run

module _ {text turns p s p₁ s₁ : List ℕ} {r : Result Outcome Refusal} (makes : MakesStripped text turns p s r p₁ s₁) (fresh-p : p ≡ fresh_table) (fresh-s : s ≡ fresh_table) where
  stripped_made : (P : Program) → ReadsAs text turns P → Holds (strip P) turns r p₁ s₁
  stripped_made P reads = subst (λ (C : Reading). Made (stripped_of C) turns r p₁ s₁) reads (makes.makes fresh-p fresh-s)

  pub stripped_answers : StrippedAnswers text turns r
  stripped_answers = record { answers = λ P reads. (stripped_made P reads).answers }

  pub runs_compared : {t erased : List ℕ} {b : Bool} → Becomes t (λ S. length S.objects ≤ mosts.objects) erase erased → Same erased s₁ b → ComparesRuns text turns t b
  runs_compared becomes same =
      record {
        compares = λ P all p₂ a reads front holds.
            condition_told holds (subst (λ (ts : List ℕ). Holds (strip P) ts r p₁ s₁) front (stripped_made P reads)) becomes same;
      }

-- ---- Both

pub examined : {text turns p s s₀ counts : List ℕ} {k : ℕ} {r : Result Outcome Refusal} {b : Bool} → length turns ≤ Most.turns → s₀ ≡ fresh_table → length counts ≡ 85
    → Tallies p s₀ turns k counts → StrippedAnswers text turns r → ComparesRuns text (take k turns) s b
    → Examines text turns p s (record { counts = counts; played = k; stripped = r; same = b })
examined {text} {turns} {k = k} few fresh wide tallied answers compared =
    record {
      within = tallied.within;
      wide = wide;
      counts = λ P a reads holds. tallied.counts P holds.loaded holds.valid fresh;
      before = λ P a reads holds. tallied.before P holds.loaded holds.valid fresh;
      stripped = λ P a reads holds. answers.answers P reads;
      same = λ P a reads holds. (
          compared.compares P turns _ a (front_reads text turns few tallied.within reads) (ap (λ (i : ℕ). take i turns) (tallied.before P holds.loaded holds.valid fresh)) holds
          );
    }

-- The refusals are those of the run; where the script is read, the stripped program that its table then holds is run as any other.
use Prim.Native.Nat.{ℕ, ◌≤◌, ◌<◌}
use mathlib.Core.Path.{◌≡◌, refl, sym, ◌∙◌}
use mathlib.Core.Bool.{false}
use mathlib.Core.List.{List, [], append-nil}
use lib.ListN.{length}
use Rattle.rules.specs.Mosts as Most
use Rattle.rules.specs.Mosts.{mosts}
use Rattle.rules.specs.Run.{run}
use Rattle.rules.specs.Stripped.{strip}
use Rattle.rules.specs.Tables.{program_words, state_words}
use Rattle.rules.specs.Calls.{inputs}
use Rattle.rules.proofs.Keeps.{fits_run}
use Rattle.table.specs.StrippedTables.{Strips}
use Rattle.std.specs.Prelude.{Result, Ok, Err}
use Rattle.rules.specs.declared.faults.Fault.TheVariants as F
use Rattle.rules.specs.declared.faults.Refusal.{Refusal}
use Rattle.reader.specs.ReadAnswers as ReadAnswers
use Rattle.reader.proofs.Outcome.{refuses}
use Rattle.turn.proofs.Located.{words_loaded}
use Rattle.run.specs.declared.Outcome.{Outcome}
use Rattle.run.specs.Played.{RunsProgram}
use Rattle.run.specs.Made.{Makes}
use Rattle.run.proofs.AnswerTells.{refused_is}
use Rattle.stripping.specs.StrippedRuns.{MakesStripped}
use Rattle.stripping.proofs.StrippedRead.{long_away, read_stripped}

module _ (text turns : List ℕ) {p s : List ℕ} where
  pub refused_long : {e : Refusal} {p₁ s₁ : List ℕ} → e.fault ≡ F.Overlong → e.line ≡ 0 → Most.turns < length turns → MakesStripped text turns p s (Err e) p₁ s₁
  refused_long {e} why line h =
      record { makes = λ p-fresh s-fresh. rw (long_away text turns h) (record { refusal = e; is = refl; number_is = rw why refl; line_is = line }) }

  -- a refusal is of the inputs, not of what they would make
  pub refused_too : {e : Refusal} {p₁ s₁ : List ℕ} → Makes text turns false p s (Err e) p₁ s₁ → MakesStripped text turns p s (Err e) p₁ s₁
  refused_too {e} {p₁} {s₁} made =
      record { makes = λ p-fresh s-fresh. rw (refused_is turns p₁ s₁ (inputs mosts text turns false) (made.makes p-fresh s-fresh) refl) (refuses e) }

  pub run_stripped : {x : Result Unit Refusal} {u : Unit {0}} {r : Outcome} {p₁ p₂ s₁ : List ℕ} → length turns ≤ Most.turns → ReadAnswers.Makes text false p x p₁ → x ≡ Ok u → Strips p₁ p₂
      → RunsProgram p₂ turns s r s₁ → MakesStripped text turns p s (Ok r) p₂ s₁
  run_stripped few read is strips runs = record {
    makes = λ p-fresh s-fresh.
        let of = read_stripped text turns few read p-fresh is strips in
        let Q = strip of.program in
        let loaded = words_loaded Q of.valid [] (of.words ∙ sym (append-nil (program_words Q))) in
        let held = runs.leaves Q loaded of.valid s-fresh in
        rw of.is
        (record {
          answers = runs.answers Q loaded of.valid s-fresh;
          program_words_are = of.words;
          state_words_are = held.words ∙ append-nil (state_words (run mosts Q turns).state);
          valid = of.valid;
          loaded = loaded;
          held = held;
          fits = fits_run Q turns of.valid few;
        });
  }

-- What a run's answer tells of its inputs: a refusal is theirs; after any other answer the run was made, of an accepted script.
use Prim.Native.Nat.{ℕ}
use mathlib.Core.Path.{◌≡◌, refl, sym, ap, ◌∙◌}
use mathlib.Core.List.{List}
use Rattle.std.specs.Prelude.{Result, Ok, Err}
use Rattle.rules.specs.declared.faults.Refusal.{Refusal}
use Rattle.rules.specs.Mosts.{mosts}
use Rattle.rules.specs.Numbers.{number}
use Rattle.rules.specs.Script.{Program}
use Rattle.rules.specs.Reading.{Reading, turned_away, accepted}
use Rattle.rules.specs.State.{State}
use Rattle.rules.specs.Run as R
use Rattle.rules.specs.Run.{Stop, none, stopped, refused, run, answer}
use Rattle.rules.specs.Calls.{run_answer}
use Rattle.rules.proofs.ListLaws.{impossible}
use Rattle.run.specs.declared.Outcome.{Outcome}
use Rattle.run.specs.declared.Outcome.TheVariants.{Finished, Stuck, Open, Stopped}
use Rattle.run.specs.RunAnswers.{outcome, told}
use Rattle.run.specs.Made.{Holds, Made}

-- a run that was made is never answered with a refusal
no_refusal : (P : Program) (turns : List ℕ) {k n : ℕ} → refused k n ≡ answer mosts P (run mosts P turns) → ⊥
unfolding answer R.answer_of
no_refusal P turns {k} {n} = let r = run mosts P turns in by_stop r.state r.moves r.stop
  where
    by_stop : (S : State) (m : ℕ) (x : Stop) → refused k n ≡ R.answer_of mosts P S m x → ⊥
    by_stop S m none e = impossible cc
    by_stop S m (stopped k t b l) e = impossible cc

outcome_made : (x : Outcome) {k n : ℕ} → outcome x ≡ refused k n → ⊥
outcome_made (Finished m) e = impossible cc
outcome_made (Stuck m) e = impossible cc
outcome_made (Open m) e = impossible cc
outcome_made (Stopped x) e = impossible cc

pub record IsMade (C : Reading) (turns : List ℕ) (r : Result Outcome Refusal) (p s : List ℕ) : Type 0 where
  pub program : Program
  pub is : C ≡ accepted program
  pub holds : Holds program turns r p s

module _ (turns p s : List ℕ) {r : Result Outcome Refusal} where
  pub made_is : (C : Reading) {x : Outcome} → Made C turns r p s → r ≡ Ok x → IsMade C turns r p s
  made_is (turned_away k n) made e = let both = sym e ∙ made.is in impossible cc
  made_is (accepted P) made e = record { program = P; is = refl; holds = made }

  pub refused_is : (C : Reading) {e : Refusal} → Made C turns r p s → r ≡ Err e → C ≡ turned_away (number e.fault) e.line
  refused_is (turned_away k n) {e} made is =
      let both = sym made.is ∙ is in
      let same : made.refusal ≡ e = cc in
      rw (← made.number_is, ← made.line_is, same)
  refused_is (accepted P) made is = absurd (no_refusal P turns (sym (ap told is) ∙ made.answers))

-- the answer is the one that the definitions give
pub answers_are : (turns p s : List ℕ) (r : Result Outcome Refusal) (C : Reading) → Made C turns r p s → told r ≡ run_answer mosts turns C
answers_are turns p s r (turned_away k n) made = rw (made.is, made.number_is, made.line_is)
answers_are turns p s r (accepted P) made = made.answers

-- the same, where only the answer is known
pub record IsAccepted (C : Reading) : Type 0 where
  pub program : Program
  pub is : C ≡ accepted program

pub accepted_is : (C : Reading) (turns : List ℕ) {r : Result Outcome Refusal} {x : Outcome} → told r ≡ run_answer mosts turns C → r ≡ Ok x → IsAccepted C
accepted_is (turned_away k n) turns {x = x} answers e = absurd (outcome_made x (sym (ap told e) ∙ answers))
accepted_is (accepted P) turns answers e = record { program = P; is = refl }

pub refusal_is : (turns : List ℕ) (C : Reading) {k n : ℕ} → refused k n ≡ run_answer mosts turns C → C ≡ turned_away k n
refusal_is turns (turned_away i j) {k} {n} e =
    let number : i ≡ k = cc in
    let line : j ≡ n = cc in
    rw (number, line)
refusal_is turns (accepted P) e = absurd (no_refusal P turns e)

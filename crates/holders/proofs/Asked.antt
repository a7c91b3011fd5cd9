-- An object that was made has a record, and its count there is told; any other is 21. Before it: what the run answers.
use Rattle.std.proofs.Common.{ℕ, ◌%◌, ◌≤◌, ◌<◌, mod-eq_of_lt, arith, ◌≡◌, refl, sym, ap, ◌∙◌, subst, Bool, false, List, length, drop, lt-ltb, le-ltb, Result, Ok, Err}
use Rattle.rules.specs.Mosts as Most
use Rattle.rules.specs.Mosts.{mosts}
use Rattle.rules.specs.Numbers as No
use Rattle.rules.specs.Numbers.{number}
use Rattle.rules.specs.Refusals.{Refuses}
use Rattle.rules.specs.declared.faults.Refusal.{Refusal}
use Rattle.rules.specs.Reading.{Reading, turned_away}
use Rattle.rules.specs.Run.{run}
use Rattle.rules.specs.Holders.{holders}
use Rattle.rules.specs.Calls.{run_call, count_on, holder_count}
use Rattle.table.specs.StateTable.{Sees, Any, Stores}
use Rattle.run.specs.declared.Outcome.{Outcome}
use Rattle.run.specs.RunAnswers.{told as told_by, Ran}
use Rattle.run.proofs.AnswerTells.{refusal_is}
use Rattle.run.proofs.Answering.{Stands, ran_stands}
use Rattle.holders.specs.StoredCounts.{Answers, CountsState, HasCounted}

-- ---- In a state table

module _ {s : List ℕ} {object d : ℕ} (long : Most.words ≤ length s) (made : Sees s Any (λ S. length S.objects) d) where
  pub not_made : {r : Result ℕ Refusal} → d ≤ object → Refuses r No.no_object 0 → CountsState s object r
  not_made {r} past is =
      record {
        counts = λ _ S rest held few.
            let none : length S.objects ≤ object = omega (arith, made.sees S rest held tt) in
            subst (λ (b : Bool). Answers (count_on S object b) r) (sym (le-ltb object (length S.objects) none)) is;
        refuses = λ some. absurd (some long);
      }

  pub told : {r : ℕ} → object < d → Stores s (object % 256) r → CountsState s object (Ok r)
  told {r} there stored =
      record {
        counts = λ _ S rest held few.
            let is : object < length S.objects = omega (arith, made.sees S rest held tt) in
            let place : object % 256 ≡ object = mod-eq_of_lt (omega arith) in
            subst (λ (b : Bool). Answers (count_on S object b) (Ok r)) (sym (lt-ltb object (length S.objects) is))
            (ap Ok (stored.stores S rest held ∙ ap (holders S) place));
        refuses = λ some. absurd (some long);
      }

-- ---- After a run

module _ (text turns program state : List ℕ) (object : ℕ) {a : Result Outcome Refusal} {p s : List ℕ}
    (ran : Ran (run_call mosts text turns program state) turns program state a p s) where
  -- the run was turned away
  pub count_away : {e : Refusal} → a ≡ Err e → HasCounted (run_call mosts text turns program state) turns object program state (Err e) p s
  count_away {e} is =
      let C = run_call mosts text turns program state in
      let away : C ≡ turned_away (number e.fault) e.line = refusal_is turns C (sym (ap told_by is) ∙ ran.answers) in
      record {
        answers = subst (λ (x : Reading). Answers (holder_count mosts turns object x) (Err e)) (sym away)
            (record { refusal = e; is = refl; number_is = refl; line_is = refl });
        program_is = ran.program_is;
        state_is = ran.state_is;
      }

  -- the run was made
  by_run : {x : Outcome} → a ≡ Ok x → Stands (run_call mosts text turns program state) turns state p s
  unfolding run_call
  by_run e = ran_stands text turns program state false ran e

  pub count_told : {x : Outcome} {r : Result ℕ Refusal} → a ≡ Ok x → CountsState s object r
      → HasCounted (run_call mosts text turns program state) turns object program state r p s
  count_told {r = r} e counts =
      let stands = by_run e in
      let S = (run mosts stands.program turns).state in
      record {
        answers = subst (λ (C : Reading). Answers (holder_count mosts turns object C) r) (sym stands.is)
            (counts.counts stands.long.1 S (drop Most.words state) stands.held stands.fits.few_objects);
        program_is = ran.program_is;
        state_is = ran.state_is;
      }

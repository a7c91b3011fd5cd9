-- What the holder count answers, as the numbers that cross.
use Rattle.std.proofs.Common.{ℕ, arith, ◌≡◌, refl, sym, ap, ◌∙◌, subst, false, List, [], length, Result, Ok, Err}
use Rattle.rules.specs.Mosts.{mosts}
use Rattle.rules.specs.Reading.{Reading}
use Rattle.rules.specs.Run.{run}
use Rattle.rules.specs.Calls.{Count, uncounted, counted, holder_count}
use Rattle.rules.proofs.TableWords.{state_words_length}
use Rattle.rules.specs.declared.faults.Refusal.{Refusal}
use Rattle.run.specs.declared.Outcome.{Outcome}
use Rattle.run.proofs.AnswerTells.{made_is, refused_is}
use Rattle.holders.specs.StoredCounts.{Answers, CountsState}
use Rattle.host.specs.ByteCalls.{lent_bytes, Stores, CountInNumbers, run_bytes, TellsCount, HasAsked, HasCounted}

-- the count, told in numbers
counted_as : (N : Count) (y : Result ℕ Refusal) {k n l : ℕ} → Answers N y → CountInNumbers y k n l → TellsCount N k n l
counted_as (uncounted i j) y {k = k} {n = n} {l = l} away told =
    let so = subst (λ (y : Result ℕ Refusal). CountInNumbers y k n l) away.is told in
    record { number_is = so.0 ∙ away.number_is; count_is = so.1; line_is = so.2 ∙ away.line_is }
counted_as (counted places) y {k = k} {n = n} {l = l} is told =
    let so = subst (λ (y : Result ℕ Refusal). CountInNumbers y k n l) is told in
    record { number_is = so.0; count_is = so.1; line_is = so.2 }

pub has_counted : {C : Reading} {turns : List ℕ} {object : ℕ} {program state : List ℕ} {y : Result ℕ Refusal} {program₁ state₁ : List ℕ} {k n l : ℕ}
    → HasAsked C turns object program state y program₁ state₁ → CountInNumbers y k n l → HasCounted C turns object program state k n l program₁ state₁
has_counted {C} {turns} {object} {y = y} asked told =
    record {
      told = counted_as (holder_count mosts turns object C) y asked.answers told;
      program_is = asked.program_is;
      state_is = asked.state_is;
    }

module _ (text turns program state : List ℕ) (object : ℕ) {r : Result Outcome Refusal} {p s program₁ state₁ : List ℕ}
    (stores : Stores (lent_bytes text turns program state false) turns program state r p s program₁ state₁) where
  by_run : Stores (run_bytes text turns program state) turns program state r p s program₁ state₁
  unfolding run_bytes
  by_run = stores

  -- the run was turned away
  pub holders_away : {e : Refusal} → r ≡ Err e → HasAsked (run_bytes text turns program state) turns object program state (Err e) program₁ state₁
  holders_away {e} is =
      let away = refused_is turns p s (run_bytes text turns program state) by_run.made is in
      record {
        answers = rw away (record { refusal = e; is = refl; number_is = refl; line_is = refl });
        program_is = by_run.program_is;
        state_is = by_run.state_is;
      }

  -- the run was made, and its own state is asked
  pub holders_told : {x : Outcome} {y z : Result ℕ Refusal} → r ≡ Ok x → CountsState s object y → y ≡ z
      → HasAsked (run_bytes text turns program state) turns object program state z program₁ state₁
  holders_told {z = z} e counts is =
      let one = made_is turns p s (run_bytes text turns program state) by_run.made e in
      let S = (run mosts one.program turns).state in
      let holds = one.holds in
      let answers = counts.counts (omega (arith, ap length holds.state_words_are, state_words_length S)) S [] holds.held holds.fits.few_objects in
      record {
        answers = subst (λ (C : Reading). Answers (holder_count mosts turns object C) z) (sym one.is) (rw is at answers);
        program_is = by_run.program_is;
        state_is = by_run.state_is;
      }

-- The report: the objects met are what is reached, and in rising order they are the one list of it. Before it: what the run answers.
use Rattle.std.proofs.Common.{ℕ, ◌%◌, ◌≤◌, ◌<◌, mod-eq_of_lt, arith, ◌≡◌, refl, sym, ap, ◌∙◌, subst, Bool, true, not, List, [], ◌++◌, ◌↔◌, eqb, ltb, length, get_or, drop, replicate, eqb-true, lt-ltb, le-ltb, ltb-false, Result, Ok, Err}
use borrow.Author.Tests.{eqb-false}
use Rattle.rules.specs.declared.Value.{Value}
use Rattle.rules.specs.Mosts as Most
use Rattle.rules.specs.Mosts.{mosts}
use Rattle.rules.specs.Numbers as No
use Rattle.rules.specs.Numbers.{number}
use Rattle.rules.specs.Script.{Program}
use Rattle.rules.specs.Reading.{Reading, turned_away}
use Rattle.rules.specs.State.{Object, State}
use Rattle.rules.specs.Fits.{Fits}
use Rattle.rules.specs.Run.{run}
use Rattle.rules.specs.Reach.{count, times, ReachedFrom, roots, reach_list}
use Rattle.rules.specs.Calls.{short_table, inputs, lent_inputs, reach_call, report_on, reach_report, list_words}
use Rattle.rules.proofs.ListLaws.{by_bool, of_not, or_false}
use Rattle.rules.proofs.Accepted.{reading_accepted}
use Rattle.rules.proofs.Counts.{times_among, times_not_among}
use Rattle.rules.proofs.Walks.{walked_reached}
use Rattle.rules.proofs.Reports.{rising_lists, roots_made, reached_range, reach_lists}
use Rattle.table.specs.StateTable.{Sees, Any}
use Rattle.walk.specs.Walking.{Tally, tally}
use Rattle.walk.proofs.Numbers.{number_met, no_number_not_met, none_numbered}
use Rattle.rules.specs.Refusals.{Refuses}
use Rattle.rules.specs.declared.faults.Refusal.{Refusal}
use Rattle.run.specs.declared.Outcome.{Outcome}
use Rattle.run.specs.RunAnswers.{told, Ran}
use Rattle.run.proofs.AnswerTells.{refusal_is}
use Rattle.run.proofs.Answering.{Stands, ran_stands}
use Rattle.reach.specs.Reported.{Reports, WalkedAll, WalksRoots, met_below, ReportsState, Reached}

-- ---- The report on a state

-- only how often a value stands among those where it starts matters
reached_same : {os : List Object} {vs us : List Value} → ((x : ℕ) → count x vs ≡ count x us) → (x : ℕ) → ReachedFrom os vs x → ReachedFrom os us x
reached_same same x r = record { first = r.first; held = omega (arith, same r.first, r.held); reaches = r.reaches }

-- what is met in the end is what is reached, all of it below 256: in rising order it is the one list of that
met_list : {P : Program} {n : ℕ} {S : State} (t : ℕ) {w : Tally} → Fits mosts P n S → WalkedAll S (roots P S t) [] w
    → met_below 256 w.places ≡ reach_list S.objects (roots P S t)
met_list {P} {n} {S} t {w} fits walked =
    (reach_lists fits t).only (met_below 256 w.places) (rising_lists 256 (λ x. not (eqb (get_or w.places x 0) 0)) (λ x. (there x, back x)) low)
  where
    ends : (x : ℕ) → (1 ≤ times x walked.walked_to.out) ↔ ReachedFrom S.objects walked.values x
    ends = walked_reached S.objects walked.walked_to.walked

    there : (x : ℕ) → not (eqb (get_or w.places x 0) 0) ≡ true → ReachedFrom S.objects (roots P S t) x
    there x h =
        let met = number_met x walked.walked_to.numbered (eqb-false (get_or w.places x 0) 0 (of_not (eqb (get_or w.places x 0) 0) h)) in
        reached_same walked.same x ((ends x).0 (times_among x walked.walked_to.out met))

    back : (x : ℕ) → ReachedFrom S.objects (roots P S t) x → not (eqb (get_or w.places x 0) 0) ≡ true
    back x r =
        let met = (ends x).1 (reached_same (λ y. sym (walked.same y)) x r) in
        by_bool (eqb (get_or w.places x 0) 0)
        (λ h. let fresh = no_number_not_met x walked.walked_to.numbered (eqb-true (get_or w.places x 0) 0 h) in absurd (omega (arith, met, times_not_among x walked.walked_to.out fresh)))
        (λ h. ap not h)

    low : (x : ℕ) → ReachedFrom S.objects (roots P S t) x → x < 256
    low x r = omega (arith, fits.few_objects, reached_range fits (roots P S t) (roots_made fits t) x r)

module _ {p s list : List ℕ} {t d : ℕ} (p-fits : Most.words ≤ length p) (s-fits : Most.words ≤ length s) (list-fits : Most.reach_list ≤ length list)
    (counted : Sees s Any (λ S. length S.threads) d) where
  pub not_reported : {r : Result ℕ Refusal} → d ≤ t → Refuses r No.no_thread 0 → ReportsState p s t list r list
  not_reported {r} past is =
      record {
        reports = λ p-long s-long list-long P n S rest loaded held valid fits.
            let few : length S.threads ≤ t = omega (arith, counted.sees S rest held tt) in
            subst (λ (b : Bool). Reports (report_on P S t b) list r list) (sym (le-ltb t (length S.threads) few)) (record { answers = is; leaves = refl });
        refuses = λ some. absurd (some p-fits s-fits list-fits);
      }

  pub reported : {order : List ℕ} {w : Tally} {r : ℕ} {list₁ : List ℕ} → t < d → WalksRoots p s (tally (replicate 256 0) order 0) (t % 16) w
      → r ≡ length (met_below 256 w.places) → list₁ ≡ list_words (met_below 256 w.places) ++ drop Most.reach_list list → ReportsState p s t list (Ok r) list₁
  reported {order} {w} {r} {list₁} there walks number words =
      record {
        reports = λ p-long s-long list-long P n S rest loaded held valid fits.
            let started : t < length S.threads = omega (arith, counted.sees S rest held tt) in
            let place : t % 16 ≡ t = mod-eq_of_lt (omega (arith, fits.few_threads)) in
            let walked : WalkedAll S (roots P S t) [] w = rw place at (walks.walks P n S rest [] loaded held valid fits (none_numbered 256 order)) in
            let is = met_list t fits walked in
            subst (λ (b : Bool). Reports (report_on P S t b) list (Ok r) list₁) (sym (lt-ltb t (length S.threads) started))
            (record {
              answers = ap Ok (number ∙ ap length is);
              leaves = words ∙ ap (λ (l : List ℕ). list_words l ++ drop Most.reach_list list) is;
            });
        refuses = λ some. absurd (some p-fits s-fits list-fits);
      }

-- ---- The report on a run

module _ (text turns program state list : List ℕ) (t : ℕ) {a : Result Outcome Refusal} {p s : List ℕ}
    (ran : Ran (lent_inputs mosts text turns program state (ltb (length list) Most.reach_list)) turns program state a p s) where
  -- the run was turned away
  pub reach_away : {e : Refusal} → a ≡ Err e → Reached (reach_call mosts text turns program state list) turns t program state list (Err e) p s list
  unfolding reach_call
  reach_away {e} is =
      let C = lent_inputs mosts text turns program state (ltb (length list) Most.reach_list) in
      let away : C ≡ turned_away (number e.fault) e.line = refusal_is turns C (sym (ap told is) ∙ ran.answers) in
      record {
        report = rw away (record { answers = record { refusal = e; is = refl; number_is = refl; line_is = refl }; leaves = refl });
        program_is = ran.program_is;
        state_is = ran.state_is;
      }

  -- the run was made
  module _ {x : Outcome} (e : a ≡ Ok x) where
    stands : Stands (lent_inputs mosts text turns program state (ltb (length list) Most.reach_list)) turns state p s
    stands = ran_stands text turns program state (ltb (length list) Most.reach_list) ran e

    pub reach_told : {list₁ : List ℕ} {r : Result ℕ Refusal} → ReportsState p s t list r list₁
        → Reached (reach_call mosts text turns program state list) turns t program state list r p s list₁
    unfolding reach_call lent_inputs inputs
    reach_told {list₁} {r} reports =
        let P = stands.program in
        let S = (run mosts P turns).state in
        let full = (or_false (short_table state) _ (or_false (short_table program) _ (reading_accepted mosts _ _ text P stands.is).1).1).1 in
        record {
          report = subst (λ (C : Reading). Reports (reach_report mosts turns t C) list r list₁) (sym stands.is)
              (reports.reports stands.long.0 stands.long.1 (ltb-false _ _ full) P Most.turns S (drop Most.words state) stands.loaded stands.held stands.valid stands.fits);
          program_is = ran.program_is;
          state_is = ran.state_is;
        }

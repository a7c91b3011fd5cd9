-- What a report answers is printed as it stands: a refusal by its line, the objects that the list holds by theirs.
use Prim.Native.Nat.{ℕ, ◌≤◌}
use native.Mathlib.Omega.{arith}
use mathlib.Core.Path.{◌≡◌, refl, sym, ap, ◌∙◌}
use mathlib.Core.Bool.{Bool, true, false}
use mathlib.Core.List.{List, ◌++◌, append_assoc}
use lib.Dec.{ltb}
use lib.ListN.{length, take, drop}
use lib.Seq.{take_at}
use borrow.Author.Tests.{le-ltb, ltb-false}
use Rattle.rules.specs.Mosts as Most
use Rattle.rules.specs.Mosts.{mosts}
use Rattle.rules.specs.Script.{Program}
use Rattle.rules.specs.State.{State}
use Rattle.rules.specs.Reading.{Reading, turned_away, accepted}
use Rattle.rules.specs.Run.{refused, run}
use Rattle.rules.specs.Reach.{roots, reach_list}
use Rattle.rules.specs.Calls.{long_text, long_turns, short_table, inputs, lent_inputs, reach_call, Report, unreported, reached, report_on, reach_report, list_words, list_after}
use Rattle.rules.specs.Listing.{answer_line}
use Rattle.rules.proofs.ListLaws.{impossible, or_false, pad_front}
use Rattle.rules.proofs.Accepted.{accepted_valid, reading_accepted}
use Rattle.rules.proofs.Keeps.{fits_run}
use Rattle.rules.proofs.Reports.{reach_few}
use Rattle.std.specs.Prelude.{Result, Ok, Err}
use Rattle.rules.specs.Numbers.{number}
use Rattle.rules.specs.declared.faults.Refusal.{Refusal}
use Rattle.buffer.specs.Writing.{Wrote}
use Rattle.buffer.proofs.Appends.{front_is}
use Rattle.reach.specs.Reported.{Answers, Reports, Reached}
use Rattle.printing.specs.Printing.{Tells}
use Rattle.reports.specs.ReachedLines.{reached_line, reported, report_text}

-- ---- The inputs

-- both tables and another slice are long enough
pub none_short : (text turns program state other : List ℕ) (most : ℕ) → length program ≡ Most.words → length state ≡ Most.words → most ≤ length other
    → lent_inputs mosts text turns program state (ltb (length other) most) ≡ inputs mosts text turns false
unfolding lent_inputs short_table
none_short text turns program state other most program-long state-long other-long =
    rw (le-ltb (length program) Most.words (omega arith), le-ltb (length state) Most.words (omega arith), le-ltb (length other) most other-long) refl

pub the_report : (text turns : List ℕ) {program state list program₁ state₁ list₁ : List ℕ} {t : ℕ} {r : Result ℕ Refusal}
    → Reached (reach_call mosts text turns program state list) turns t program state list r program₁ state₁ list₁
    → length program ≡ Most.words → length state ≡ Most.words → length list ≡ Most.reach_list → Reports (reach_report mosts turns t (inputs mosts text turns false)) list r list₁
unfolding reach_call
the_report text turns {program} {state} {list} told program-long state-long list-long =
    rw (none_short text turns program state list Most.reach_list program-long state-long (omega arith)) at told.report

-- ---- What is told of it

record IsReached (x : Report) (n : ℕ) : Type 0 where
  objects : List ℕ
  is : x ≡ reached objects
  many : n ≡ length objects

reached_report : (x : Report) {r : Result ℕ Refusal} {n : ℕ} → Answers x r → r ≡ Ok n → IsReached x n
reached_report (unreported i j) told e = let both = sym told.is ∙ e in impossible cc
reached_report (reached objects) told e = record { objects = objects; is = refl; many = let both = sym e ∙ told in cc }

refused_report : (x : Report) {r : Result ℕ Refusal} {e : Refusal} → Answers x r → r ≡ Err e → reported x ≡ answer_line (refused (number e.fault) e.line)
refused_report (unreported i j) {e = e} told is =
    let both = sym told.is ∙ is in
    let same : told.refusal ≡ e = cc in
    rw (← told.number_is, ← told.line_is, same)
refused_report (reached objects) told is = let both = sym told ∙ is in impossible cc

-- a report has no more objects than a run makes
few_on : (P : Program) (S : State) (t : ℕ) (b : Bool) → length S.objects ≤ mosts.objects → (objects : List ℕ) → report_on P S t b ≡ reached objects → length objects ≤ Most.reach_list
few_on P S t true few objects e =
    let same : reach_list S.objects (roots P S t) ≡ objects = cc in
    omega (arith, reach_few S.objects (roots P S t), ap length same)
few_on P S t false few objects e = impossible cc

few_of : (text turns : List ℕ) (t : ℕ) (C : Reading) → inputs mosts text turns false ≡ C → (objects : List ℕ) → reach_report mosts turns t C ≡ reached objects
    → length objects ≤ Most.reach_list
unfolding inputs long_turns
few_of text turns t (turned_away k n) is objects e = impossible cc
few_of text turns t (accepted P) is objects e =
    let so = reading_accepted mosts _ _ text P is in
    let valid = accepted_valid mosts text P so.2 in
    let fits = fits_run P turns valid (ltb-false Most.turns (length turns) (or_false (long_text text) _ so.0).1) in
    few_on P (run mosts P turns).state t (ltb t (length (run mosts P turns).state.threads)) fits.few_objects objects e

module _ (text turns : List ℕ) (t : ℕ) {list list₁ : List ℕ} {r : Result ℕ Refusal} (told : Reports (reach_report mosts turns t (inputs mosts text turns false)) list r list₁) where
  pub refusal_told : {e : Refusal} {output : List ℕ} → r ≡ Err e → Tells (report_text text turns t) output (Err e) output
  unfolding report_text
  refusal_told is = (refused_report (reach_report mosts turns t (inputs mosts text turns false)) told.answers is, refl)

  reached_is : {n : ℕ} → r ≡ Ok n → IsReached (reach_report mosts turns t (inputs mosts text turns false)) n
  reached_is is = reached_report (reach_report mosts turns t (inputs mosts text turns false)) told.answers is

  pub few_reached : {n : ℕ} → r ≡ Ok n → n ≤ Most.reach_list
  few_reached is =
      let of = reached_is is in
      omega (arith, of.many, few_of text turns t (inputs mosts text turns false) refl of.objects of.is)

  -- the first of the list are the objects
  objects_printed : {n : ℕ} → r ≡ Ok n → reached_line (take n list₁) ≡ report_text text turns t
  unfolding report_text
  objects_printed {n} is =
      let of = reached_is is in
      let objects : List ℕ = of.objects in
      let few : length objects ≤ Most.reach_list = omega (arith, of.many, few_reached is) in
      let rest : List ℕ = drop Most.reach_list list in
      let after : list₁ ≡ list_words objects ++ rest = told.leaves ∙ ap (λ (x : Report). list_after x list) of.is in
      let front : take n list₁ ≡ objects =
      ap (take n) (after ∙ ap (λ (l : List ℕ). l ++ rest) (pad_front Most.reach_list 0 objects few) ∙ append_assoc objects _ rest) ∙ take_at objects _ n (sym of.many) in
      ap reached_line front ∙ sym (ap reported of.is)

  pub objects_told : {n k m : ℕ} {output left : List ℕ} → r ≡ Ok n → Wrote k output left 0 m (reached_line (take n list₁)) → Tells (report_text text turns t) output (Ok m) left
  objects_told is w = rw (← objects_printed is) (let front = front_is w in (front.1, front.0))

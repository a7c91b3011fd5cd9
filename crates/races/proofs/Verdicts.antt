-- The verdict, turn by turn: the first turn that races with one before it decides it, and where none does there is no race.
use Rattle.std.proofs.Common.{ℕ, zero, suc, ◌≤◌, ◌<◌, zero-le, arith, ◌≡◌, refl, sym, ap, ◌∙◌, List, eqb, leb, length, eqb-true, leb-true, leb-false}
use borrow.Author.Tests.{eqb-false}
use Rattle.rules.specs.declared.Event.TheVariants.{Quiet}
use Rattle.rules.specs.Mosts.{mosts}
use Rattle.rules.specs.Lists.{last_below}
use Rattle.rules.specs.Script.{Program}
use Rattle.rules.specs.Races.{event_at, races, Verdict, norace, race, named, verdict_of, verdict}
use Rattle.rules.proofs.ListLaws.{impossible, by_bool}
use Rattle.races.proofs.Noted.{quiet_no_race}

module _ (P : Program) (ts : List ℕ) where
  -- once found, it stays
  stays : (i j n f k d : ℕ) → k ≤ d → verdict_of mosts P ts k ≡ race i j n f → verdict_of mosts P ts d ≡ race i j n f
  unfolding verdict_of
  stays i j n f k zero low is = let same : 0 ≡ k = omega arith in ap (verdict_of mosts P ts) same ∙ is
  stays i j n f k (suc d) low is = by_bool (eqb k (suc d))
      (λ e. ap (verdict_of mosts P ts) (sym (eqb-true k (suc d) e)) ∙ is)
      (λ e. let other = eqb-false k (suc d) e in rw (stays i j n f k d (omega arith) is))

  -- turn k is the first that races with one before it
  pub verdict_found : (i k n f : ℕ) → k < length ts → verdict_of mosts P ts k ≡ norace
      → named mosts P ts k (last_below k (λ j. races mosts P ts j k)) ≡ race i k n f → verdict mosts P ts ≡ race i k n f
  unfolding verdict verdict_of
  verdict_found i k n f low before is = stays i k n f (suc k) (length ts) low (rw before is)

  pub verdict_goes_on : (k : ℕ) → verdict_of mosts P ts k ≡ norace → last_below k (λ i. races mosts P ts i k) ≡ 0 → verdict_of mosts P ts (suc k) ≡ norace
  unfolding verdict_of
  verdict_goes_on k before none = rw (before, none)

  none_before : (j k : ℕ) → j ≤ k → verdict_of mosts P ts k ≡ norace → verdict_of mosts P ts j ≡ norace
  none_before j k low none = go (verdict_of mosts P ts j) refl
    where
      go : (v : Verdict) → verdict_of mosts P ts j ≡ v → verdict_of mosts P ts j ≡ norace
      go norace is = is
      go (race a b n f) is = impossible (let later = stays a b n f j k low is in cc)

  -- from turn k on, nothing is done
  module _ (k : ℕ) (none : verdict_of mosts P ts k ≡ norace) (quiet : (j : ℕ) → k ≤ j → event_at mosts P ts j ≡ Quiet) where
    none_at : (j : ℕ) → verdict_of mosts P ts j ≡ norace
    none_at zero = none_before 0 k zero-le none
    none_at (suc j) = by_bool (leb k j)
        (λ e. verdict_goes_on j (none_at j) (quiet_no_race P ts j (quiet j (leb-true k j e))))
        (λ e. none_before (suc j) k (leb-false k j e) none)

    pub verdict_halts : verdict mosts P ts ≡ norace
    unfolding verdict
    verdict_halts = none_at (length ts)

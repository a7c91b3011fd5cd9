-- Lists that rise: the numbers below n of which f holds are one, and two lists that rise and hold the same numbers are equal.
use Prim.Native.Nat.{ℕ, zero, suc, ◌≤◌, ◌<◌, zero-le}
use native.Mathlib.Nat.{add-zero, zero-add, le_refl}
use native.Mathlib.Omega.{arith}
use mathlib.Core.Path.{◌≡◌, refl, sym, ap, ◌∙◌}
use mathlib.Core.Bool.{Bool, true, false, cond}
use mathlib.Core.List.{List, [], ◌∷◌, ◌++◌, append-nil}
use mathlib.Core.Logic.{◌↔◌}
use lib.Dec.{eqb, ltb}
use borrow.Author.Tests.{eqb-true, eqb-false, eq-eqb, ne_eqb, ltb-true, ltb-false, lt-ltb, le-ltb}
use Rattle.rules.specs.Lists.{rising}
use Rattle.rules.specs.Reach.{times, RisingFrom}
use Rattle.rules.proofs.ListLaws.{by_bool}
use Rattle.rules.proofs.Counts.{times_append}

-- ---- How often a number stands among them

times_self : (k : ℕ) (b : Bool) → times k (cond b (k ∷ []) []) ≡ cond b 1 0
unfolding times
times_self k true = rw (eq-eqb k k refl) refl
times_self k false = refl

times_other : (x k : ℕ) (b : Bool) → (k ≡ x → ⊥) → times x (cond b (k ∷ []) []) ≡ 0
unfolding times
times_other x k true other = rw (ne_eqb k x other) refl
times_other x k false other = refl

below_suc_other : (x k : ℕ) → (k ≡ x → ⊥) → ltb x (suc k) ≡ ltb x k
below_suc_other x k other =
    by_bool (ltb x k) (λ t. let h = ltb-true x k t in lt-ltb x (suc k) (omega arith) ∙ sym t)
    (λ t. let h = ltb-false x k t in le-ltb x (suc k) (omega arith) ∙ sym t)

module _ (f : ℕ → Bool) where
  times_rising : (n x : ℕ) → times x (rising n f) ≡ cond (ltb x n) (cond (f x) 1 0) 0
  unfolding rising times
  times_rising zero x = rw (le-ltb x 0 zero-le) refl
  times_rising (suc n) x =
      times_append x (rising n f) (cond (f n) (n ∷ []) []) ∙ by_bool (eqb n x)
      (λ t. rw (← eqb-true n x t, times_rising n n, le-ltb n n (le_refl n), lt-ltb n (suc n) (le_refl (suc n)), times_self n (f n)) (zero-add _))
      (λ t.
      let other = eqb-false n x t in
      rw (times_other x n (f n) other, times_rising n x, below_suc_other x n other) (add-zero _))

  -- they are those below n of which f holds
  pub rising_has : (n x : ℕ) → x < n → f x ≡ true → 1 ≤ times x (rising n f)
  rising_has n x low holds = rw (times_rising n x, lt-ltb x n low, holds) (omega arith)

  pub rising_holds : (n x : ℕ) → 1 ≤ times x (rising n f) → (x < n) × (f x ≡ true)
  rising_holds n x h =
      by_bool (ltb x n)
      (λ t. (ltb-true x n t, by_bool (f x) (λ u. u) (λ u. absurd (few (times_rising n x ∙ (rw (t, u) refl))))))
      (λ t. absurd (few (times_rising n x ∙ (rw t refl))))
    where
      few : times x (rising n f) ≡ 0 → ⊥
      few e = omega (arith, e)

-- ---- They rise

rises_more : (m n : ℕ) (xs : List ℕ) → RisingFrom m xs → ((x : ℕ) → 1 ≤ times x xs → x < n) → m ≤ n → RisingFrom m (xs ++ (n ∷ []))
unfolding times
rises_more m n [] r below h = (h, tt)
rises_more m n (x ∷ xs) r below h =
    (r.0, rises_more (suc x) n xs r.1 (λ y k. below y (omega arith)) (below x (rw (eq-eqb x x refl) (omega arith))))

pub rising_rises : (n : ℕ) (f : ℕ → Bool) → RisingFrom 0 (rising n f)
unfolding rising
rising_rises zero f = tt
rising_rises (suc n) f =
    by_bool (f n) (λ t. rw t (rises_more 0 n (rising n f) (rising_rises n f) (λ x h. (rising_holds f n x h).0) zero-le))
    (λ t. rw (t, append-nil (rising n f)) (rising_rises n f))

-- ---- Two lists that rise and hold the same numbers are equal

rises_above : (n : ℕ) (xs : List ℕ) → RisingFrom n xs → (x : ℕ) → 1 ≤ times x xs → n ≤ x
unfolding times
rises_above n [] r x h = absurd (omega arith)
rises_above n (y ∷ ys) r x h =
    by_bool (eqb y x) (λ t. rw (← eqb-true y x t) r.0) (λ t. let k = rw t at h in omega (arith, r.0, rises_above (suc y) ys r.1 x (omega arith)))

pub rising_one : (n : ℕ) (xs ys : List ℕ) → RisingFrom n xs → RisingFrom n ys → ((x : ℕ) → (1 ≤ times x xs) ↔ (1 ≤ times x ys)) → xs ≡ ys
unfolding times
rising_one n [] [] a b same = refl
rising_one n [] (y ∷ ys) a b same = absurd (omega (arith, (same y).1 (rw (eq-eqb y y refl) (omega arith))))
rising_one n (x ∷ xs) [] a b same = absurd (omega (arith, (same x).0 (rw (eq-eqb x x refl) (omega arith))))
rising_one n (x ∷ xs) (y ∷ ys) a b same =
    let first : x ≡ y = omega (
      arith,
      rises_above y (y ∷ ys) (le_refl y, b.1) x ((same x).0 (rw (eq-eqb x x refl) (omega arith))),
      rises_above x (x ∷ xs) (le_refl x, a.1) y ((same y).1 (rw (eq-eqb y y refl) (omega arith))),
    ) in
    ap (λ z. z ∷ xs) first ∙ ap (λ (zs : List ℕ). y ∷ zs) (rising_one (suc y) xs ys (rw first at a.1) b.1 (λ z. (there first z, back first z)))
  where
    there : x ≡ y → (z : ℕ) → 1 ≤ times z xs → 1 ≤ times z ys
    there e z h =
        let above = rises_above (suc x) xs a.1 z h in
        let on = (same z).0 (omega arith) in
        let tail = rw (ne_eqb y z (λ k. omega arith)) at on in
        omega arith

    back : x ≡ y → (z : ℕ) → 1 ≤ times z ys → 1 ≤ times z xs
    back e z h =
        let above = rises_above (suc y) ys b.1 z h in
        let on = (same z).1 (omega arith) in
        let tail = rw (ne_eqb x z (λ k. omega arith)) at on in
        omega arith

-- The last place with a property, one more than it, or 0: that place has it and none after it does, so there is one such number.
use Rattle.std.proofs.Common.{ℕ, zero, suc, ◌≤◌, ◌<◌, zero-le, le_refl, le_trans, le_antisymm, not-suc-le-zero, arith, ◌≡◌, refl, Bool, true, false, ◌&&◌, ◌||◌, ◌⊎◌, inl, inr, ltb, eqb, eqb-true, ltb-true, ltb-false}
use mathlib.Core.Bool.{false≢true}
use borrow.Author.Tests.{eqb-false}
use Rattle.rules.specs.Lists.{any_below, first_below, last_below}
use Rattle.rules.proofs.ListLaws.{impossible, by_bool}
use Rattle.races.specs.Marks.{most}

-- ---- Tests

pub or_left : (a b : Bool) → a ≡ true → (a || b) ≡ true
or_left a b h = rw h

pub or_right : (a b : Bool) → b ≡ true → (a || b) ≡ true
or_right true b h = refl
or_right false b h = h

pub and_both : (a b : Bool) → a ≡ true → b ≡ true → (a && b) ≡ true
and_both a b h k = rw (h, k)

-- ---- Whether some place below n passes a test

pub any_there : (n : ℕ) (f : ℕ → Bool) (i : ℕ) → i < n → f i ≡ true → any_below n f ≡ true
unfolding any_below
any_there zero f i low holds = absurd (not-suc-le-zero low)
any_there (suc n) f i low holds = by_bool (eqb i n)
    (λ t. or_right (any_below n f) (f n) (rw (← eqb-true i n t) holds))
    (λ t. let other = eqb-false i n t in or_left (any_below n f) (f n) (any_there n f i (omega arith) holds))

pub record Some (n : ℕ) (f : ℕ → Bool) : Type 0 where
  pub place : ℕ
  pub low : place < n
  pub holds : f place ≡ true

pub any_some : (n : ℕ) (f : ℕ → Bool) → any_below n f ≡ true → Some n f
unfolding any_below
any_some zero f h = absurd (false≢true h)
any_some (suc n) f h = by_bool (any_below n f)
    (λ t. let s = any_some n f t in let low = s.low in record { place = s.place; low = omega arith; holds = s.holds })
    (λ t. record { place = n; low = le_refl (suc n); holds = rw t at h })

-- where one place alone passes it, that is the first
pub first_is : (n : ℕ) (f : ℕ → Bool) (i : ℕ) → i < n → f i ≡ true → ((j : ℕ) → j < n → f j ≡ true → j ≡ i) → first_below n f ≡ i
unfolding first_below
first_is zero f i low holds alone = absurd (not-suc-le-zero low)
first_is (suc n) f i low holds alone = by_bool (any_below n f)
    (λ t.
    let s = any_some n f t in
    let below = s.low in
    let same = alone s.place (omega arith) s.holds in
    rw t (first_is n f i (omega arith) holds (λ j h. alone j (omega arith))))
    (λ t. rw t (by_bool (f n)
    (λ u. rw u (alone n (le_refl (suc n)) u))
    (λ u. by_bool (eqb i n)
    (λ v. impossible (let e = eqb-true i n v in cc))
    (λ v. let other = eqb-false i n v in impossible (let e = any_there n f i (omega arith) holds in cc)))))

-- ---- One more than the last place below k that has a property, or 0

pub record LastIs (k : ℕ) (Q : ℕ → Type 0) (r : ℕ) : Type 0 where
  pub some : (i : ℕ) → r ≡ suc i → (i < k) × Q i
  pub bound : (i : ℕ) → i < k → Q i → suc i ≤ r

-- where one property gives another
last_upto : {k : ℕ} {Q R : ℕ → Type 0} (r s : ℕ) → LastIs k Q r → LastIs k R s → ((i : ℕ) → i < k → Q i → R i) → r ≤ s
last_upto zero s p q h = zero-le
last_upto (suc i) s p q h = let e = p.some i refl in q.bound i e.0 (h i e.0 e.1)

pub last_same : {k : ℕ} {Q : ℕ → Type 0} {r s : ℕ} → LastIs k Q r → LastIs k Q s → r ≡ s
last_same {r = r} {s = s} p q = le_antisymm (last_upto r s p q (λ i low h. h)) (last_upto s r q p (λ i low h. h))

pub last_agrees : {k : ℕ} {Q R : ℕ → Type 0} {r : ℕ} → LastIs k Q r → ((i : ℕ) → i < k → Q i → R i) → ((i : ℕ) → i < k → R i → Q i) → LastIs k R r
last_agrees p to from = record {
  some = λ i e. let h = p.some i e in (h.0, to i h.0 h.1);
  bound = λ i low h. p.bound i low (from i low h);
}

pub last_none : {k : ℕ} {Q : ℕ → Type 0} → ((i : ℕ) → i < k → Q i → ⊥) → LastIs k Q 0
last_none never = record { some = λ i e. impossible cc; bound = λ i low h. absurd (never i low h) }

pub last_most : {k : ℕ} {Q R : ℕ → Type 0} {r s : ℕ} → LastIs k Q r → LastIs k R s → LastIs k (λ i. Q i ⊎ R i) (most r s)
last_most {k} {Q} {R} {r} {s} p q = by_bool (ltb r s)
    (λ t. rw t (record { some = λ i e. let h = q.some i e in (h.0, inr h.1); bound = λ i low h. let m = ltb-true r s t in upto i low h s (omega arith) (le_refl s) }))
    (λ t. rw t (record { some = λ i e. let h = p.some i e in (h.0, inl h.1); bound = λ i low h. upto i low h r (le_refl r) (ltb-false r s t) }))
  where
    upto : (i : ℕ) → i < k → Q i ⊎ R i → (m : ℕ) → r ≤ m → s ≤ m → suc i ≤ m
    upto i low (inl h) m a b = le_trans (p.bound i low h) a
    upto i low (inr h) m a b = le_trans (q.bound i low h) b

module _ (f : ℕ → Bool) where
  pub last_below_lem : (k : ℕ) → LastIs k (λ i. f i ≡ true) (last_below k f)
  unfolding last_below
  last_below_lem zero = last_none (λ i low h. not-suc-le-zero low)
  last_below_lem (suc k) = by_bool (f k)
      (λ t. rw t (record {
        some = λ i e. let same : k ≡ i = omega arith in (omega arith, rw (← same) t);
        bound = λ i low h. low;
      }))
      (λ t. rw t (record {
        some = λ i e. let h = (last_below_lem k).some i e in let low = h.0 in (omega arith, h.1);
        bound = λ i low h. by_bool (eqb i k)
            (λ u. impossible (let e = eqb-true i k u in cc))
            (λ u. let other = eqb-false i k u in (last_below_lem k).bound i (omega arith) h);
      }))

-- What a walk meets, by place: it meets each object once, so each has a place of its own, and the first value's object the first.
use Prim.Native.Nat.{ℕ, zero, suc, ◌≤◌, ◌<◌}
use native.Mathlib.Omega.{arith}
use mathlib.Core.Path.{◌≡◌, refl, sym, ap, ◌∙◌}
use mathlib.Core.List.{List, [], ◌∷◌, ◌++◌}
use lib.Dec.{eqb}
use lib.ListN.{length, get_or}
use borrow.Author.Tests.{eqb-true, eq-eqb}
use Rattle.rules.specs.declared.Value.{Value}
use Rattle.rules.specs.declared.Value.TheVariants.{Obj}
use Rattle.rules.specs.Lists.{place_of, Every}
use Rattle.rules.specs.State.{Object}
use Rattle.rules.specs.Reach.{count_one, times, Walked, done, skip, meet}
use Rattle.rules.proofs.ListLaws.{by_bool}
use Rattle.rules.proofs.Counts.{object_self, times_snoc, eqb_sym, in_rest}

-- ---- The place of a number

-- what holds of each number of the list holds of one that is in it
pub time_of_every : (Q : ℕ → Type 0) (xs : List ℕ) → Every Q xs → (x : ℕ) → 1 ≤ times x xs → Q x
unfolding times
time_of_every Q [] q x h = absurd (omega arith)
time_of_every Q (y ∷ xs) q x h =
    by_bool (eqb y x) (λ e. rw (← eqb-true y x e) q.0) (λ e. time_of_every Q xs q.1 x (in_rest x y xs (rw (eqb_sym x y) e) h))

-- at its place it is
pub get_place : (x : ℕ) (xs : List ℕ) (d : ℕ) → 1 ≤ times x xs → get_or xs (place_of x xs) d ≡ x
unfolding times place_of
get_place x [] d h = absurd (omega arith)
get_place x (y ∷ xs) d h =
    by_bool (eqb x y) (λ e. rw e (sym (eqb-true x y e)))
    (λ e. rw e (get_place x xs d (in_rest x y xs e h)))

-- numbers in the list that have one place are one number
pub place_tells : (x y : ℕ) (xs : List ℕ) → 1 ≤ times x xs → 1 ≤ times y xs → place_of x xs ≡ place_of y xs → x ≡ y
place_tells x y xs hx hy e = sym (get_place x xs 0 hx) ∙ ap (λ i. get_or xs i 0) e ∙ get_place y xs 0 hy

-- what is at a place is in the list
pub times_get : (xs : List ℕ) (i d : ℕ) → i < length xs → 1 ≤ times (get_or xs i d) xs
unfolding times
times_get [] i d h = absurd (omega arith)
times_get (x ∷ xs) zero d h = omega (arith, object_self x)
times_get (x ∷ xs) (suc i) d h = omega (arith, times_get xs i d (omega arith))

-- and where each number is there once, that is its place
pub place_get : (xs : List ℕ) (i d : ℕ) → ((x : ℕ) → times x xs ≤ 1) → i < length xs → place_of (get_or xs i d) xs ≡ i
unfolding times place_of
place_get [] i d once h = absurd (omega arith)
place_get (x ∷ xs) zero d once h = rw (eq-eqb x x refl)
place_get (x ∷ xs) (suc i) d once h =
    by_bool (eqb (get_or xs i d) x)
    (λ e. absurd (omega (arith, object_self x, once x, rw (eqb-true (get_or xs i d) x e) at (times_get xs i d (omega arith)))))
    (λ e. rw e (ap suc (place_get xs i d (λ y. omega (arith, once y)) (omega arith))))

-- ---- A walk

module _ (os : List Object) where
  -- each object is met once
  pub walked_once : {met out : List ℕ} {vs : List Value} → Walked os met vs out → ((x : ℕ) → times x met ≤ 1) → (x : ℕ) → times x out ≤ 1
  walked_once done once x = once x
  walked_once (skip k w) once x = walked_once w once x
  walked_once (meet {met = met} {n = n} k w) once x = walked_once w again x
    where
      again : (y : ℕ) → times y (met ++ (n ∷ [])) ≤ 1
      again y = by_bool (eqb n y)
          (λ e. rw (← eqb-true n y e) (omega (arith, times_snoc n met n, object_self n)))
          (λ e. let other : count_one y (Obj n) ≡ 0 = rw e in omega (arith, times_snoc y met n, once y))

  -- what is met first stays in its place, so a walk begins with the first value's object
  stays_first : {n : ℕ} {met out : List ℕ} {vs : List Value} → Walked os (n ∷ met) vs out → place_of n out ≡ 0
  unfolding place_of
  stays_first {n} done = rw (eq-eqb n n refl)
  stays_first (skip k w) = stays_first w
  stays_first (meet k w) = stays_first w

  pub walked_first : {n : ℕ} {out : List ℕ} {vs : List Value} → Walked os [] (Obj n ∷ vs) out → place_of n out ≡ 0
  unfolding times
  walked_first {n} (skip k w) = absurd (omega (arith, k n, object_self n))
  walked_first (meet k w) = stays_first w

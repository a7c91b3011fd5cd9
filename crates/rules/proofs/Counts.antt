-- `count` and `times` as sums: an object or a number is in a list where it counts at least once, and then it has a place there.
use Prim.Native.Nat.{ℕ, zero, suc, ◌+◌, ◌≤◌, ◌<◌}
use native.Mathlib.Omega.{arith}
use mathlib.Core.Path.{◌≡◌, refl, sym, ◌∙◌}
use mathlib.Core.Bool.{Bool, true, false, cond, true≢false}
use mathlib.Core.List.{List, [], ◌∷◌, ◌++◌}
use mathlib.Core.Logic.{◌⊎◌, inl, inr}
use lib.Dec.{T, eqb, eqb→eq, eqb_refl, eqb-zero-suc, eqb-suc-zero, eqb-suc-suc}
use lib.ListN.{length}
use Rattle.rules.specs.declared.Value.{Value}
use Rattle.rules.specs.declared.Value.TheVariants.{Absent, Obj, Chan}
use Rattle.rules.specs.Lists.{among, place_of, Every}
use Rattle.rules.specs.Reach.{count_one, count, times}
use Rattle.rules.specs.Fits.{InRange}
use Rattle.rules.proofs.ListLaws.{by_bool}

pub sum_cases : (a b : ℕ) → 1 ≤ a + b → (1 ≤ a) ⊎ (1 ≤ b)
sum_cases zero b h = inr (omega arith)
sum_cases (suc a) b h = inl (omega arith)

-- ---- one value

pub object_self : (n : ℕ) → count_one n (Obj n) ≡ 1
object_self n = go (eqb n n) (eqb_refl n)
  where
    go : (b : Bool) → T b → cond {A = ℕ} b 1 0 ≡ 1
    go true t = refl
    go false t = absurd t

pub object_equal : (x n : ℕ) → 1 ≤ count_one x (Obj n) → n ≡ x
object_equal x n = go (eqb n x) (eqb→eq n x)
  where
    go : (b : Bool) → (T b → n ≡ x) → 1 ≤ cond {A = ℕ} b 1 0 → n ≡ x
    go true e h = e tt
    go false e h = absurd (omega arith)

-- an object that is met
pub object_met : (x n : ℕ) (xs : List ℕ) → 1 ≤ times n xs → count_one x (Obj n) ≤ times x xs
object_met x n xs h = by_bool (eqb n x) (λ e. rw (e, ← eqb→eq n x (rw e tt)) h) (λ e. rw e (omega arith))

object_range : (o c x : ℕ) (v : Value) → InRange o c v → 1 ≤ count_one x v → x < o
object_range o c x Absent r h = absurd (omega arith)
object_range o c x (Obj n) r h = let e = object_equal x n h in omega arith
object_range o c x (Chan k) r h = absurd (omega arith)

-- ---- lists of values and of numbers

pub count_append : (n : ℕ) (us vs : List Value) → count n (us ++ vs) ≡ count n us + count n vs
unfolding count
count_append n [] vs = omega arith
count_append n (u ∷ us) vs = omega (arith, count_append n us vs)

pub times_append : (n : ℕ) (xs ys : List ℕ) → times n (xs ++ ys) ≡ times n xs + times n ys
unfolding times
times_append n [] ys = omega arith
times_append n (x ∷ xs) ys = omega (arith, times_append n xs ys)

pub times_snoc : (n : ℕ) (xs : List ℕ) (x : ℕ) → times n (xs ++ (x ∷ [])) ≡ times n xs + count_one n (Obj x)
unfolding times
times_snoc n xs x = omega (arith, times_append n xs (x ∷ []))

-- only what is in range is among values that are in range
pub count_range : (o c x : ℕ) (vs : List Value) → Every (InRange o c) vs → 1 ≤ count x vs → x < o
unfolding count
count_range o c x [] e h = absurd (omega arith)
count_range o c x (v ∷ vs) e h = go (sum_cases (count_one x v) (count x vs) h) (count_range o c x vs e.1)
  where
    go : (1 ≤ count_one x v) ⊎ (1 ≤ count x vs) → (1 ≤ count x vs → x < o) → x < o
    go (inl a) k = object_range o c x v e.0 a
    go (inr a) k = k a

-- ---- the test of `among` asks for the count

pub eqb_sym : (m n : ℕ) → eqb m n ≡ eqb n m
eqb_sym zero zero = refl
eqb_sym zero (suc n) = eqb-zero-suc n ∙ sym (eqb-suc-zero n)
eqb_sym (suc m) zero = eqb-suc-zero m ∙ sym (eqb-zero-suc m)
eqb_sym (suc m) (suc n) = eqb-suc-suc m n ∙ eqb_sym m n ∙ sym (eqb-suc-suc n m)

pub times_among : (n : ℕ) (xs : List ℕ) → among n xs ≡ true → 1 ≤ times n xs
unfolding times
times_among n [] h = absurd (true≢false (sym h))
times_among n (x ∷ xs) h =
    by_bool (eqb x n) (λ e. rw e (omega arith))
    (λ e. let k : among n xs ≡ true = rw (eqb_sym n x, e) at h in omega (arith, times_among n xs k))

pub times_not_among : (n : ℕ) (xs : List ℕ) → among n xs ≡ false → times n xs ≡ 0
unfolding times
times_not_among n [] h = refl
times_not_among n (x ∷ xs) h =
    by_bool (eqb x n) (λ e. absurd (true≢false (rw (eqb_sym n x, e) at h)))
    (λ e. rw e (omega (arith, times_not_among n xs (rw (eqb_sym n x, e) at h))))

pub among_times : (n : ℕ) (xs : List ℕ) → 1 ≤ times n xs → among n xs ≡ true
among_times n xs h = by_bool (among n xs) (λ e. e) (λ e. absurd (omega (arith, times_not_among n xs e)))

-- what holds of each number in the list
pub every_time : (Q : ℕ → Type 0) (xs : List ℕ) → ((x : ℕ) → 1 ≤ times x xs → Q x) → Every Q xs
unfolding times
every_time Q [] q = tt
every_time Q (x ∷ xs) q = (q x (omega (arith, object_self x)), every_time Q xs (λ y h. q y (omega arith)))

-- past a number that it is not
pub in_rest : (x y : ℕ) (xs : List ℕ) → eqb x y ≡ false → 1 ≤ times x (y ∷ xs) → 1 ≤ times x xs
unfolding times
in_rest x y xs other h = let none : cond {A = ℕ} (eqb y x) 1 0 ≡ 0 = rw (eqb_sym y x, other) in omega arith

-- ---- the place of a number

-- it is in the list at its place
pub place_there : (x : ℕ) (xs : List ℕ) → 1 ≤ times x xs → place_of x xs < length xs
unfolding times place_of
place_there x [] h = absurd (omega arith)
place_there x (y ∷ xs) h =
    by_bool (eqb x y) (λ e. rw e (omega arith))
    (λ e. rw e (omega (arith, place_there x xs (in_rest x y xs e h))))

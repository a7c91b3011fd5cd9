-- Small functions on lists that the definitions share.
use Rattle.std.specs.Prelude.{ℕ, zero, suc, Bool, true, false, ◌&&◌, ◌||◌, cond, List, [], ◌∷◌, ◌++◌, eqb, take, replicate}

abbrev pub among : ℕ → List ℕ → Bool
among c [] = false
among c (x ∷ xs) = eqb c x || among c xs

unfoldable pub any : {A : Type 0} → (A → Bool) → List A → Bool
any f [] = false
any f (x ∷ xs) = f x || any f xs

unfoldable pub all : {A : Type 0} → (A → Bool) → List A → Bool
all f [] = true
all f (x ∷ xs) = f x && all f xs

-- the place of a number in a list, or the list's length where it is not there
unfoldable pub place_of : ℕ → List ℕ → ℕ
place_of c [] = 0
place_of c (x ∷ xs) = cond (eqb c x) 0 (suc (place_of c xs))

-- the numbers below n of which f holds, in rising order
unfoldable pub rising : ℕ → (ℕ → Bool) → List ℕ
rising zero f = []
rising (suc n) f = rising n f ++ cond (f n) (n ∷ []) []

-- whether f holds of a number below n; the first such number, or n where there is none; one more than the last such, or 0 where there is none
unfoldable pub any_below : ℕ → (ℕ → Bool) → Bool
any_below zero f = false
any_below (suc n) f = any_below n f || f n

unfoldable pub first_below : ℕ → (ℕ → Bool) → ℕ
first_below zero f = 0
first_below (suc n) f = cond (any_below n f) (first_below n f) (cond (f n) n (suc n))

unfoldable pub last_below : ℕ → (ℕ → Bool) → ℕ
last_below zero f = 0
last_below (suc n) f = cond (f n) (suc n) (last_below n f)

-- exactly n: made up by d, or cut
unfoldable pub pad : {A : Type 0} → ℕ → A → List A → List A
pad n d xs = take n (xs ++ replicate n d)

-- records one after the other
unfoldable pub cells : {A : Type 0} → (A → List ℕ) → List A → List ℕ
cells f [] = []
cells f (x ∷ xs) = f x ++ cells f xs

-- each of the list has the property
abbrev pub Every : {A : Type 0} → (A → Type 0) → List A → Type 0
Every Q [] = Unit {0}
Every Q (x ∷ xs) = Q x × Every Q xs

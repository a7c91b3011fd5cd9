-- Laws of tests and lists that the proofs share.
use Prim.Native.Nat.{ℕ, zero, suc, ◌+◌, ◌-◌, ◌*◌, ◌≤◌, ◌<◌}
use native.Mathlib.Nat.{le_of_suc-le-suc, not-suc-le-zero, suc-mul, zero-mul, add_comm, add_assoc, zero-add, suc-add}
use native.Mathlib.Omega.{arith}
use mathlib.Core.Path.{◌≡◌, refl, sym, ap, ◌∙◌}
use mathlib.Core.Bool.{Bool, true, false, not, not-not, ◌&&◌, ◌||◌, cond, false≢true}
use mathlib.Core.List.{List, [], ◌∷◌, ◌++◌, map, map-append, append_assoc, append-nil}
use lib.Dec.{ltb, eqb, ltb→lt}
use lib.ListN.{length, get_or, set, take, replicate, length-append, length-take, length-replicate, drop, replicate-append-replicate, get_or-append, get_or-eq_default}
use lib.Seq.{take_at, drop_at, take-append-add, take-append-le, drop-append-add, get_or-append-add, get_or-set_other, get_or-take, set-append_left, set-get_or, set_split, take-set-lt}
use borrow.Author.Tests.{eqb-true, eqb-false}
use Rattle.rules.specs.Lists.{any, all, pad, cells, Every}

-- where two constructors cannot be equal: `impossible cc`
pub impossible : {A : Type 0} → ◌≡◌ {A = ℕ} 0 1 → A
impossible e = absurd (omega arith)

-- ---- Tests

-- a test passes or it fails
pub by_bool : {P : Type 0} (b : Bool) → (b ≡ true → P) → (b ≡ false → P) → P
by_bool true t f = t refl
by_bool false t f = f refl

pub below : {a b : ℕ} → ltb a b ≡ true → a < b
below {a} {b} e = ltb→lt a b (rw e tt)

pub of_not : (b : Bool) {c : Bool} → not b ≡ c → b ≡ not c
of_not b e = sym (not-not b) ∙ ap not e

pub or_false : (a b : Bool) → (a || b) ≡ false → (a ≡ false) × (b ≡ false)
or_false true b h = absurd (false≢true (sym h))
or_false false b h = (refl, h)

pub or_false₃ : (a b c : Bool) → (a || b || c) ≡ false → (a ≡ false) × (b ≡ false) × (c ≡ false)
or_false₃ true b c h = absurd (false≢true (sym h))
or_false₃ false true c h = absurd (false≢true (sym h))
or_false₃ false false c h = (refl, refl, h)

pub and_true : (a b : Bool) → (a && b) ≡ true → (a ≡ true) × (b ≡ true)
and_true true b h = (refl, h)
and_true false b h = absurd (false≢true h)

-- where the answer is z and the first arm is not, the test failed and the second arm is z
pub other_arm : {A : Type 0} (b : Bool) (x y z : A) → (x ≡ z → ⊥) → cond b x y ≡ z → (b ≡ false) × (y ≡ z)
other_arm true x y z n h = absurd (n h)
other_arm false x y z n h = (refl, h)

-- a test of each number below n
unfoldable pub all_below : (ℕ → Bool) → ℕ → Bool
all_below f zero = true
all_below f (suc n) = f n && all_below f n

pub below_true : (f : ℕ → Bool) (n i : ℕ) → all_below f n ≡ true → i < n → f i ≡ true
unfolding all_below
below_true f zero i h i<n = absurd (not-suc-le-zero i<n)
below_true f (suc n) i h i<n = let p = and_true (f n) (all_below f n) h in by_bool (eqb i n)
    (λ t. rw (eqb-true i n t) p.0)
    (λ t. let e = eqb-false i n t in below_true f n i p.1 (omega arith))

-- ---- Every

pub every_map : {A : Type 0} {Q R : A → Type 0} → ((x : A) → Q x → R x) → (l : List A) → Every Q l → Every R l
every_map h [] e = tt
every_map h (x ∷ xs) e = (h x e.0, every_map h xs e.1)

pub every_all : {A : Type 0} (Q : A → Type 0) → ((x : A) → Q x) → (l : List A) → Every Q l
every_all Q h [] = tt
every_all Q h (x ∷ xs) = (h x, every_all Q h xs)

-- at any place, where the default has the property; and at a place that is there
pub every_get : {A : Type 0} (Q : A → Type 0) (l : List A) (i : ℕ) (d : A) → Q d → Every Q l → Q (get_or l i d)
every_get Q [] i d h e = h
every_get Q (x ∷ xs) zero d h e = e.0
every_get Q (x ∷ xs) (suc i) d h e = every_get Q xs i d h e.1

pub every_at : {A : Type 0} (Q : A → Type 0) (l : List A) (i : ℕ) (d : A) → i < length l → Every Q l → Q (get_or l i d)
every_at Q [] i d h e = absurd (not-suc-le-zero h)
every_at Q (x ∷ xs) zero d h e = e.0
every_at Q (x ∷ xs) (suc i) d h e = every_at Q xs i d (le_of_suc-le-suc h) e.1

pub every_set : {A : Type 0} (Q : A → Type 0) (l : List A) (i : ℕ) (a : A) → Q a → Every Q l → Every Q (set l i a)
every_set Q [] i a h e = tt
every_set Q (x ∷ xs) zero a h e = (h, e.1)
every_set Q (x ∷ xs) (suc i) a h e = (e.0, every_set Q xs i a h e.1)

pub every_append : {A : Type 0} (Q : A → Type 0) (l k : List A) → Every Q l → Every Q k → Every Q (l ++ k)
every_append Q [] k e h = h
every_append Q (x ∷ xs) k e h = (e.0, every_append Q xs k e.1 h)

pub every_parts : {A : Type 0} (Q : A → Type 0) (l k : List A) → Every Q (l ++ k) → Every Q l × Every Q k
every_parts Q [] k e = (tt, e)
every_parts Q (x ∷ xs) k e = let r = every_parts Q xs k e.1 in ((e.0, r.0), r.1)

pub every_image : {A B : Type 0} (Q : B → Type 0) (f : A → B) (xs : List A) → Every (λ x. Q (f x)) xs → Every Q (map f xs)
every_image Q f [] e = tt
every_image Q f (x ∷ xs) e = (e.0, every_image Q f xs e.1)

pub every_mapped : {A B : Type 0} (Q : B → Type 0) (f : A → B) (l : List A) → Every Q (map f l) → Every (λ x. Q (f x)) l
every_mapped Q f [] e = tt
every_mapped Q f (x ∷ xs) e = (e.0, every_mapped Q f xs e.1)

pub every_take : {A : Type 0} (Q : A → Type 0) (n : ℕ) (xs : List A) → Every Q xs → Every Q (take n xs)
every_take Q zero xs e = tt
every_take Q (suc n) [] e = tt
every_take Q (suc n) (x ∷ xs) e = (e.0, every_take Q n xs e.1)

pub every_drop : {A : Type 0} (Q : A → Type 0) (n : ℕ) (xs : List A) → Every Q xs → Every Q (drop n xs)
every_drop Q zero xs e = e
every_drop Q (suc n) [] e = tt
every_drop Q (suc n) (x ∷ xs) e = every_drop Q n xs e.1

pub every_replicate : {A : Type 0} (Q : A → Type 0) (n : ℕ) (d : A) → Q d → Every Q (replicate n d)
every_replicate Q zero d h = tt
every_replicate Q (suc n) d h = (h, every_replicate Q n d h)

pub every_snoc : {A : Type 0} (Q : A → Type 0) (l : List A) (a : A) → Q a → Every Q l → Every Q (l ++ (a ∷ []))
every_snoc Q l a h e = every_append Q l (a ∷ []) e (h, tt)

pub length_snoc : {A : Type 0} (l : List A) (a : A) → length (l ++ (a ∷ [])) ≡ length l + 1
length_snoc l a = length-append l (a ∷ [])

-- no element passes the test; each does
pub any_false : {A : Type 0} (f : A → Bool) (l : List A) → any f l ≡ false → Every (λ x. f x ≡ false) l
unfolding any
any_false f [] h = tt
any_false f (x ∷ xs) h = let p = or_false (f x) (any f xs) h in (p.0, any_false f xs p.1)

pub any_none : {A : Type 0} (f : A → Bool) (l : List A) → Every (λ x. f x ≡ false) l → any f l ≡ false
unfolding any
any_none f [] h = refl
any_none f (x ∷ xs) h = rw h.0 (any_none f xs h.1)

pub all_true : {A : Type 0} (f : A → Bool) (l : List A) → all f l ≡ true → Every (λ x. f x ≡ true) l
unfolding all
all_true f [] h = tt
all_true f (x ∷ xs) h = let p = and_true (f x) (all f xs) h in (p.0, all_true f xs p.1)

pub any_snoc : {A : Type 0} (f : A → Bool) (xs : List A) (x : A) → any f (xs ++ (x ∷ [])) ≡ (any f xs || f x)
unfolding any
any_snoc f [] x = by_bool (f x) (λ t. rw t) (λ t. rw t)
any_snoc f (y ∷ xs) x = by_bool (f y) (λ t. rw t) (λ t. rw t (any_snoc f xs x))

pub all_snoc : {A : Type 0} (f : A → Bool) (xs : List A) (x : A) → all f (xs ++ (x ∷ [])) ≡ (all f xs && f x)
unfolding all
all_snoc f [] x = by_bool (f x) (λ t. rw t) (λ t. rw t)
all_snoc f (y ∷ xs) x = by_bool (f y) (λ t. rw t (all_snoc f xs x)) (λ t. rw t)

-- from a place on, where the default passes the test
pub all_from : {A : Type 0} (f : A → Bool) (d : A) → f d ≡ true → (l : List A) (i : ℕ) → all f (drop i l) ≡ (f (get_or l i d) && all f (drop (suc i) l))
unfolding all
all_from f d e [] zero = rw e
all_from f d e [] (suc i) = rw e
all_from f d e (x ∷ l) zero = refl
all_from f d e (x ∷ l) (suc i) = all_from f d e l i

-- where what passes one test passes another
pub all_weaker : {A : Type 0} (f g : A → Bool) → ((x : A) → f x ≡ true → g x ≡ true) → (l : List A) → all f l ≡ true → all g l ≡ true
unfolding all
all_weaker f g h [] e = refl
all_weaker f g h (x ∷ xs) e = let p = and_true (f x) (all f xs) e in rw (h x p.0, all_weaker f g h xs p.1)

pub map_set : {A B : Type 0} (f : A → B) (l : List A) (i : ℕ) (a : A) → map f (set l i a) ≡ set (map f l) i (f a)
map_set f [] i a = refl
map_set f (x ∷ xs) zero a = refl
map_set f (x ∷ xs) (suc i) a = ap (f x ∷◌) (map_set f xs i a)

map_replicate : {A B : Type 0} (f : A → B) (n : ℕ) (d : A) → map f (replicate n d) ≡ replicate n (f d)
map_replicate f zero d = refl
map_replicate f (suc n) d = ap (f d ∷◌) (map_replicate f n d)

map_take : {A B : Type 0} (f : A → B) (n : ℕ) (xs : List A) → map f (take n xs) ≡ take n (map f xs)
map_take f zero xs = refl
map_take f (suc n) [] = refl
map_take f (suc n) (x ∷ xs) = ap (f x ∷◌) (map_take f n xs)

-- ---- pad and cells

pub length_pad : {A : Type 0} (n : ℕ) (d : A) (xs : List A) → length (pad n d xs) ≡ n
unfolding pad
length_pad n d xs = length-take n (xs ++ replicate n d) ∙ omega (arith, length-append xs (replicate n d), length-replicate n d)

pub map_pad : {A B : Type 0} (f : A → B) (n : ℕ) (d : A) (xs : List A) → map f (pad n d xs) ≡ pad n (f d) (map f xs)
unfolding pad
map_pad f n d xs = map_take f n (xs ++ replicate n d) ∙ ap (take n) (map-append f xs (replicate n d) ∙ ap (map f xs ++◌) (map_replicate f n d))

pub length_cells : {A : Type 0} (f : A → List ℕ) (w : ℕ) → ((a : A) → length (f a) ≡ w) → (xs : List A) → length (cells f xs) ≡ length xs * w
unfolding cells
length_cells f w e [] = sym (zero-mul w)
length_cells f w e (x ∷ xs) = length-append (f x) (cells f xs) ∙ rw (e x, length_cells f w e xs, suc-mul) (add_comm w (length xs * w))

pub every_pad : {A : Type 0} (Q : A → Type 0) (n : ℕ) (d : A) (xs : List A) → Q d → Every Q xs → Every Q (pad n d xs)
unfolding pad
every_pad Q n d xs h e = every_take Q n (xs ++ replicate n d) (every_append Q xs (replicate n d) e (every_replicate Q n d h))

pub pad_front : {A : Type 0} (n : ℕ) (d : A) (xs : List A) → length xs ≤ n → pad n d xs ≡ xs ++ take (n - length xs) (replicate n d)
unfolding pad
pad_front n d xs h =
    let e : n ≡ length xs + (n - length xs) = omega arith in
    ap (λ k. take k (xs ++ replicate n d)) e ∙ take-append-add xs (replicate n d) (n - length xs)

-- n records of w words

pub length_records : {A : Type 0} (f : A → List ℕ) (w : ℕ) → ((a : A) → length (f a) ≡ w) → (n : ℕ) (d : A) (xs : List A) → length (cells f (pad n d xs)) ≡ n * w
length_records f w e n d xs = length_cells f w e (pad n d xs) ∙ ap (λ k. k * w) (length_pad n d xs)

-- ---- Reading and writing inside lists

-- what is there does not depend on what stands past the end
pub get_there : {A : Type 0} (l : List A) (i : ℕ) (d e : A) → i < length l → get_or l i d ≡ get_or l i e
get_there [] i d e h = absurd (not-suc-le-zero h)
get_there (x ∷ xs) zero d e h = refl
get_there (x ∷ xs) (suc i) d e h = get_there xs i d e (le_of_suc-le-suc h)

-- past the end there is no more to take
pub take_past : {A : Type 0} (l : List A) (k : ℕ) → length l ≤ k → take (suc k) l ≡ take k l
take_past [] zero h = refl
take_past [] (suc k) h = refl
take_past (x ∷ xs) zero h = absurd (not-suc-le-zero h)
take_past (x ∷ xs) (suc k) h = ap (x ∷◌) (take_past xs k (le_of_suc-le-suc h))

-- a place before one that is written
pub get_before : {A : Type 0} (l : List A) (p q : ℕ) (a d : A) → q < p → get_or (set l p a) q d ≡ get_or l q d
get_before l p q a d h = get_or-set_other l p q a d (λ e. omega arith)

-- a read and a write past a part of known length
pub get_past : {A : Type 0} (p q : List A) (b k : ℕ) (d : A) → length p ≡ b → get_or (p ++ q) (b + k) d ≡ get_or q k d
get_past p q b k d e = rw (← e) (get_or-append-add p q k d)

set_append_add : {A : Type 0} (xs ys : List A) (n : ℕ) (a : A) → set (xs ++ ys) (length xs + n) a ≡ xs ++ set ys n a
set_append_add [] ys n a = rw (zero-add n)
set_append_add (x ∷ xs) ys n a = rw (suc-add (length xs) n) (ap (x ∷◌) (set_append_add xs ys n a))

pub set_past : {A : Type 0} (p q : List A) (b k : ℕ) (a : A) → length p ≡ b → set (p ++ q) (b + k) a ≡ p ++ set q k a
set_past p q b k a e = rw (← e) (set_append_add p q k a)

-- word j of record i
pub get_cell : {A : Type 0} (f : A → List ℕ) (w : ℕ) → ((a : A) → length (f a) ≡ w) → (xs : List A) (d : A) (i j : ℕ)
    → i < length xs → j < w → get_or (cells f xs) (i * w + j) 0 ≡ get_or (f (get_or xs i d)) j 0
unfolding cells
get_cell f w e [] d i j hi hj = absurd (not-suc-le-zero hi)
get_cell f w e (x ∷ xs) d zero j hi hj = rw (zero-mul w, zero-add j) (get_or-append (f x) (cells f xs) 0 j (rw (e x) hj))
get_cell f w e (x ∷ xs) d (suc i) j hi hj =
    rw (suc-mul i w, add_comm (i * w) w, add_assoc w (i * w) j)
    (get_past (f x) (cells f xs) w (i * w + j) 0 (e x) ∙ get_cell f w e xs d i j (le_of_suc-le-suc hi) hj)

pub cells_snoc : {A : Type 0} (f : A → List ℕ) (xs : List A) (x : A) → cells f (xs ++ (x ∷ [])) ≡ cells f xs ++ f x
unfolding cells
cells_snoc f [] x = append-nil (f x)
cells_snoc f (y ∷ xs) x = ap (f y ++◌) (cells_snoc f xs x) ∙ sym (append_assoc (f y) (cells f xs) (f x))

-- what is made up reads like what is past the end
get_made_up : {A : Type 0} (n : ℕ) (d : A) (xs : List A) (i : ℕ) → get_or (xs ++ replicate n d) i d ≡ get_or xs i d
get_made_up zero d [] i = refl
get_made_up (suc n) d [] zero = refl
get_made_up (suc n) d [] (suc i) = get_made_up n d [] i
get_made_up n d (x ∷ xs) zero = refl
get_made_up n d (x ∷ xs) (suc i) = get_made_up n d xs i

module _ {A : Type 0} (n : ℕ) (d : A) (xs : List A) where
  -- what is made up, where nothing is cut
  pad_by : (k : ℕ) → n ≡ length xs + k → pad n d xs ≡ xs ++ replicate k d
  unfolding pad
  pad_by k e =
      let more : n ≡ k + length xs = omega arith in
      ap (λ m. take m (xs ++ replicate n d)) e ∙ take-append-add xs (replicate n d) k
      ∙ ap (λ m. xs ++ take k (replicate m d)) more
      ∙ ap (λ (l : List A). xs ++ take k l) (sym (replicate-append-replicate k (length xs) d))
      ∙ ap (xs ++◌) (take_at (replicate k d) (replicate (length xs) d) k (length-replicate k d))

  pub get_pad : (i : ℕ) → i < n → get_or (pad n d xs) i d ≡ get_or xs i d
  unfolding pad
  get_pad i h = get_or-take n (xs ++ replicate n d) i d h ∙ get_made_up n d xs i

  pub set_pad : (i : ℕ) (a : A) → i < length xs → i < n → set (pad n d xs) i a ≡ pad n d (set xs i a)
  unfolding pad
  set_pad i a h l = sym (take-set-lt n (xs ++ replicate n d) i a l) ∙ ap (take n) (set-append_left xs (replicate n d) i a h)

  -- what stands there already
  pub set_pad_same : (i : ℕ) → i < n → set (pad n d xs) i (get_or xs i d) ≡ pad n d xs
  set_pad_same i h = rw (← get_pad i h) (set-get_or (pad n d xs) i d)

-- words put after the last that is not made up; `rest` stands past the padded list
pub pad_more : {A : Type 0} (n : ℕ) (d : A) (xs ys rest : List A) (p q : ℕ) → p ≡ length xs → q ≡ p + length ys → q ≤ n
    → take p (pad n d xs ++ rest) ++ (ys ++ drop q (pad n d xs ++ rest)) ≡ pad n d (xs ++ ys) ++ rest
pad_more {A} n d xs ys rest p q e₁ e₂ h =
    let k : ℕ = n - q in
    let left : n ≡ length xs + (length ys + k) = omega arith in
    let after : n ≡ length (xs ++ ys) + k = omega (arith, length-append xs ys) in
    let q≡ : q ≡ length xs + length ys = omega arith in
    let whole : pad n d xs ++ rest ≡ xs ++ (replicate (length ys) d ++ (replicate k d ++ rest)) =
    ap (λ (l : List A). l ++ rest) (pad_by n d xs (length ys + k) left ∙ ap (xs ++◌) (sym (replicate-append-replicate (length ys) k d))) ∙ simp append_assoc in
    let front : take p (pad n d xs ++ rest) ≡ xs = ap (take p) whole ∙ take_at xs _ p (sym e₁) in
    let back : drop q (pad n d xs ++ rest) ≡ replicate k d ++ rest =
    ap (drop q) whole ∙ ap (λ m. drop m (xs ++ (replicate (length ys) d ++ (replicate k d ++ rest)))) q≡
    ∙ drop-append-add xs _ (length ys) ∙ drop_at (replicate (length ys) d) _ (length ys) (length-replicate (length ys) d) in
    rw (front, back, pad_by n d (xs ++ ys) k after) (simp append_assoc)

-- where there is room, one more takes the place of the first that is made up
pub pad_snoc : {A : Type 0} (n : ℕ) (d : A) (xs : List A) (k : ℕ) (x : A) → length xs ≡ k → k < n → pad n d (xs ++ (x ∷ [])) ≡ set (pad n d xs) k x
pad_snoc n d xs k x e h =
    sym (ap (λ i. set (pad n d xs) i x) (sym e) ∙ set_split (pad n d xs) (length xs) x (rw (length_pad n d xs) (omega arith))
    ∙ simp append-nil at (pad_more n d xs (x ∷ []) [] (length xs) (suc (length xs)) refl (omega arith) (omega arith)))

-- what would be made up may as well be there
pub pad_made_up : {A : Type 0} (n : ℕ) (d : A) (xs : List A) (k : ℕ) → length xs ≡ k → k < n → pad n d (xs ++ (d ∷ [])) ≡ pad n d xs
pad_made_up n d xs k e h =
    pad_snoc n d xs k d e h ∙ ap (set (pad n d xs) k) (sym (get_or-eq_default xs d (omega arith))) ∙ set_pad_same n d xs k h

-- where there is none, it is cut
pub pad_cut : {A : Type 0} (n : ℕ) (d : A) (xs ys : List A) → n ≤ length xs → pad n d (xs ++ ys) ≡ pad n d xs
unfolding pad
pad_cut n d xs ys h =
    take-append-le n (xs ++ ys) (replicate n d) (omega (arith, length-append xs ys)) ∙ take-append-le n xs ys h ∙ sym (take-append-le n xs (replicate n d) h)

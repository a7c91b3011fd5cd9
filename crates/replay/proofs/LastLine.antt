-- The last line of a text: no LF stands in it but at its end, and what stands before it ends with an LF.
use Prim.Native.Nat.{ℕ, zero, suc, ◌+◌, ◌-◌, ◌≤◌, ◌<◌}
use native.Mathlib.Nat.{le_of_suc-le-suc, not-suc-le-zero}
use native.Mathlib.Numerals.{add-one}
use native.Mathlib.Omega.{arith}
use mathlib.Core.Path.{◌≡◌, refl, sym, ap, ◌∙◌}
use mathlib.Core.Bool.{Bool, true, false, cond}
use mathlib.Core.List.{List, [], ◌∷◌}
use lib.Dec.{eqb, ltb}
use lib.ListN.{length, take, drop, get_or, drop_of_length-le}
use lib.Seq.{drop-cons, length-take-le}
use Rattle.std.specs.Prelude.{◌≢◌}
use Rattle.std.specs.List.{count_by}
use Rattle.std.proofs.lemmas.List.{get_or-take}
use Rattle.std.proofs.lemmas.List.Recursion.{is_count_by}
use borrow.Author.Tests.{ltb-false, eq-eqb, ne_eqb}
use Rattle.rules.specs.Text.{lf, on_line, lines, join}
use Rattle.rules.specs.Input.{last_line, lines_before}
use Rattle.rules.proofs.ListLaws.{by_bool, below}

-- ---- One line

-- from this place on there is one line
pub record OneLine (s : List ℕ) (at : ℕ) : Type 0 where
  pub one : lines (drop at s) ≡ drop at s ∷ []

-- the last byte by itself, whether it is an LF or not
line_of_one : (c : ℕ) → lines (c ∷ []) ≡ (c ∷ []) ∷ []
unfolding lines
line_of_one c = by_bool (eqb c lf) (λ t. rw t) (λ t. rw t)

pub last_byte : (s : List ℕ) (at : ℕ) → at < length s → length s ≤ at + 1 → OneLine s at
last_byte s at h k =
    let e : drop at s ≡ get_or s at 0 ∷ [] = drop-cons s at 0 h ∙ ap (λ (l : List ℕ). get_or s at 0 ∷ l) (drop_of_length-le s {i = suc at} (omega arith)) in
    record { one = rw e (line_of_one (get_or s at 0)) }

-- a byte before it that is no LF is of the same line
pub byte_before : (s : List ℕ) (n at : ℕ) → at ≡ n + 1 → n < length s → (get_or s n 0 ≡ lf → ⊥) → OneLine s at → OneLine s n
unfolding lines
byte_before s n at k h e o = record { one = rw (drop-cons s n 0 h, ne_eqb _ _ e, rw (k, add-one) at o.one) }

-- ---- What stands before it

-- a line is cut off before the place, with what follows it as the last line
pub record Cut (s : List ℕ) (at : ℕ) : Type 0 where
  pub before : take at s ≡ join (lines_before (lines s))
  pub last : drop at s ≡ last_line (lines s)

-- a text of one line has none before it; nor has the empty text
pub none_before : (s : List ℕ) → OneLine s 0 → Cut s 0
unfolding lines_before last_line join
none_before s o = record { before = rw o.one; last = rw o.one }

pub empty_cut : (s : List ℕ) → length s ≡ 0 → Cut s 0
unfolding lines lines_before last_line join
empty_cut [] h = record { before = refl; last = refl }
empty_cut (c ∷ s) h = absurd (omega arith)

-- a byte before two lines or more, or an LF before one or more, changes the last line in nothing
on_others : (t : Bool) (c : ℕ) (ls : List (List ℕ)) → 1 ≤ length ls → (t ≡ false → 2 ≤ length ls)
    → (join (lines_before (on_line t c ls)) ≡ c ∷ join (lines_before ls)) × (last_line (on_line t c ls) ≡ last_line ls) × (2 ≤ length (on_line t c ls))
unfolding lines_before last_line join
on_others t c [] h k = absurd (not-suc-le-zero h)
on_others true c (l ∷ ls) h k = (refl, refl, omega arith)
on_others false c (l ∷ []) h k = absurd (let m = k refl in omega arith)
on_others false c (l ∷ m ∷ ls) h k = (refl, refl, omega arith)

-- after an LF, where one line follows
after : (s : List ℕ) (n : ℕ) → n < length s → get_or s n 0 ≡ lf → OneLine s (suc n)
    → (join (lines_before (lines s)) ≡ take (suc n) s) × (last_line (lines s) ≡ drop (suc n) s) × (2 ≤ length (lines s))
unfolding lines lines_before last_line join
after [] n h e o = absurd (not-suc-le-zero h)
after (c ∷ s) zero h e o = rw (eq-eqb c lf e, o.one) (refl, refl, omega arith)
after (c ∷ s) (suc n) h e o =
    let r = after s n (le_of_suc-le-suc h) e (record { one = o.one }) in
    let q = on_others (eqb c lf) c (lines s) (omega (arith, r.2)) (λ _. r.2) in
    (q.0 ∙ ap (λ (l : List ℕ). c ∷ l) r.0, q.1 ∙ r.1, q.2)

pub after_lf : (s : List ℕ) (n at : ℕ) → at ≡ n + 1 → n < length s → get_or s n 0 ≡ lf → OneLine s at → Cut s at
after_lf s n at k h e o =
    let r = after s n h e (rw (k, add-one) at o) in
    rw (k, add-one) (record { before = sym r.0; last = sym r.1 })

-- no LF is left before the final byte
one_from : (s : List ℕ) (n at : ℕ) → at + n + 1 ≡ length s → ((k : ℕ) → at ≤ k → k + 1 < length s → get_or s k 0 ≡ lf → ⊥) → OneLine s at
one_from s zero at h none = last_byte s at (omega arith) (omega arith)
one_from s (suc n) at h none =
    byte_before s at (at + 1) refl (omega arith) (none at (omega arith) (omega arith)) (one_from s n (at + 1) (omega arith) (λ k i. none k (omega arith)))

-- as the last LF is found in what stands before the final byte
module _ (s : List ℕ) (n : ℕ) (front : n ≡ length s - 1) where
  in_front : (k : ℕ) → k < n → get_or (take n s) k 0 ≡ get_or s k 0
  in_front k h = get_or-take n s k 0 h

  pub last_lf : (i : ℕ) → i < length (take n s) → get_or (take n s) i 0 ≡ lf
      → ((k : ℕ) → i + 1 ≤ k → k < length (take n s) → get_or (take n s) k 0 ≢ lf) → Cut s (i + 1) × (i + 1 ≤ length s)
  last_lf i inside here none =
      let long : length (take n s) ≡ n = length-take-le n s (omega arith) in (
        after_lf s i (i + 1) refl (omega arith) (sym (in_front i (omega arith)) ∙ here)
            (one_from s (n - (i + 1)) (i + 1) (omega arith) (λ k h m e. none k h (omega arith) (in_front k (omega arith) ∙ e))),
        omega arith,
      )

  pub no_lf : ((k : ℕ) → k < length (take n s) → get_or (take n s) k 0 ≢ lf) → Cut s 0
  no_lf none = by_bool (ltb 0 (length s))
      (λ t. none_before s (one_from s n 0 (omega (arith, below t)) (λ k h m e. none k (omega (arith, length-take-le n s (omega arith))) (in_front k (omega arith) ∙ e))))
      (λ t. empty_cut s (omega (arith, ltb-false 0 (length s) t)))

-- ---- How many lines stand before it

some_line : (c : ℕ) (s : List ℕ) → 1 ≤ length (lines (c ∷ s))
unfolding lines
some_line c s = go (eqb c lf) (lines s)
  where
    go : (t : Bool) (ls : List (List ℕ)) → 1 ≤ length (on_line t c ls)
    go true ls = omega arith
    go false [] = omega arith
    go false (l ∷ ls) = omega arith

more_before : (t : Bool) (c : ℕ) (ls : List (List ℕ)) → 1 ≤ length ls → length (lines_before (on_line t c ls)) ≡ cond t 1 0 + length (lines_before ls)
unfolding lines_before
more_before t c [] h = absurd (not-suc-le-zero h)
more_before true c (l ∷ ls) h = omega arith
more_before false c (l ∷ []) h = refl
more_before false c (l ∷ m ∷ ls) h = omega arith

lfs : List ℕ → ℕ
lfs [] = 0
lfs (c ∷ l) = cond (eqb c lf) (1 + lfs l) (lfs l)

one_more : (t : Bool) (n : ℕ) → cond t 1 0 + n ≡ cond t (1 + n) n
one_more true n = refl
one_more false n = omega arith

before_lfs : (s : List ℕ) (n : ℕ) → n ≡ length s - 1 → length (lines_before (lines s)) ≡ lfs (take n s)
unfolding lines_before lines lfs
before_lfs [] n h = rw h refl
before_lfs (c ∷ []) n h = rw (h, line_of_one c) refl
before_lfs (c ∷ d ∷ s) n h =
    let more : n ≡ suc (length (d ∷ s) - 1) = omega arith in
    rw (more, ← before_lfs (d ∷ s) (length (d ∷ s) - 1) refl, ← one_more) (more_before (eqb c lf) c (lines (d ∷ s)) (some_line d s))

-- the LFs that are not the final byte
pub lfs_before : (s : List ℕ) (n : ℕ) → n ≡ length s - 1 → length (lines_before (lines s)) ≡ count_by (λ b. eqb b lf) (take n s)
unfolding lfs
lfs_before s n h = before_lfs s n h ∙ is_count_by lfs (λ b. eqb b lf) refl (λ x xs. refl) (take n s)

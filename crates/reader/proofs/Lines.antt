-- Laws of the lines of a text: the first line ends at the first LF, and the others are the lines of what follows it.
use Prim.Native.Nat.{ℕ, suc, ◌+◌, ◌-◌, ◌≤◌, ◌<◌}
use native.Mathlib.Numerals.{add-one}
use native.Mathlib.Nat.{le_of_suc-le-suc, not-suc-le-zero, add_assoc, add-zero, add-sub_cancel_left}
use native.Mathlib.Decide.{dec_lt}
use native.Mathlib.Omega.{arith}
use mathlib.Core.Path.{◌≡◌, refl, sym, ap, ◌∙◌}
use mathlib.Core.Bool.{Bool, true, false, not, ◌||◌, cond}
use mathlib.Core.List.{List, [], ◌∷◌, ◌++◌}
use lib.Dec.{eqb, ltb}
use lib.ListN.{length, take, drop, get_or, length-drop}
use lib.Seq.{drop-drop, drop-length}
use borrow.Author.Tests.{eqb-true, ltb-false}
use Rattle.std.specs.Prelude.{Option, Some, None}
use Rattle.std.specs.List.{position_or_len}
use Rattle.std.proofs.lemmas.List.Recursion.{is_position_or_len}
use Rattle.rules.specs.Lists.{any}
use Rattle.rules.specs.Text.{lf, allowed, stray, on_line, lines, without_lf, start_of}
use Rattle.rules.proofs.ListLaws.{impossible, by_bool, length_snoc}

-- ---- The first LF, as a search finds it

lf_step : (c : ℕ) (l : List ℕ) → length (without_lf (c ∷ l)) ≡ cond (eqb c lf) 0 (1 + length (without_lf l))
unfolding without_lf
lf_step c l = by_bool (eqb c lf) (λ t. rw t) (λ t. rw t (omega arith))

lf_position : (l : List ℕ) → length (without_lf l) ≡ position_or_len (λ c. eqb c lf) l
unfolding without_lf
lf_position = is_position_or_len (λ l. length (without_lf l)) (λ c. eqb c lf) refl lf_step

-- what a search finds in a text that comes to an LF after so many bytes
abbrev FirstLf : (l : List ℕ) → Option ℕ → Type 0
FirstLf l r = r ≡ cond (ltb (length (without_lf l)) (length l)) (Some (length (without_lf l))) None

pub first_lf : (l : List ℕ) (r : Option ℕ) → r ≡ cond (ltb (position_or_len (λ c. eqb c lf) l) (length l)) (Some (position_or_len (λ c. eqb c lf) l)) None → FirstLf l r
first_lf l r e = rw lf_position e

without_lf_within : (l : List ℕ) → length (without_lf l) ≤ length l
unfolding without_lf
without_lf_within [] = omega arith
without_lf_within (c ∷ l) = by_bool (eqb c lf) (λ t. rw t (omega arith)) (λ t. rw t (omega (arith, without_lf_within l)))

-- what was found from a place on, or the end of the text
module _ (s : List ℕ) (at : ℕ) (h : at ≤ length s) where
  pub lf_found : {n : ℕ} → FirstLf (drop at s) (Some n) → (at + n ≡ at + length (without_lf (drop at s))) × (at + n ≤ length s)
  lf_found {n} e =
      let w = length (without_lf (drop at s)) in
      let same : n ≡ w = by_bool (ltb w (length (drop at s))) (λ t. let found = rw t at e in cc) (λ t. let none = rw t at e in impossible cc) in
      let within : n ≤ length s - at = rw (same, ← length-drop at s) (without_lf_within (drop at s)) in
      (ap (λ k. at + k) same, omega arith)

  pub lf_none : FirstLf (drop at s) None → (length s ≡ at + length (without_lf (drop at s))) × (length s ≤ length s)
  lf_none e =
      let w = length (without_lf (drop at s)) in
      let past : length (drop at s) ≤ w = by_bool (ltb w (length (drop at s))) (λ t. let some = rw t at e in impossible cc) (λ t. ltb-false _ _ t) in
      (omega (arith, past, without_lf_within (drop at s), length-drop at s), omega arith)

-- ---- The first line

-- what stands before the first LF is the front of the text, and is the first line without its LF
without_lf_front : (l : List ℕ) → take (length (without_lf l)) l ≡ without_lf l
unfolding without_lf
without_lf_front [] = refl
without_lf_front (c ∷ l) = by_bool (eqb c lf)
    (λ t. rw t)
    (λ t. rw (t, without_lf_front l))

first_line_without_lf : (l : List ℕ) → without_lf (get_or (lines l) 0 []) ≡ without_lf l
unfolding without_lf lines
first_line_without_lf [] = refl
first_line_without_lf (c ∷ l) = go (eqb c lf) refl (lines l) (first_line_without_lf l)
  where
    go : (t : Bool) → eqb c lf ≡ t → (ls : List (List ℕ)) → without_lf (get_or ls 0 []) ≡ without_lf l → without_lf (get_or (on_line t c ls) 0 []) ≡ cond t [] (c ∷ without_lf l)
    go true e ls h = rw e
    go false e [] h = rw (e, ← h)
    go false e (k ∷ ls) h = rw (e, h)

-- where an LF stands in the text, the first line ends with it
ended_line : (l : List ℕ) → length (without_lf l) < length l → lines l ≡ (without_lf l ++ (lf ∷ [])) ∷ lines (drop (length (without_lf l) + 1) l)
unfolding without_lf lines
ended_line [] h = absurd (not-suc-le-zero h)
ended_line (c ∷ l) h = by_bool (eqb c lf)
    (λ t. rw (t, eqb-true c lf t))
    (λ t. rw (t, ended_line l (le_of_suc-le-suc (rw t at h))) (simp add-one))

-- where none does, it is all of the text
last_line : (c : ℕ) (l : List ℕ) → length (c ∷ l) ≤ length (without_lf (c ∷ l)) → (without_lf (c ∷ l) ≡ c ∷ l) × (lines (c ∷ l) ≡ (c ∷ l) ∷ [])
unfolding without_lf lines
last_line c [] h = by_bool (eqb c lf)
    (λ t. absurd (not-suc-le-zero (rw t at h)))
    (λ t. rw t (refl, refl))
last_line c (d ∷ l) h = by_bool (eqb c lf)
    (λ t. absurd (not-suc-le-zero (rw t at h)))
    (λ t. let r = last_line d l (le_of_suc-le-suc (rw t at h)) in rw (t, r.0, r.1) (refl, refl))

-- ---- Stray bytes

-- LF is allowed
stray_before_lf : (l : List ℕ) → stray (l ++ (lf ∷ [])) ≡ stray l
unfolding stray any allowed
stray_before_lf [] = refl
stray_before_lf (c ∷ l) = ap (λ (b : Bool). not (allowed c) || b) (stray_before_lf l)

first_line_stray : (l : List ℕ) → stray (get_or (lines l) 0 []) ≡ stray (without_lf l)
unfolding lines without_lf
first_line_stray [] = refl
first_line_stray (c ∷ l) = go (dec_lt (length (without_lf (c ∷ l))) (length (c ∷ l)))
  where
    go : Dec (length (without_lf (c ∷ l)) < length (c ∷ l)) → stray (get_or (lines (c ∷ l)) 0 []) ≡ stray (without_lf (c ∷ l))
    go (yes h) = rw (ended_line (c ∷ l) h) (stray_before_lf (without_lf (c ∷ l)))
    go (no h) = let r = last_line c l (omega arith) in rw (r.1, r.0)

-- ---- The part of the text from a place to the first LF from there, or to the end

module _ (s : List ℕ) (at e : ℕ) (h : e ≡ at + length (without_lf (drop at s))) where
  part_to_lf : take (e - at) (drop at s) ≡ without_lf (drop at s)
  part_to_lf = rw (h, add-sub_cancel_left) (without_lf_front (drop at s))

  pub part_without_lf : take (e - at) (drop at s) ≡ without_lf (get_or (lines (drop at s)) 0 [])
  part_without_lf = part_to_lf ∙ sym (first_line_without_lf (drop at s))

  pub part_stray : stray (take (e - at) (drop at s)) ≡ stray (get_or (lines (drop at s)) 0 [])
  part_stray = ap stray part_to_lf ∙ sym (first_line_stray (drop at s))

-- ---- Line n, from a place on: e is the first LF from there, or the end

-- where an LF stands, line n is counted from after it
pub past_lf : (s : List ℕ) (at e n i : ℕ) → e ≡ at + length (without_lf (drop at s)) → e < length s → i < n
    → (get_or (lines (drop at s)) (n - i) [] ≡ get_or (lines (drop (e + 1) s)) (n - (i + 1)) [])
    × (at + start_of (n - i) (lines (drop at s)) ≡ e + 1 + start_of (n - (i + 1)) (lines (drop (e + 1) s)))
unfolding start_of
past_lf s at e n i h k j =
    let w = without_lf (drop at s) in
    let one_more : n - i ≡ suc (n - (i + 1)) = omega arith in
    let place : e + 1 ≡ at + (length w + 1) = omega arith in
    rw (place, ← drop-drop, one_more, ended_line (drop at s) (rw length-drop (omega arith)), length_snoc) (refl, sym (add_assoc at (length w + 1) _))

-- where none does, there is no line to come
pub past_last : (s : List ℕ) (at e n i : ℕ) → e ≡ at + length (without_lf (drop at s)) → at ≤ length s → length s ≤ e → i < n
    → (get_or (lines (drop at s)) (n - i) [] ≡ get_or (lines (drop (length s) s)) 0 []) × (at + start_of (n - i) (lines (drop at s)) ≡ length s)
unfolding lines start_of
past_last s at e n i h b k j =
    let one_more : n - i ≡ suc (n - (i + 1)) = omega arith in
    let r = go (drop at s) (n - (i + 1)) (rw length-drop (omega arith)) in
    rw (one_more, drop-length) (r.0, omega (arith, r.1, length-drop at s))
  where
    go : (l : List ℕ) (m : ℕ) → length l ≤ length (without_lf l) → (get_or (lines l) (suc m) [] ≡ []) × (start_of (suc m) (lines l) ≡ length l)
    go [] m g = (refl, refl)
    go (c ∷ l) m g = rw ((last_line c l g).1, add-zero) (refl, refl)

pub start_of_first : (ls : List (List ℕ)) → start_of 0 ls ≡ 0
unfolding start_of
start_of_first [] = refl
start_of_first (l ∷ ls) = refl

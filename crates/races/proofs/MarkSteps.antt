-- Why the loops note what they should: each step changes one row, and the words of different objects, fields and threads stand apart.
use Rattle.std.proofs.Common.{ℕ, suc, ◌+◌, ◌*◌, ◌%◌, ◌≤◌, ◌<◌, max, arith, ◌≡◌, refl, sym, ap, ◌∙◌, Bool, true, false, ◌&&◌, ◌||◌, cond, List, [], ◌∷◌, ◌++◌, map, eqb, ltb, length, get_or, set, take, length-set, take-suc, get_or-set_same, get_or-set_other, eqb-true, eq-eqb, ne_eqb, ltb-true, ltb-false, Option, None}
use mathlib.Core.Bool.{false≢true}
use mathlib.Core.List.{map-append}
use borrow.Author.Tests.{eqb-false}
use Rattle.rules.specs.Lists.{among}
use Rattle.rules.proofs.ListLaws.{by_bool, and_true}
use Rattle.walk.proofs.Numbers.{among_snoc}
use Rattle.races.specs.declared.marks.Found.{Found}
use Rattle.races.specs.Marks.{field_at, objects_in, MarksMet, MarksFields, first_of, MarksFirst, most, unhanded, latest_in, latest_on, race_on, later, over_fields, over_objects}

-- ---- One word set

word_set : (ws : List ℕ) (p q v : ℕ) → p < length ws → get_or (set ws p v) q 0 ≡ cond (eqb q p) v (get_or ws q 0)
word_set ws p q v there =
    by_bool (eqb q p)
    (λ same. rw (same, eqb-true q p same) (get_or-set_same ws p v 0 there))
    (λ other. rw other (get_or-set_other ws p q v 0 (eqb-false q p other)))

-- two numbers with 16 places each, or 256: the same where both parts are
parts_same : (w x n u t : ℕ) → u < w → t < w → (x * w + u ≡ n * w + t → (x ≡ n) × (u ≡ t)) → eqb (x * w + u) (n * w + t) ≡ (eqb x n && eqb u t)
parts_same w x n u t few-u few-t split =
    by_bool (eqb x n)
    (λ same-x.
    by_bool (eqb u t)
    (λ same-u. rw (same-x, same-u) (eq-eqb (x * w + u) (n * w + t) (rw (eqb-true x n same-x, eqb-true u t same-u) refl)))
    (λ other. rw (same-x, other) (ne_eqb (x * w + u) (n * w + t) (λ e. eqb-false u t other (split e).1))))
    (λ other. rw other (ne_eqb (x * w + u) (n * w + t) (λ e. eqb-false x n other (split e).0)))

in_rows : (x n u t : ℕ) → u < 16 → t < 16 → eqb (x * 16 + u) (n * 16 + t) ≡ (eqb x n && eqb u t)
in_rows x n u t few-u few-t = parts_same 16 x n u t few-u few-t (λ e. (omega arith, omega arith))

-- ---- One object more

objects_snoc : (order : List ℕ) (i : ℕ) → i < length order → objects_in (take (i + 1) order) ≡ objects_in (take i order) ++ (get_or order i 0 % 256 ∷ [])
objects_snoc order i there =
    let next : i + 1 ≡ suc i = omega arith in
    ap (λ (k : ℕ). objects_in (take k order)) next
    ∙ ap (map (λ (y : ℕ). y % 256)) (take-suc order i 0 there)
    ∙ map-append (λ (y : ℕ). y % 256) (take i order) (get_or order i 0 ∷ [])

objects_next : (x : ℕ) (order : List ℕ) (i : ℕ) → i < length order → among x (objects_in (take (i + 1) order)) ≡ (among x (objects_in (take i order)) || eqb x (get_or order i 0 % 256))
objects_next x order i there = ap (among x) (objects_snoc order i there) ∙ among_snoc x (get_or order i 0 % 256) (objects_in (take i order))

one_more : (a e b : Bool) (v old : ℕ) → cond (e && b) v (cond (a && b) v old) ≡ cond ((a || e) && b) v old
one_more true true true v old = refl
one_more true true false v old = refl
one_more true false true v old = refl
one_more true false false v old = refl
one_more false true true v old = refl
one_more false true false v old = refl
one_more false false true v old = refl
one_more false false false v old = refl

module _ (order : List ℕ) (t mark : ℕ) (few : t < 16) where
  -- ---- Rows of objects

  pub none_met : (ws : List ℕ) → MarksMet (objects_in (take 0 order)) t mark ws ws
  none_met ws = record { each = λ n u _ _. refl }

  pub one_met : {ws ws₁ : List ℕ} (i : ℕ) → i < length order → 4096 ≤ length ws₁ → MarksMet (objects_in (take i order)) t mark ws ws₁
      → MarksMet (objects_in (take (i + 1) order)) t mark ws (set ws₁ (get_or order i 0 % 256 * 16 + t) mark)
  one_met {ws} {ws₁} i there wide so =
      let n = get_or order i 0 % 256 in
      record {
        each = λ x u x-few u-few.
            word_set ws₁ (n * 16 + t) (x * 16 + u) mark (omega arith)
            ∙ rw (in_rows x n u t u-few few, so.each x u x-few u-few, objects_next x order i there)
            (one_more (among x (objects_in (take i order))) (eqb x n) (eqb u t) mark (get_or ws (x * 16 + u) 0));
      }

  -- ---- Rows of fields

  pub none_marked : (ws : List ℕ) → MarksFields (objects_in (take 0 order)) t mark ws ws
  none_marked ws = record { each = λ n f u _ _ _. refl }

  -- four rows of an object
  unfoldable pub four : List ℕ → ℕ → List ℕ
  four ws at = set (set (set (set ws at mark) (at + 16) mark) (at + 32) mark) (at + 48) mark

  four_hit : (ws : List ℕ) (at f : ℕ) → at + 48 < length ws → f < 4 → get_or (four ws at) (at + f * 16) 0 ≡ mark
  unfolding four
  four_hit ws at f wide f-few =
      let a = set ws at mark in
      let b = set a (at + 16) mark in
      let c = set b (at + 32) mark in
      let wide-a = length-set ws at mark in
      let wide-b = length-set a (at + 16) mark in
      let wide-c = length-set b (at + 32) mark in
      word_set c (at + 48) (at + f * 16) mark (omega (arith, wide-a, wide-b, wide-c))
      ∙ by_bool (eqb (at + f * 16) (at + 48)) (λ is. rw is refl)
      (λ not-3. rw not-3 (word_set b (at + 32) (at + f * 16) mark (omega (arith, wide-a, wide-b))
      ∙ by_bool (eqb (at + f * 16) (at + 32)) (λ is. rw is refl)
      (λ not-2. rw not-2 (word_set a (at + 16) (at + f * 16) mark (omega (arith, wide-a))
      ∙ by_bool (eqb (at + f * 16) (at + 16)) (λ is. rw is refl)
      (λ not-1. rw not-1 (word_set ws at (at + f * 16) mark (omega arith)
      ∙ rw (eq-eqb (at + f * 16) at (omega (arith, eqb-false (at + f * 16) (at + 48) not-3, eqb-false (at + f * 16) (at + 32) not-2, eqb-false (at + f * 16) (at + 16) not-1))) refl))))))

  four_miss : (ws : List ℕ) (at q : ℕ) → ((f : ℕ) → f < 4 → q ≡ at + f * 16 → ⊥) → get_or (four ws at) q 0 ≡ get_or ws q 0
  unfolding four
  four_miss ws at q other =
      let a = set ws at mark in
      let b = set a (at + 16) mark in
      let c = set b (at + 32) mark in
      get_or-set_other c (at + 48) q mark 0 (λ e. other 3 (omega arith) (omega arith))
      ∙ get_or-set_other b (at + 32) q mark 0 (λ e. other 2 (omega arith) (omega arith))
      ∙ get_or-set_other a (at + 16) q mark 0 (λ e. other 1 (omega arith) (omega arith))
      ∙ get_or-set_other ws at q mark 0 (λ e. other 0 (omega arith) (omega arith))

  four_each : (ws : List ℕ) (n x f u : ℕ) → n < 256 → 16384 ≤ length ws → f < 4 → u < 16
      → get_or (four ws (n * 64 + t)) (field_at x f u) 0 ≡ cond (eqb x n && eqb u t) mark (get_or ws (field_at x f u) 0)
  four_each ws n x f u n-few wide f-few u-few =
      by_bool (eqb x n && eqb u t)
      (λ both.
      let same-x = eqb-true x n (and_true (eqb x n) (eqb u t) both).0 in
      let same-u = eqb-true u t (and_true (eqb x n) (eqb u t) both).1 in
      let at : field_at x f u ≡ n * 64 + t + f * 16 = omega arith in
      rw (both, at) (four_hit ws (n * 64 + t) f (omega arith) f-few))
      (λ other.
      rw other
      (four_miss ws (n * 64 + t) (field_at x f u)
      (λ g g-few e. let clash : (eqb x n && eqb u t) ≡ true = rw (eq-eqb x n (omega arith), eq-eqb u t (omega arith)) refl in true_not_false (sym clash ∙ other))))
    where
      true_not_false : true ≡ false → ⊥
      true_not_false e = let z : ◌≡◌ {A = ℕ} 0 1 = cc in omega arith

  pub one_marked : {ws ws₁ : List ℕ} (i : ℕ) → i < length order → 16384 ≤ length ws₁ → MarksFields (objects_in (take i order)) t mark ws ws₁
      → MarksFields (objects_in (take (i + 1) order)) t mark ws (four ws₁ (get_or order i 0 % 256 * 64 + t))
  one_marked {ws} {ws₁} i there wide so =
      let n = get_or order i 0 % 256 in
      record {
        each = λ x f u x-few f-few u-few.
            four_each ws₁ n x f u (omega arith) wide f-few u-few
            ∙ rw (so.each x f u x-few f-few u-few, objects_next x order i there)
            (one_more (among x (objects_in (take i order))) (eqb x n) (eqb u t) mark (get_or ws (field_at x f u) 0));
      }

-- ---- First puts

-- four rows of an object, each where it is 0 still
unfoldable pub four_first : (mark : ℕ) → List ℕ → ℕ → List ℕ
four_first mark ws at =
    let a = set ws at (first_of mark (get_or ws at 0)) in
    let b = set a (at + 16) (first_of mark (get_or a (at + 16) 0)) in
    let c = set b (at + 32) (first_of mark (get_or b (at + 32) 0)) in
    set c (at + 48) (first_of mark (get_or c (at + 48) 0))

-- word after word
pub four_steps : (mark : ℕ) (ws : List ℕ) (at : ℕ) {a b c d : ℕ} → a ≡ first_of mark (get_or ws at 0) → b ≡ first_of mark (get_or (set ws at a) (at + 16) 0)
    → c ≡ first_of mark (get_or (set (set ws at a) (at + 16) b) (at + 32) 0) → d ≡ first_of mark (get_or (set (set (set ws at a) (at + 16) b) (at + 32) c) (at + 48) 0)
    → four_first mark ws at ≡ set (set (set (set ws at a) (at + 16) b) (at + 32) c) (at + 48) d
unfolding four_first
four_steps mark ws at first second third fourth = rw (fourth, third, second, first) refl

module _ (order : List ℕ) (t mark : ℕ) (few : t < 16) where
  pub none_first : (ws : List ℕ) → MarksFirst (objects_in (take 0 order)) t mark ws ws
  none_first ws = record { each = λ n f u _ _ _. refl }

  -- a word set to the first of what it was
  first_set : (ws : List ℕ) (p q : ℕ) → p < length ws → get_or (set ws p (first_of mark (get_or ws p 0))) q 0 ≡ cond (eqb q p) (first_of mark (get_or ws q 0)) (get_or ws q 0)
  first_set ws p q there =
      by_bool (eqb q p)
      (λ same. rw (same, eqb-true q p same) (get_or-set_same ws p (first_of mark (get_or ws p 0)) 0 there))
      (λ other. rw other (get_or-set_other ws p q (first_of mark (get_or ws p 0)) 0 (eqb-false q p other)))

  first_hit : (ws : List ℕ) (at f : ℕ) → at + 48 < length ws → f < 4 → get_or (four_first mark ws at) (at + f * 16) 0 ≡ first_of mark (get_or ws (at + f * 16) 0)
  unfolding four_first
  first_hit ws at f wide f-few =
      let q = at + f * 16 in
      let a = set ws at (first_of mark (get_or ws at 0)) in
      let b = set a (at + 16) (first_of mark (get_or a (at + 16) 0)) in
      let c = set b (at + 32) (first_of mark (get_or b (at + 32) 0)) in
      let wide-a = length-set ws at (first_of mark (get_or ws at 0)) in
      let wide-b = length-set a (at + 16) (first_of mark (get_or a (at + 16) 0)) in
      let wide-c = length-set b (at + 32) (first_of mark (get_or b (at + 32) 0)) in
      let by-c = first_set c (at + 48) q (omega (arith, wide-a, wide-b, wide-c)) in
      let by-b = first_set b (at + 32) q (omega (arith, wide-a, wide-b)) in
      let by-a = first_set a (at + 16) q (omega (arith, wide-a)) in
      let by-w = first_set ws at q (omega arith) in
      let is-not : (i j : ℕ) → (i ≡ j → ⊥) → eqb i j ≡ false = ne_eqb in
      by_bool (eqb f 0)
      (λ is_f. let is = eqb-true f 0 is_f in by-c
      ∙ rw (is-not q (at + 48) (λ e. omega arith), by-b, is-not q (at + 32) (λ e. omega arith), by-a, is-not q (at + 16) (λ e. omega arith), by-w, eq-eqb q at (omega arith)) refl)
      (λ not-0.
      let other-0 = eqb-false f 0 not-0 in
      by_bool (eqb f 1)
      (λ is_f. let is = eqb-true f 1 is_f in by-c
      ∙ rw (is-not q (at + 48) (λ e. omega arith), by-b, is-not q (at + 32) (λ e. omega arith), by-a, eq-eqb q (at + 16) (omega arith), by-w, is-not q at (λ e. omega arith)) refl)
      (λ not-1.
      let other-1 = eqb-false f 1 not-1 in
      by_bool (eqb f 2)
      (λ is_f. let is = eqb-true f 2 is_f in by-c
      ∙ rw (is-not q (at + 48) (λ e. omega arith), by-b, eq-eqb q (at + 32) (omega arith), by-a, is-not q (at + 16) (λ e. omega arith), by-w, is-not q at (λ e. omega arith)) refl)
      (λ not-2.
      let other-2 = eqb-false f 2 not-2 in by-c
      ∙ rw (eq-eqb q (at + 48) (omega arith), by-b, is-not q (at + 32) (λ e. omega arith), by-a, is-not q (at + 16) (λ e. omega arith), by-w, is-not q at (λ e. omega arith)) refl)))

  first_miss : (ws : List ℕ) (at q : ℕ) → ((f : ℕ) → f < 4 → q ≡ at + f * 16 → ⊥) → get_or (four_first mark ws at) q 0 ≡ get_or ws q 0
  unfolding four_first
  first_miss ws at q other =
      let a = set ws at (first_of mark (get_or ws at 0)) in
      let b = set a (at + 16) (first_of mark (get_or a (at + 16) 0)) in
      let c = set b (at + 32) (first_of mark (get_or b (at + 32) 0)) in
      get_or-set_other c (at + 48) q _ 0 (λ e. other 3 (omega arith) (omega arith))
      ∙ get_or-set_other b (at + 32) q _ 0 (λ e. other 2 (omega arith) (omega arith))
      ∙ get_or-set_other a (at + 16) q _ 0 (λ e. other 1 (omega arith) (omega arith))
      ∙ get_or-set_other ws at q _ 0 (λ e. other 0 (omega arith) (omega arith))

  first_each : (ws : List ℕ) (n x f u : ℕ) → n < 256 → 16384 ≤ length ws → f < 4 → u < 16
      → get_or (four_first mark ws (n * 64 + t)) (field_at x f u) 0 ≡ cond (eqb x n && eqb u t) (first_of mark (get_or ws (field_at x f u) 0)) (get_or ws (field_at x f u) 0)
  first_each ws n x f u n-few wide f-few u-few =
      by_bool (eqb x n && eqb u t)
      (λ both.
      let same-x = eqb-true x n (and_true (eqb x n) (eqb u t) both).0 in
      let same-u = eqb-true u t (and_true (eqb x n) (eqb u t) both).1 in
      let at : field_at x f u ≡ n * 64 + t + f * 16 = omega arith in
      rw (both, at) (first_hit ws (n * 64 + t) f (omega arith) f-few))
      (λ other.
      rw other
      (first_miss ws (n * 64 + t) (field_at x f u)
      (λ g g-few e. let clash : (eqb x n && eqb u t) ≡ true = rw (eq-eqb x n (omega arith), eq-eqb u t (omega arith)) refl in false≢true (sym other ∙ clash))))

  first_twice : (a e b : Bool) (was : ℕ) → let once = cond (a && b) (first_of mark was) was in cond (e && b) (first_of mark once) once ≡ cond ((a || e) && b) (first_of mark was) was
  first_twice true true true was = by_bool (eqb was 0) (λ is. rw is (by_bool (eqb mark 0) (λ z. rw z refl) (λ z. rw z refl))) (λ is. rw (is, is) refl)
  first_twice true true false was = refl
  first_twice true false true was = refl
  first_twice true false false was = refl
  first_twice false true true was = refl
  first_twice false true false was = refl
  first_twice false false true was = refl
  first_twice false false false was = refl

  pub one_first : {ws ws₁ : List ℕ} (i : ℕ) → i < length order → 16384 ≤ length ws₁ → MarksFirst (objects_in (take i order)) t mark ws ws₁
      → MarksFirst (objects_in (take (i + 1) order)) t mark ws (four_first mark ws₁ (get_or order i 0 % 256 * 64 + t))
  one_first {ws} {ws₁} i there wide so =
      let n = get_or order i 0 % 256 in
      record {
        each = λ x f u x-few f-few u-few.
            first_each ws₁ n x f u (omega arith) wide f-few u-few
            ∙ rw (so.each x f u x-few f-few u-few, objects_next x order i there)
            (first_twice (among x (objects_in (take i order))) (eqb x n) (eqb u t) (get_or ws (field_at x f u) 0));
      }

-- ---- What is found, one step more

pub max_most : (a b : ℕ) → max a b ≡ most a b
max_most a b = by_bool (ltb a b)
    (λ e. let less = ltb-true a b e in rw e (omega arith))
    (λ e. let few = ltb-false a b e in rw e (omega arith))

most_none : (a : ℕ) → most a 0 ≡ a
most_none a = by_bool (ltb a 0) (λ e. let less = ltb-true a 0 e in absurd (omega arith)) (λ e. rw e refl)

-- the turns of the same thread are passed over

pub latest_skips : (ws puts : List ℕ) (a q t u : ℕ) {last : ℕ} → u ≡ t → last ≡ latest_in ws puts a q t u → last ≡ latest_in ws puts a q t (u + 1)
unfolding latest_in
latest_skips ws puts a q t u same so =
    let next : u + 1 ≡ suc u = omega arith in
    rw (next, eq-eqb u t same) (so ∙ sym (most_none _))

pub latest_next : (ws puts : List ℕ) (a q t u : ℕ) {last x r : ℕ} → (u ≡ t → ⊥) → last ≡ latest_in ws puts a q t u
    → x ≡ unhanded (get_or ws (a * 16 + u) 0) (get_or puts (a * 16 + u) 0) q → r ≡ max last x → r ≡ latest_in ws puts a q t (u + 1)
unfolding latest_in
latest_next ws puts a q t u other so this is =
    let next : u + 1 ≡ suc u = omega arith in
    rw (next, ne_eqb u t other) (is ∙ rw (so, this) (max_most _ _))

module _ (swaps puts receives : List ℕ) (t : ℕ) where
  pub fields_next : (n : ℕ) (F : Option Found) (f : ℕ) {G R : Option Found} → G ≡ over_fields swaps puts receives t n F f
      → R ≡ later G (race_on (latest_on swaps puts receives t n f) n f) → R ≡ over_fields swaps puts receives t n F (f + 1)
  unfolding over_fields
  fields_next n F f so is =
      let next : f + 1 ≡ suc f = omega arith in
      rw next (is ∙ rw so refl)

  over_snoc : (F : Option Found) (ns : List ℕ) (n : ℕ)
      → over_objects swaps puts receives t F (ns ++ (n ∷ [])) ≡ over_fields swaps puts receives t n (over_objects swaps puts receives t F ns) 4
  unfolding over_objects
  over_snoc F [] n = refl
  over_snoc F (x ∷ ns) n = over_snoc (over_fields swaps puts receives t x F 4) ns n

  pub objects_found_next : (order : List ℕ) (i : ℕ) {G R : Option Found} → i < length order
      → G ≡ over_objects swaps puts receives t None (objects_in (take i order))
      → R ≡ over_fields swaps puts receives t (get_or order i 0 % 256) G 4 → R ≡ over_objects swaps puts receives t None (objects_in (take (i + 1) order))
  objects_found_next order i there so is =
      is
      ∙ rw so (sym (over_snoc None (objects_in (take i order)) (get_or order i 0 % 256)))
      ∙ ap (over_objects swaps puts receives t None) (sym (objects_snoc order i there))

-- The objects met are numbered: one that is met next gets the next place, and the places given stay. Each has one place, so that as many objects
-- are met as are less to meet.
use Rattle.std.proofs.Common.{ℕ, zero, suc, ◌+◌, ◌-◌, ◌≤◌, ◌<◌, le_refl, add-one, arith, ◌≡◌, refl, sym, ap, ◌∙◌, true, false, ◌||◌, cond, true≢false, List, [], ◌∷◌, ◌++◌, eqb, length, get_or, set, take, drop, replicate, get_or-set_same, get_or-set_other, take-suc-set, drop-set-lt, drop-drop, eqb-true, eq-eqb, ne_eqb}
use Rattle.std.proofs.lemmas.Bool.{eqb-false}
use Rattle.rules.specs.declared.Value.{Value}
use Rattle.rules.specs.declared.Value.TheVariants.{Obj}
use Rattle.rules.specs.Lists.{among, place_of}
use Rattle.rules.proofs.ListLaws.{by_bool, length_snoc}
use Rattle.table.specs.StateTable.{InTable}
use Rattle.table.proofs.StateReads.{object_in_table}
use Rattle.walk.specs.declared.Met.{Met}
use Rattle.walk.specs.Walking.{Tally, tally, Numbered, unmet, Grows}
use Rattle.walk.specs.Walked.{SameLists}

-- ---- One number more in a list

pub among_snoc : (x o : ℕ) (met : List ℕ) → among x (met ++ (o ∷ [])) ≡ (among x met || eqb x o)
among_snoc x o [] = by_bool (eqb x o) (λ t. rw t refl) (λ t. rw t refl)
among_snoc x o (y ∷ met) = by_bool (eqb x y) (λ t. rw t refl) (λ t. rw t (among_snoc x o met))

-- it stands at the end, and the places of the others stay
place_last : (o : ℕ) (met : List ℕ) → among o met ≡ false → place_of o (met ++ (o ∷ [])) ≡ length met
unfolding place_of
place_last o [] f = rw (eq-eqb o o refl) refl
place_last o (y ∷ met) f =
    by_bool (eqb o y) (λ t. absurd (true≢false (rw t at f))) (λ t. rw t (ap suc (place_last o met (rw t at f))))

place_stays : (x o : ℕ) (met : List ℕ) → among x met ≡ true → place_of x (met ++ (o ∷ [])) ≡ place_of x met
unfolding place_of
place_stays x o [] t = absurd (true≢false (sym t))
place_stays x o (y ∷ met) t = by_bool (eqb x y) (λ e. rw e refl) (λ e. rw e (ap suc (place_stays x o met (rw e at t))))

-- ---- How many are not met

unmet_before : (k : ℕ) (places : List ℕ) (o a : ℕ) → k ≤ o → unmet k (set places o a) ≡ unmet k places
unfolding unmet
unmet_before zero places o a h = refl
unmet_before (suc k) places o a h = rw (get_or-set_other places o k a 0 (λ e. omega arith), unmet_before k places o a (omega arith)) refl

one_less_unmet : (k : ℕ) (places : List ℕ) (o a : ℕ) → o < k → o < length places → get_or places o 0 ≡ 0 → unmet k (set places o (a + 1)) + 1 ≡ unmet k places
unfolding unmet
one_less_unmet zero places o a h there none = absurd (omega arith)
one_less_unmet (suc k) places o a h there none =
    by_bool (eqb o k)
    (λ t. rw (← eqb-true o k t, get_or-set_same places o (a + 1) 0 there, none, unmet_before o places o (a + 1) (omega arith), ne_eqb (a + 1) 0 (λ e. omega arith)) (omega arith))
    (λ t. let other = eqb-false o k t in
    rw (get_or-set_other places o k (a + 1) 0 (λ e. other (sym e))) (omega (arith, one_less_unmet k places o a (omega arith) there none)))

pub few_unmet : (k : ℕ) (places : List ℕ) → unmet k places ≤ k
unfolding unmet
few_unmet zero places = le_refl 0
few_unmet (suc k) places =
    by_bool (eqb (get_or places k 0) 0) (λ t. rw t (omega (arith, few_unmet k places))) (λ f. rw f (omega (arith, few_unmet k places)))

-- an object that is not met has a place to come, and the list has one for it
pub record Unmet (places order : List ℕ) (n o : ℕ) : Type 0 where
  pub low : o < 256
  pub there : o < length places
  pub next : n < 256
  pub room : n < length order

pub unmet_fits : (m : Met) {v : Value} {o : ℕ} → v ≡ Obj o → InTable v → get_or m.places.now o 0 ≡ 0 → Unmet m.places.now m.order.now m.count o
unmet_fits m {v} {o} is in_table none =
    let places = m.places.now in
    let low : o < 256 = object_in_table v o is in_table in
    let there : o < length places = omega (arith, m.places_long) in
    let next : m.count < 256 = omega (arith, m.room, one_less_unmet 256 places o m.count low there none) in
    record { low = low; there = there; next = next; room = omega (arith, m.order_long) }

-- ---- Numbers and objects met

module _ {w : Tally} {met : List ℕ} (o : ℕ) (numbered : Numbered w met) where
  pub number_met : (get_or w.places o 0 ≡ 0 → ⊥) → among o met ≡ true
  number_met some = by_bool (among o met) (λ t. t) (λ f. absurd (some (numbered.placed o ∙ ap (λ b. cond b (suc (place_of o met)) 0) f)))

  pub number_at : among o met ≡ true → get_or w.places o 0 ≡ suc (place_of o met)
  number_at t = numbered.placed o ∙ ap (λ b. cond b (suc (place_of o met)) 0) t

  pub no_number_not_met : get_or w.places o 0 ≡ 0 → among o met ≡ false
  no_number_not_met none = by_bool (among o met) (λ t. absurd (omega (arith, number_at t, none))) (λ f. f)

  -- the object met next has the next place
  pub next_numbered : Unmet w.places w.order w.count o → get_or w.places o 0 ≡ 0
      → Numbered (tally (set w.places o (w.count + 1)) (set w.order w.count o) (w.count + 1)) (met ++ (o ∷ []))
  next_numbered at none =
      record {
        counted = ap (◌+ 1) numbered.counted ∙ sym (length_snoc met o);
        listed = ap (λ k. take k (set w.order w.count o)) (add-one w.count) ∙ take-suc-set w.order w.count o at.room
            ∙ ap (λ (l : List ℕ). l ++ (o ∷ [])) numbered.listed;
        placed = λ x. by_bool (eqb x o)
            (λ t. rw (eqb-true x o t, get_or-set_same w.places o (w.count + 1) 0 at.there, among_snoc o o met, fresh, eq-eqb o o refl, place_last o met fresh) (ap (◌+ 1) numbered.counted ∙ add-one (length met)))
            (λ f. get_or-set_other w.places o x (w.count + 1) 0 (eqb-false x o f) ∙ numbered.placed x ∙ others x f);
      }
    where
      fresh : among o met ≡ false
      fresh = no_number_not_met none

      others : (x : ℕ) → eqb x o ≡ false → cond (among x met) (suc (place_of x met)) 0 ≡ cond (among x (met ++ (o ∷ []))) (suc (place_of x (met ++ (o ∷ [])))) 0
      others x f =
          by_bool (among x met) (λ t. rw (among_snoc x o met, t, place_stays x o met t) refl) (λ g. rw (among_snoc x o met, g, f) refl)

all_zero : (n x : ℕ) → ◌≡◌ {A = ℕ} (get_or (replicate n 0) x 0) 0
all_zero zero x = refl
all_zero (suc n) zero = refl
all_zero (suc n) (suc x) = all_zero n x

pub none_numbered : (n : ℕ) (order : List ℕ) → Numbered (tally (replicate n 0) order 0) []
none_numbered n order = record { counted = refl; listed = refl; placed = all_zero n }

-- ---- What a walk adds

pub same_tally : {w : Tally} → Grows w w
same_tally = record { more = le_refl _; room = refl; past = refl }

pub one_met : {places order : List ℕ} {n o : ℕ} → Unmet places order n o → get_or places o 0 ≡ 0
    → Grows (tally places order n) (tally (set places o (n + 1)) (set order n o) (n + 1))
one_met {places} {order} {n} {o} at none =
    record {
      more = omega arith;
      room = omega (arith, one_less_unmet 256 places o n at.low at.there none);
      past = drop-set-lt (n + 1) order n o (omega arith);
    }

pub same_lists : {m : Met} → SameLists m m
same_lists = record { places = refl; order = refl }

pub lists_then : {m m₁ m₂ : Met} → SameLists m m₁ → SameLists m₁ m₂ → SameLists m m₂
lists_then a b = record { places = b.places ∙ a.places; order = b.order ∙ a.order }

drop_more : (m n : ℕ) (l k : List ℕ) → m ≤ n → drop m l ≡ drop m k → drop n l ≡ drop n k
drop_more m n l k h e =
    let more : m + (n - m) ≡ n = omega arith in
    ap (λ j. drop j l) (sym more) ∙ sym (drop-drop (n - m) m l) ∙ ap (drop (n - m)) e ∙ drop-drop (n - m) m k ∙ ap (λ j. drop j k) more

pub grows_then : {w w₁ w₂ : Tally} → Grows w w₁ → Grows w₁ w₂ → Grows w w₂
grows_then {w} {w₁} {w₂} g h =
    record {
      more = omega (arith, g.more, h.more);
      room = h.room ∙ g.room;
      past = h.past ∙ drop_more w₁.count w₂.count w₁.order w.order h.more g.past;
    }

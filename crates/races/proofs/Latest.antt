-- Row by row: a thread's last turn was handed over exactly if the first put after it came before the other's last receive; if it was, so were all before it.
use Rattle.std.proofs.Common.{ℕ, zero, suc, ◌+◌, ◌*◌, ◌≤◌, ◌<◌, zero-le, le_refl, le_trans, not-suc-le-zero, arith, ◌≡◌, refl, sym, subst, ◌∙◌, Bool, true, false, ◌&&◌, cond, List, [], ◌∷◌, ◌⊎◌, inl, inr, ltb, eqb, get_or, eqb-true, eq-eqb, lt-ltb, ltb-true, ltb-false, Option, None, Some}
use mathlib.Core.Bool.{false≢true}
use borrow.Author.Tests.{eqb-false, not-true}
use Rattle.rules.specs.Lists.{among, any_below, last_below}
use Rattle.rules.specs.Mosts.{mosts}
use Rattle.rules.specs.Script.{Program}
use Rattle.rules.specs.Races.{thread_of, puts_at, receives_at, apart, put_between, handed_over}
use Rattle.rules.proofs.ListLaws.{impossible, by_bool, and_true}
use Rattle.races.specs.declared.marks.Found.{Found}
use Rattle.races.specs.Marks.{unhanded, latest_in, latest_on, race_on, mark_of, later, over_fields, over_objects}
use Rattle.races.proofs.Lasts.{or_left, or_right, and_both, any_there, any_some, LastIs, last_agrees, last_none, last_most, last_below_lem}
use Rattle.races.proofs.Marked.{receive_mark, put_after}

-- ---- The first put after the last turn of a sort

-- turns that do it, and puts
module _ (does puts : ℕ → Bool) where
  -- a put below k, after all below k that do it
  record PutsAfter (k p : ℕ) : Type 0 where
    low : p < k
    holds : puts p ≡ true
    after : (i : ℕ) → i < k → does i ≡ true → i < p

  -- one more than the first of these, or 0
  record FirstIs (k r : ℕ) : Type 0 where
    upto : r ≤ k
    some : (p : ℕ) → r ≡ suc p → PutsAfter k p
    bound : (p : ℕ) → PutsAfter k p → (0 < r) × (r ≤ suc p)

  first_none : FirstIs 0 0
  first_none = record { upto = zero-le; some = λ p is. impossible cc; bound = λ p a. absurd (not-suc-le-zero a.low) }

  module _ (k : ℕ) where
    -- turn k does it
    first_again : does k ≡ true → FirstIs (suc k) 0
    first_again now = record {
      upto = zero-le;
      some = λ p is. impossible cc;
      bound = λ p a. let low = a.low in let past = a.after k (le_refl (suc k)) now in absurd (omega (arith, low, past));
    }

    -- it does not
    module _ (never : does k ≡ false) where
      before : (i : ℕ) → i < suc k → does i ≡ true → i < k
      before i low h = by_bool (eqb i k)
          (λ e. impossible (let same = eqb-true i k e in cc))
          (λ e. let other = eqb-false i k e in omega arith)

      longer : {p : ℕ} → PutsAfter k p → PutsAfter (suc k) p
      longer a = let low = a.low in record { low = omega arith; holds = a.holds; after = λ i low h. a.after i (before i low h) h }

      shorter : {p : ℕ} → (p ≡ k → ⊥) → PutsAfter (suc k) p → PutsAfter k p
      shorter other a = let low = a.low in record { low = omega (arith, low, other); holds = a.holds; after = λ i low h. a.after i (omega arith) h }

      first_new : puts k ≡ true → FirstIs k 0 → FirstIs (suc k) (suc k)
      first_new now F = record {
        upto = le_refl (suc k);
        some = λ p is. let same : k ≡ p = omega arith in subst (PutsAfter (suc k)) same (record { low = le_refl (suc k); holds = now; after = before });
        bound = λ p a. by_bool (eqb p k)
            (λ e. let same = eqb-true p k e in (omega arith, omega arith))
            (λ e. absurd (not-suc-le-zero (F.bound p (shorter (eqb-false p k e) a)).0));
      }

      first_stays : {r : ℕ} → (puts k ≡ true → 0 < r) → FirstIs k r → FirstIs (suc k) r
      first_stays {r} there F = let upto = F.upto in record {
        upto = omega arith;
        some = λ p is. longer (F.some p is);
        bound = λ p a. by_bool (eqb p k)
            (λ e. let same = eqb-true p k e in (there (rw (← same) a.holds), omega arith))
            (λ e. F.bound p (shorter (eqb-false p k e) a));
      }

module _ (P : Program) (ts : List ℕ) where
  module _ (A : ℕ → Bool) (n u : ℕ) where
    put_after_lem : (k : ℕ)
        → FirstIs (λ i. eqb (thread_of mosts P ts i) u && A i) (λ p. eqb (thread_of mosts P ts p) u && puts_at mosts P ts p n) k (put_after P ts A k n u)
    unfolding put_after
    put_after_lem zero = first_none (λ i. eqb (thread_of mosts P ts i) u && A i) (λ p. eqb (thread_of mosts P ts p) u && puts_at mosts P ts p n)
    put_after_lem (suc k) =
        let does : ℕ → Bool = λ i. eqb (thread_of mosts P ts i) u && A i in
        let puts : ℕ → Bool = λ p. eqb (thread_of mosts P ts p) u && puts_at mosts P ts p n in
        let r : ℕ = put_after P ts A k n u in
        by_bool (does k)
        (λ d. rw d (first_again does puts k d))
        (λ d. rw d (by_bool (puts k)
        (λ p. rw p (by_bool (eqb r 0)
        (λ e. rw e (first_new does puts k d p (subst (FirstIs does puts k) (eqb-true r 0 e) (put_after_lem k))))
        (λ e. let other = eqb-false r 0 e in rw e (first_stays does puts k d (λ h. omega (arith, other)) (put_after_lem k)))))
        (λ p. rw p (first_stays does puts k d (λ h. impossible cc) (put_after_lem k)))))

  -- ---- What was handed over

  module _ (A : ℕ → Bool) (i k n : ℕ) where
    -- the first put after the last turn, before the last receive: it is after each turn
    put_received : i < k → A i ≡ true → (r m : ℕ) → r ≡ put_after P ts A k n (thread_of mosts P ts i) → m ≡ receive_mark P ts k n (thread_of mosts P ts k)
        → 0 < r → r < m → handed_over mosts P ts i k n ≡ true
    unfolding handed_over put_between receive_mark
    put_received low does zero m first last put less = absurd (not-suc-le-zero put)
    put_received low does (suc p) zero first last put less = absurd (not-suc-le-zero less)
    put_received low does (suc p) (suc q) first last put less =
        let mine : ℕ → Bool = λ x. eqb (thread_of mosts P ts x) (thread_of mosts P ts i) && puts_at mosts P ts x n in
        let given : ℕ → Bool = λ x. eqb (thread_of mosts P ts x) (thread_of mosts P ts k) && receives_at mosts P ts x n in
        let a = (put_after_lem A n (thread_of mosts P ts i) k).some p (sym first) in
        let b = (last_below_lem given k).some q (sym last) in
        let t : ℕ = thread_of mosts P ts i in
        let later = a.after i low (and_both (eqb t t) (A i) (eq-eqb t t refl) does) in
        any_there k (λ y. given y && any_below y (λ x. ltb i x && mine x)) q b.0
        (and_both (given q) (any_below q (λ x. ltb i x && mine x)) b.1
        (any_there q (λ x. ltb i x && mine x) p (omega arith) (and_both (ltb i p) (mine p) (lt-ltb i p later) a.holds)))

    -- where turn i is the last
    handed_over_lem : last_below k (λ j. eqb (thread_of mosts P ts j) (thread_of mosts P ts i) && A j) ≡ suc i → handed_over mosts P ts i k n ≡ true
        → (0 < put_after P ts A k n (thread_of mosts P ts i))
        × (put_after P ts A k n (thread_of mosts P ts i) < receive_mark P ts k n (thread_of mosts P ts k))
    unfolding handed_over put_between receive_mark
    handed_over_lem last over =
        let does : ℕ → Bool = λ x. eqb (thread_of mosts P ts x) (thread_of mosts P ts i) && A x in
        let mine : ℕ → Bool = λ x. eqb (thread_of mosts P ts x) (thread_of mosts P ts i) && puts_at mosts P ts x n in
        let given : ℕ → Bool = λ x. eqb (thread_of mosts P ts x) (thread_of mosts P ts k) && receives_at mosts P ts x n in
        let q = any_some k (λ y. given y && any_below y (λ x. ltb i x && mine x)) over in
        let b = and_true (given q.place) (any_below q.place (λ x. ltb i x && mine x)) q.holds in
        let p = any_some q.place (λ x. ltb i x && mine x) b.1 in
        let a = and_true (ltb i p.place) (mine p.place) p.holds in
        let later = ltb-true i p.place a.0 in
        let p< = p.low in
        let q< = q.low in
        let first = (put_after_lem A n (thread_of mosts P ts i) k).bound p.place (record {
          low = omega (arith, p<, q<);
          holds = a.1;
          after = λ j low h. let upto : suc j ≤ suc i = rw last at ((last_below_lem does k).bound j low h) in omega (arith, upto, later);
        }) in
        let upto = first.1 in
        let received = (last_below_lem given k).bound q.place q.low b.0 in
        (first.0, omega (arith, upto, p<, received))

  -- ---- The last turn of a row

  -- turn i is of another thread than turn k, does it, and the object was not handed over
  pub record Against (i k n : ℕ) (b : Bool) : Type 0 where
    pub other : apart mosts P ts i k ≡ true
    pub kept : handed_over mosts P ts i k n ≡ false
    pub does : b ≡ true

  module _ (A : ℕ → Bool) (k n : ℕ) where
    of_thread : (u : ℕ) → LastIs k (λ i. (thread_of mosts P ts i ≡ u) × Against i k n (A i))
        (cond (eqb u (thread_of mosts P ts k)) 0
        (unhanded (last_below k (λ i. eqb (thread_of mosts P ts i) u && A i)) (put_after P ts A k n u) (receive_mark P ts k n (thread_of mosts P ts k))))
    unfolding apart
    of_thread u =
        let t : ℕ = thread_of mosts P ts k in
        let m : ℕ = receive_mark P ts k n t in
        let L = last_below_lem (λ i. eqb (thread_of mosts P ts i) u && A i) k in
        by_bool (eqb u t)
        (λ e. rw e (last_none (λ i low h.
        eqb-false (thread_of mosts P ts i) t (not-true (eqb (thread_of mosts P ts i) t) h.1.other) (h.0 ∙ eqb-true u t e))))
        (λ e. rw e (by_bool (ltb 0 (put_after P ts A k n u) && ltb (put_after P ts A k n u) m)
        (λ l. rw l (last_none (λ i low h.
        let v : ℕ = thread_of mosts P ts i in
        let r : ℕ = put_after P ts A k n v in
        let both = and_true (ltb 0 r) (ltb r m) (subst (λ w. (ltb 0 (put_after P ts A k n w) && ltb (put_after P ts A k n w) m) ≡ true) (sym h.0) l) in
        false≢true (sym h.1.kept
        ∙ put_received A i k n low h.1.does r m refl refl (ltb-true 0 r both.0) (ltb-true r m both.1)))))
        (λ l. rw l (record {
          some = λ i is.
              let v : ℕ = thread_of mosts P ts i in
              let p = L.some i is in
              let q = and_true (eqb v u) (A i) p.1 in
              let mine = eqb-true v u q.0 in (
                p.0,
                (
                  mine,
                  record {
                    other = rw (mine, e);
                    kept = by_bool (handed_over mosts P ts i k n)
                        (λ over.
                        let r : ℕ = put_after P ts A k n v in
                        let both = handed_over_lem A i k n (subst (λ w. last_below k (λ j. eqb (thread_of mosts P ts j) w && A j) ≡ suc i) (sym mine) is) over in
                        let is-handed = and_both (ltb 0 r) (ltb r m) (lt-ltb 0 r both.0) (lt-ltb r m both.1) in
                        absurd (false≢true (sym l ∙ subst (λ w. (ltb 0 (put_after P ts A k n w) && ltb (put_after P ts A k n w) m) ≡ true) mine is-handed)))
                        (λ over. over);
                    does = q.1;
                  },
                ),
              );
          bound = λ i low h.
              L.bound i low (and_both (eqb (thread_of mosts P ts i) u) (A i) (eq-eqb (thread_of mosts P ts i) u h.0) h.1.does);
        }))))

    module _ (ws puts : List ℕ) (a : ℕ)
        (row : (u : ℕ) → u < 16 → get_or ws (a * 16 + u) 0 ≡ last_below k (λ i. eqb (thread_of mosts P ts i) u && A i))
        (first : (u : ℕ) → u < 16 → get_or puts (a * 16 + u) 0 ≡ put_after P ts A k n u) where
      pub latest_is : (c : ℕ) → c ≤ 16
          → LastIs k (λ i. (thread_of mosts P ts i < c) × Against i k n (A i))
          (latest_in ws puts a (receive_mark P ts k n (thread_of mosts P ts k)) (thread_of mosts P ts k) c)
      unfolding latest_in
      latest_is zero few = last_none (λ i low h. not-suc-le-zero h.0)
      latest_is (suc c) few = rw (row c few, first c few) (last_agrees (last_most (latest_is c (omega arith)) (of_thread c)) to from)
        where
          to : (i : ℕ) → i < k → ((thread_of mosts P ts i < c) × Against i k n (A i)) ⊎ ((thread_of mosts P ts i ≡ c) × Against i k n (A i))
              → (thread_of mosts P ts i < suc c) × Against i k n (A i)
          to i low (inl h) = let less = h.0 in (omega (arith, less), h.1)
          to i low (inr h) = let same = h.0 in (omega (arith, same), h.1)

          from : (i : ℕ) → i < k → (thread_of mosts P ts i < suc c) × Against i k n (A i)
              → ((thread_of mosts P ts i < c) × Against i k n (A i)) ⊎ ((thread_of mosts P ts i ≡ c) × Against i k n (A i))
          from i low h = by_bool (eqb (thread_of mosts P ts i) c)
              (λ e. inr (eqb-true (thread_of mosts P ts i) c e, h.1))
              (λ e. let other = eqb-false (thread_of mosts P ts i) c e in let less = h.0 in inl (omega (arith, less, other), h.1))

-- ---- The latest over the fields of objects

abbrev pub found_object : Option Found → ℕ
found_object None = 0
found_object (Some F) = F.object

abbrev pub found_field : Option Found → ℕ
found_field None = 0
found_field (Some F) = F.field

-- what is found has a property, if it is anything
pub record Finds (Q : (turn object field : ℕ) → Type 0) (F : Option Found) : Type 0 where
  pub has : (i : ℕ) → mark_of F ≡ suc i → Q i (found_object F) (found_field F)

pub none_finds : {Q : (turn object field : ℕ) → Type 0} → Finds Q None
none_finds = record { has = λ i is. impossible cc }

pub race_finds : {Q : (turn object field : ℕ) → Type 0} (m n f : ℕ) → ((i : ℕ) → m ≡ suc i → Q i n f) → Finds Q (race_on m n f)
race_finds zero n f each = record { has = λ i is. impossible cc }
race_finds (suc m) n f each = record { has = each }

pub race_mark : (m n f : ℕ) → mark_of (race_on m n f) ≡ m
race_mark zero n f = refl
race_mark (suc m) n f = refl

either : {A : Type 0} (Q : A → Type 0) (b : Bool) (x y : A) → Q x → Q y → Q (cond b x y)
either Q true x y p q = p
either Q false x y p q = q

later_upto : (F G : Option Found) → (mark_of F ≤ mark_of (later F G)) × (mark_of G ≤ mark_of (later F G))
later_upto F G = by_bool (ltb (mark_of F) (mark_of G))
    (λ e. let less = ltb-true (mark_of F) (mark_of G) e in rw e (omega arith, le_refl (mark_of G)))
    (λ e. rw e (le_refl (mark_of F), ltb-false (mark_of F) (mark_of G) e))

-- the mark of a field is in what is found then
race_upto : (F : Option Found) (m n f : ℕ) → (mark_of F ≤ mark_of (later F (race_on m n f))) × (m ≤ mark_of (later F (race_on m n f)))
race_upto F m n f = let upto = later_upto F (race_on m n f) in (upto.0, subst (λ k. k ≤ mark_of (later F (race_on m n f))) (race_mark m n f) upto.1)

module _ (swaps puts receives : List ℕ) (t : ℕ) where
  fields_upto : (n : ℕ) (F : Option Found) (c : ℕ) → mark_of F ≤ mark_of (over_fields swaps puts receives t n F c)
  unfolding over_fields
  fields_upto n F zero = le_refl (mark_of F)
  fields_upto n F (suc c) = le_trans (fields_upto n F c) (race_upto (over_fields swaps puts receives t n F c) (latest_on swaps puts receives t n c) n c).0

  fields_cover : (n : ℕ) (F : Option Found) (c f : ℕ) → f < c → latest_on swaps puts receives t n f ≤ mark_of (over_fields swaps puts receives t n F c)
  unfolding over_fields
  fields_cover n F zero f low = absurd (not-suc-le-zero low)
  fields_cover n F (suc c) f low =
      let upto = race_upto (over_fields swaps puts receives t n F c) (latest_on swaps puts receives t n c) n c in
      by_bool (eqb f c)
      (λ e. rw (eqb-true f c e) upto.1)
      (λ e. let other = eqb-false f c e in le_trans (fields_cover n F c f (omega arith)) upto.0)

  objects_upto : (F : Option Found) (ns : List ℕ) → mark_of F ≤ mark_of (over_objects swaps puts receives t F ns)
  unfolding over_objects
  objects_upto F [] = le_refl (mark_of F)
  objects_upto F (n ∷ ns) = le_trans (fields_upto n F 4) (objects_upto (over_fields swaps puts receives t n F 4) ns)

  pub objects_cover : (F : Option Found) (ns : List ℕ) (n f : ℕ) → among n ns ≡ true → f < 4
      → latest_on swaps puts receives t n f ≤ mark_of (over_objects swaps puts receives t F ns)
  unfolding over_objects
  objects_cover F [] n f h low = absurd (false≢true h)
  objects_cover F (x ∷ ns) n f h low = by_bool (eqb n x)
      (λ e. rw (eqb-true n x e) (le_trans (fields_cover x F 4 f low) (objects_upto (over_fields swaps puts receives t x F 4) ns)))
      (λ e. objects_cover (over_fields swaps puts receives t x F 4) ns n f (rw e at h) low)

  module _ (Q : (turn object field : ℕ) → Type 0) where
    fields_find : (n : ℕ) (F : Option Found) (c : ℕ) → Finds Q F → ((i f : ℕ) → f < c → latest_on swaps puts receives t n f ≡ suc i → Q i n f)
        → Finds Q (over_fields swaps puts receives t n F c)
    unfolding over_fields
    fields_find n F zero finds each = finds
    fields_find n F (suc c) finds each =
        let before = over_fields swaps puts receives t n F c in
        let this = race_on (latest_on swaps puts receives t n c) n c in
        either (Finds Q) (ltb (mark_of before) (mark_of this)) this before
        (race_finds (latest_on swaps puts receives t n c) n c (λ i is. each i c (le_refl (suc c)) is))
        (fields_find n F c finds (λ i f low. each i f (omega arith)))

    pub objects_find : (F : Option Found) (ns : List ℕ) → Finds Q F → ((i n f : ℕ) → among n ns ≡ true → f < 4 → latest_on swaps puts receives t n f ≡ suc i → Q i n f)
        → Finds Q (over_objects swaps puts receives t F ns)
    unfolding over_objects
    objects_find F [] finds each = finds
    objects_find F (n ∷ ns) finds each =
        objects_find (over_fields swaps puts receives t n F 4) ns
        (fields_find n F 4 finds (λ i f. each i n f (or_left (eqb n n) (among n ns) (eq-eqb n n refl))))
        (λ i x f h. each i x f (or_right (eqb x n) (among x ns) h))

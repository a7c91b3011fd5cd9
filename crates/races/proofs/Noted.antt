-- What is found is the last turn that races with this one: it races only with a swap, or swaps against a read, and a swap names one field of one object.
use Rattle.std.proofs.Common.{ℕ, suc, ◌+◌, ◌*◌, ◌≤◌, ◌<◌, le_refl, le_trans, ◌≡◌, refl, sym, ap, subst, ◌∙◌, Bool, true, false, ◌&&◌, ◌||◌, List, [], ◌∷◌, ◌⊎◌, inl, inr, ⊎_elim, eqb, get_or, eqb-true, eq-eqb, Option, None}
use mathlib.Core.Bool.{false≢true, or-false}
use borrow.Author.Tests.{not-true}
use Rattle.rules.specs.declared.Event.{Event}
use Rattle.rules.specs.declared.Event.TheVariants.{Quiet, Reads, Swaps, Puts, Receives, Copies}
use Rattle.rules.specs.Mosts.{mosts}
use Rattle.rules.specs.Lists.{among, any_below, last_below, Every}
use Rattle.rules.specs.State.{Object}
use Rattle.rules.specs.Script.{Program}
use Rattle.rules.specs.Races.{meets, reads_of, swaps_of, objects_at, thread_of, event_at, reads_at, swaps_at, apart, touches, clash, handed_over, races_on, races, race, object_of, field_on, named}
use Rattle.rules.proofs.ListLaws.{by_bool, and_true}
use Rattle.races.specs.declared.marks.Found.{Found}
use Rattle.races.specs.declared.marks.Marks.{Marks}
use Rattle.races.specs.Marks.{field_at, most, latest_on, race_on, mark_of, over_objects, Notes}
use Rattle.races.proofs.Lasts.{or_right, any_there, any_some, first_is, LastIs, last_same, last_agrees, last_most, last_below_lem}
use Rattle.races.proofs.Marked.{read_mark, swap_mark, put_after, low_part, HasMarks, TurnIs, reads_is, swaps_is, met_is}
use Rattle.races.proofs.Latest.{Against, latest_is, found_object, found_field, Finds, none_finds, race_finds, race_mark, objects_cover, objects_find}

-- ---- One swap names one field of one object

swap_names : (os : List Object) (e : Event) (n f n' f' : ℕ) → swaps_of e n f ≡ true → (reads_of os e n' f' || swaps_of e n' f') ≡ true → (n' ≡ n) × (f' ≡ f)
swap_names os Quiet n f n' f' swaps touches = absurd (false≢true swaps)
swap_names os (Reads x g) n f n' f' swaps touches = absurd (false≢true swaps)
swap_names os (Swaps x g) n f n' f' swaps touches =
    let a = and_true (eqb x n) (eqb g f) swaps in
    let b = and_true (eqb x n') (eqb g f') touches in
    (sym (eqb-true x n' b.0) ∙ eqb-true x n a.0, sym (eqb-true g f' b.1) ∙ eqb-true g f a.1)
swap_names os (Puts x) n f n' f' swaps touches = absurd (false≢true swaps)
swap_names os (Receives x) n f n' f' swaps touches = absurd (false≢true swaps)
swap_names os (Copies x) n f n' f' swaps touches = absurd (false≢true swaps)

among_low : (n : ℕ) (ns : List ℕ) → Every (λ x. x < 256) ns → among n ns ≡ true → n < 256
among_low n [] low h = absurd (false≢true h)
among_low n (x ∷ ns) low h = by_bool (eqb n x) (λ e. rw (eqb-true n x e) low.0) (λ e. among_low n ns low.1 (rw e at h))

module _ (P : Program) (ts : List ℕ) where
  -- ---- Turn i races with turn k on a field

  swap_races : (i k n f : ℕ) → Against P ts i k n (swaps_at mosts P ts i n f) → touches mosts P ts k n f ≡ true → races_on mosts P ts i k n f ≡ true
  unfolding races_on clash touches
  swap_races i k n f a touched =
      rw (a.other, a.kept, a.does, touched, or_right (reads_at mosts P ts i n f) true refl)

  read_races : (i k n f : ℕ) → Against P ts i k n (reads_at mosts P ts i n f) → swaps_at mosts P ts k n f ≡ true → races_on mosts P ts i k n f ≡ true
  unfolding races_on clash touches
  read_races i k n f a swapped =
      rw (a.other, a.kept, a.does, swapped, or_right (reads_at mosts P ts k n f) true refl, or_right (swaps_at mosts P ts i n f) true refl)

  record Meeting (i k n f : ℕ) : Type 0 where
    first : touches mosts P ts i n f ≡ true
    second : touches mosts P ts k n f ≡ true
    sort : Against P ts i k n (swaps_at mosts P ts i n f) ⊎ (Against P ts i k n (reads_at mosts P ts i n f) × (swaps_at mosts P ts k n f ≡ true))

  race_tells : (i k n f : ℕ) → races_on mosts P ts i k n f ≡ true → Meeting i k n f
  unfolding races_on clash touches
  race_tells i k n f h =
      let a = and_true (apart mosts P ts i k) _ h in
      let b = and_true (clash mosts P ts i k n f) _ a.1 in
      let c = and_true (touches mosts P ts i n f) _ b.0 in
      let d = and_true (touches mosts P ts k n f) _ c.1 in
      let kept = not-true (handed_over mosts P ts i k n) b.1 in
      record {
        first = c.0;
        second = d.0;
        sort = by_bool (swaps_at mosts P ts i n f)
            (λ s. inl (record { other = a.0; kept = kept; does = s }))
            (λ s. inr (
              record { other = a.0; kept = kept; does = sym (or-false (reads_at mosts P ts i n f)) ∙ (rw s at c.0) },
              rw s at d.1,
            ));
      }

  swap_alone : (k n f n' f' : ℕ) → swaps_at mosts P ts k n f ≡ true → touches mosts P ts k n' f' ≡ true → (n' ≡ n) × (f' ≡ f)
  unfolding touches reads_at swaps_at
  swap_alone k n f n' f' = swap_names (objects_at mosts P ts k) (event_at mosts P ts k) n f n' f'

  -- the field and the object are one
  race_on_one : (i k n f n' f' : ℕ) → races_on mosts P ts i k n f ≡ true → races_on mosts P ts i k n' f' ≡ true → (n' ≡ n) × (f' ≡ f)
  race_on_one i k n f n' f' h h' =
      let other = race_tells i k n' f' h' in
      ⊎_elim (λ a. swap_alone i n f n' f' a.does other.first) (λ a. swap_alone k n f n' f' a.1 other.second) (race_tells i k n f h).sort

  -- ---- What is told of turn k: the last turn before it that it races with, and on what

  record RacesAt (i k n f : ℕ) : Type 0 where
    earlier : i < k
    object_low : n < 256
    field_low : f < 4
    both : races_on mosts P ts i k n f ≡ true

  record Tells (k : ℕ) (F : Option Found) : Type 0 where
    finds : Finds (λ i n f. RacesAt i k n f) F
    bound : (i n f : ℕ) → RacesAt i k n f → suc i ≤ mark_of F

  races_if : (i k n f : ℕ) → RacesAt i k n f → races mosts P ts i k ≡ true
  unfolding races
  races_if i k n f at =
      any_there 256 (λ x. any_below 4 (races_on mosts P ts i k x)) n at.object_low (any_there 4 (races_on mosts P ts i k n) f at.field_low at.both)

  tells_last : {k : ℕ} {F : Option Found} → Tells k F → last_below k (λ i. races mosts P ts i k) ≡ mark_of F
  unfolding races
  tells_last {k} {F} tells = last_same (last_below_lem (λ i. races mosts P ts i k) k) (record {
    some = λ i is. let at = tells.finds.has i is in (at.earlier, races_if i k (found_object F) (found_field F) at);
    bound = λ i low h.
        let n = any_some 256 (λ x. any_below 4 (races_on mosts P ts i k x)) h in
        let f = any_some 4 (races_on mosts P ts i k n.place) n.holds in
        tells.bound i n.place f.place (record { earlier = low; object_low = n.low; field_low = f.low; both = f.holds });
  })

  race_names : (i k n f : ℕ) → RacesAt i k n f → (object_of mosts P ts i k ≡ n) × (field_on mosts P ts i k n ≡ f)
  unfolding object_of field_on
  race_names i k n f at = (
    first_is 256 (λ x. any_below 4 (races_on mosts P ts i k x)) n at.object_low (any_there 4 (races_on mosts P ts i k n) f at.field_low at.both)
        (λ x low h. let g = any_some 4 (races_on mosts P ts i k x) h in (race_on_one i k n f x g.place at.both g.holds).0),
    first_is 4 (races_on mosts P ts i k n) f at.field_low at.both (λ g low h. (race_on_one i k n f n g at.both h).1),
  )

  tells_named : {k : ℕ} {F : Option Found} → Tells k F → (i : ℕ) → mark_of F ≡ suc i → named mosts P ts k (mark_of F) ≡ race i k (found_object F) (found_field F)
  tells_named {k} {F} tells i is =
      let names = race_names i k (found_object F) (found_field F) (tells.finds.has i is) in
      ap (named mosts P ts k) is ∙ rw (names.0, names.1)

  -- where turn k touches no field
  touches_none : (k : ℕ) → ((n f : ℕ) → touches mosts P ts k n f ≡ false) → Tells k None
  touches_none k none = record {
    finds = none_finds;
    bound = λ i n f at. absurd (false≢true (sym (none n f) ∙ (race_tells i k n f at.both).second));
  }

  -- ---- The last turns by the marks

  module _ (k : ℕ) {M : Marks} (has : HasMarks P ts k M) {t : ℕ} (mine : thread_of mosts P ts k ≡ t) (t< : t < 16)
      (few : (i : ℕ) → i < k → (event_at mosts P ts i ≡ Quiet) ⊎ (thread_of mosts P ts i < 16)) where
    -- of a turn that does something
    few_threads : (b : ℕ → Bool) (i : ℕ) → i < k → (event_at mosts P ts i ≡ Quiet → b i ≡ false) → b i ≡ true → thread_of mosts P ts i < 16
    few_threads b i low quiet h = ⊎_elim (λ is. absurd (false≢true (sym (quiet is) ∙ h))) (λ less. less) (few i low)

    module _ (n f : ℕ) (n< : n < 256) (f< : f < 4) where
      latest_of : (does : ℕ → Bool) (ws puts : List ℕ)
          → ((u : ℕ) → u < 16 → get_or ws (field_at n f u) 0 ≡ last_below k (λ i. eqb (thread_of mosts P ts i) u && does i))
          → ((u : ℕ) → u < 16 → get_or puts (field_at n f u) 0 ≡ put_after P ts does k n u)
          → ((i : ℕ) → event_at mosts P ts i ≡ Quiet → does i ≡ false)
          → LastIs k (λ i. Against P ts i k n (does i)) (latest_on ws puts M.receives t n f)
      latest_of does ws puts row first quiet =
          rw (has.receives n t n< t<, ← mine) (last_agrees (latest_is P ts does k n ws puts (n * 4 + f) row first 16 (le_refl 16))
          (λ i low h. h.1)
          (λ i low h. (few_threads does i low (quiet i) h.does, h)))

      latest_swap : LastIs k (λ i. Against P ts i k n (swaps_at mosts P ts i n f)) (latest_on M.swaps.last M.swaps.puts M.receives t n f)
      unfolding swap_mark
      latest_swap = latest_of (λ i. swaps_at mosts P ts i n f) M.swaps.last M.swaps.puts (λ u. has.swaps n f u n< f<) (λ u. has.swap_puts n f u n< f<)
          (λ i is. swaps_is P ts i is n f)

      latest_read : LastIs k (λ i. Against P ts i k n (reads_at mosts P ts i n f)) (latest_on M.reads.last M.reads.puts M.receives t n f)
      unfolding read_mark
      latest_read = latest_of (λ i. reads_at mosts P ts i n f) M.reads.last M.reads.puts (λ u. has.reads n f u n< f<) (λ u. has.read_puts n f u n< f<)
          (λ i is. reads_is P ts i is n f)

    -- ---- By what turn k does

    -- it touches one field of one object
    module _ (x g : ℕ) (x< : x < 256) (g< : g < 4) (does : (n f : ℕ) → touches mosts P ts k n f ≡ (eqb x n && eqb g f)) where
      there : touches mosts P ts k x g ≡ true
      there = does x g ∙ rw (eq-eqb x x refl, eq-eqb g g refl)

      touches_one : (r : ℕ) → LastIs k (λ i. races_on mosts P ts i k x g ≡ true) r → Tells k (race_on r x g)
      touches_one r last = record {
        finds = race_finds r x g (λ i is. let p = last.some i is in record { earlier = p.0; object_low = x<; field_low = g<; both = p.1 });
        bound = λ i n f at.
            let p = and_true (eqb x n) (eqb g f) (sym (does n f) ∙ (race_tells i k n f at.both).second) in
            rw (race_mark r x g) (last.bound i at.earlier (rw (eqb-true x n p.0, eqb-true g f p.1) at.both));
      }

      reads_one : swaps_at mosts P ts k x g ≡ false → Tells k (race_on (latest_on M.swaps.last M.swaps.puts M.receives t x g) x g)
      reads_one never = touches_one (latest_on M.swaps.last M.swaps.puts M.receives t x g) (last_agrees (latest_swap x g x< g<)
          (λ i low a. swap_races i k x g a there)
          (λ i low h. ⊎_elim (λ a. a) (λ a. absurd (false≢true (sym never ∙ a.1))) (race_tells i k x g h).sort))

      swaps_one : swaps_at mosts P ts k x g ≡ true
          → Tells k (race_on (most (latest_on M.swaps.last M.swaps.puts M.receives t x g) (latest_on M.reads.last M.reads.puts M.receives t x g)) x g)
      swaps_one swapped =
          touches_one (most (latest_on M.swaps.last M.swaps.puts M.receives t x g) (latest_on M.reads.last M.reads.puts M.receives t x g))
          (last_agrees (last_most (latest_swap x g x< g<) (latest_read x g x< g<))
          (λ i low. ⊎_elim (λ a. swap_races i k x g a there) (λ a. read_races i k x g a swapped))
          (λ i low h. ⊎_elim inl (λ a. inr a.0) (race_tells i k x g h).sort))

    -- it reads all fields of these objects
    reads_all : (objects : List ℕ) → Every (λ n. n < 256) objects → ((n f : ℕ) → touches mosts P ts k n f ≡ among n objects)
        → ((n f : ℕ) → swaps_at mosts P ts k n f ≡ false) → Tells k (over_objects M.swaps.last M.swaps.puts M.receives t None objects)
    reads_all objects low does never = record {
      finds = objects_find M.swaps.last M.swaps.puts M.receives t (λ i n f. RacesAt i k n f) None objects none_finds
          (λ i n f met f< is.
          let n< = among_low n objects low met in
          let p = (latest_swap n f n< f<).some i is in
          record { earlier = p.0; object_low = n<; field_low = f<; both = swap_races i k n f p.1 (does n f ∙ met) });
      bound = λ i n f at.
          let m = race_tells i k n f at.both in
          ⊎_elim
          (λ a. le_trans ((latest_swap n f at.object_low at.field_low).bound i at.earlier a)
          (objects_cover M.swaps.last M.swaps.puts M.receives t None objects n f (sym (does n f) ∙ m.second) at.field_low))
          (λ a. absurd (false≢true (sym (never n f) ∙ a.1)))
          m.sort;
    }

  touches_is : (k : ℕ) {e : Event} → event_at mosts P ts k ≡ e → (n f : ℕ) → touches mosts P ts k n f ≡ (reads_of (objects_at mosts P ts k) e n f || swaps_of e n f)
  unfolding touches
  touches_is k is n f = rw (reads_is P ts k is n f, swaps_is P ts k is n f)

  noted_tells : (e : Event) {k : ℕ} {M : Marks} (M₁ : Marks) {objects : List ℕ} {t : ℕ} {F : Option Found}
      → HasMarks P ts k M → TurnIs P ts k e objects t
      → ((i : ℕ) → i < k → (event_at mosts P ts i ≡ Quiet) ⊎ (thread_of mosts P ts i < 16))
      → Notes e objects t (suc k) M M₁ F → Tells k F
  unfolding meets
  noted_tells Quiet {k} M₁ has turn few notes = subst (Tells k) (sym notes.1) (touches_none k (touches_is k turn.event))
  noted_tells (Reads x g) {k} M₁ has turn few notes = subst (Tells k) (sym (notes.1 ∙ rw (low_part g turn.field_low)))
      (reads_one k has turn.thread turn.thread_low few x g turn.object_low turn.field_low
      (λ n f. touches_is k turn.event n f ∙ or-false (eqb x n && eqb g f)) (swaps_is P ts k turn.event x g))
  noted_tells (Swaps x g) {k} M₁ has turn few notes = subst (Tells k) (sym (notes.1 ∙ rw (low_part g turn.field_low)))
      (swaps_one k has turn.thread turn.thread_low few x g turn.object_low turn.field_low
      (touches_is k turn.event) (swaps_is P ts k turn.event x g ∙ rw (eq-eqb x x refl, eq-eqb g g refl)))
  noted_tells (Puts x) {k} M₁ has turn few notes = subst (Tells k) (sym notes.5) (touches_none k (touches_is k turn.event))
  noted_tells (Receives x) {k} M₁ has turn few notes = subst (Tells k) (sym notes.3) (touches_none k (touches_is k turn.event))
  noted_tells (Copies x) {k} M₁ {objects} has turn few notes = subst (Tells k) (sym notes.4)
      (reads_all k has turn.thread turn.thread_low few objects turn.met_low
      (λ n f. touches_is k turn.event n f ∙ or-false _ ∙ met_is P ts turn n) (swaps_is P ts k turn.event))

  -- ---- What is noted of a turn tells what it races with

  pub quiet_no_race : (k : ℕ) → event_at mosts P ts k ≡ Quiet → last_below k (λ i. races mosts P ts i k) ≡ 0
  quiet_no_race k is = tells_last (touches_none k (touches_is k is))

  module _ (e : Event) {k : ℕ} {M : Marks} (M₁ : Marks) {objects : List ℕ} {t : ℕ} (F : Option Found) (has : HasMarks P ts k M) (turn : TurnIs P ts k e objects t)
      (few : (i : ℕ) → i < k → (event_at mosts P ts i ≡ Quiet) ⊎ (thread_of mosts P ts i < 16)) (notes : Notes e objects t (suc k) M M₁ F) where
    pub noted_race : last_below k (λ i. races mosts P ts i k) ≡ mark_of F
    noted_race = tells_last (noted_tells e M₁ has turn few notes)

    pub noted_named : (i : ℕ) → mark_of F ≡ suc i → named mosts P ts k (mark_of F) ≡ race i k (found_object F) (found_field F)
    noted_named = tells_named (noted_tells e M₁ has turn few notes)

-- No run of a program in which no K is unsafe has a race: what turn i reads or swaps its thread alone reaches, if it is not imm; no other thread comes to
-- reach it before the thread puts it, and then none that does not receive it.
use Prim.Native.Nat.{ℕ, zero, suc, ◌≤◌, ◌<◌}
use native.Mathlib.Omega.{arith}
use mathlib.Core.Path.{◌≡◌, refl, sym, ap, ◌∙◌, subst, subst⁻¹}
use mathlib.Core.Bool.{Bool, true, false, not, ◌&&◌, ◌||◌, false≢true}
use mathlib.Core.List.{List, [], ◌∷◌}
use mathlib.Core.Logic.{◌⊎◌, inl, inr, ◌↔◌}
use lib.Dec.{ltb, eqb}
use lib.ListN.{length, get_or, take}
use borrow.Author.Tests.{eqb-true, eq-eqb, eqb-false, lt-ltb, not-true}
use Rattle.rules.specs.declared.Value.TheVariants.{Obj}
use Rattle.rules.specs.declared.Event.{Event}
use Rattle.rules.specs.declared.Event.TheVariants.{Quiet, Reads, Swaps, Puts, Receives, Copies}
use Rattle.rules.specs.declared.Mosts.{Mosts}
use Rattle.rules.specs.Mosts as Most
use Rattle.rules.specs.Lists.{any_below, last_below}
use Rattle.rules.specs.Script.{Program}
use Rattle.rules.specs.State.{Object, State, object_at}
use Rattle.rules.specs.Turn.{Res, ok, wait, stop, is_imm, turn}
use Rattle.rules.specs.Run.{Stop, none, stopped, Run, fresh, after, advance, run_from, run}
use Rattle.rules.specs.Races.{event, if_moves, meets, reads_of, swaps_of, puts_of, receives_of, run_before, objects_at, event_at, reads_at, swaps_at, puts_at, receives_at, apart, touches, clash, put_between, handed_over, races_on, races, norace, verdict_of, verdict}
use Rattle.rules.specs.Valid.{Valid}
use Rattle.rules.specs.Reach.{count, Reaches, here}
use Rattle.theorems.specs.InFlight.{state_at}
use Rattle.theorems.specs.NoUnsafe.{Tame}
use Rattle.theorems.specs.Separation.{Root, aThread, aChannel, ReachedBy}
use Rattle.rules.proofs.ListLaws.{impossible, by_bool, and_true}
use Rattle.rules.proofs.Counts.{object_self, object_equal, times_among, among_times}
use Rattle.rules.proofs.Walks.{met_reached}
use Rattle.rules.proofs.Runs.{step, run_one_more}
use Rattle.theorems.proofs.Roots.{same_or_not, holds_reached, root_reached_range}
use Rattle.theorems.proofs.RootSteps.{Touched, Change, only_less, one_put, one_taken, Good}
use Rattle.theorems.proofs.Separations.{turn_stepped, good_at}

-- ---- Tests

or_true : (a b : Bool) → (a || b) ≡ true → (a ≡ true) ⊎ (b ≡ true)
or_true true b h = inl refl
or_true false b h = inr h

below_some : (f : ℕ → Bool) (n k : ℕ) → k < n → f k ≡ true → any_below n f ≡ true
unfolding any_below
below_some f zero k low h = absurd (omega arith)
below_some f (suc n) k low h =
    elim (same_or_not k n) [
      | inl same ↦ by_bool (any_below n f) (λ e. rw e) (λ e. rw (e, ← same) h)
      | inr other ↦ rw (below_some f n k (omega arith) h)
    ]

below_none : (f : ℕ → Bool) (n : ℕ) → ((k : ℕ) → k < n → f k ≡ false) → any_below n f ≡ false
unfolding any_below
below_none f zero fails = refl
below_none f (suc n) fails = rw (below_none f n (λ k low. fails k (omega arith))) (fails n (omega arith))

last_none : (f : ℕ → Bool) (n : ℕ) → ((k : ℕ) → k < n → f k ≡ false) → last_below n f ≡ 0
unfolding last_below
last_none f zero fails = refl
last_none f (suc n) fails = rw (fails n (omega arith)) (last_none f n (λ k low. fails k (omega arith)))

-- "reached": the walk from object n meets x exactly if x is reached from it
pub meets_reached : (os : List Object) (n x : ℕ) → (meets os n x ≡ true) ↔ Reaches os n x
unfolding meets count
meets_reached os n x = (
  (λ h. let r = (met_reached os (Obj n ∷ []) x).0 (times_among x _ h) in rw (object_equal r.first n (omega (arith, r.held))) r.reaches),
  (λ r. among_times x _ ((met_reached os (Obj n ∷ []) x).1 (record { first = n; held = omega (arith, object_self n); reaches = r }))),
)

-- ---- What an event is to an object

same_field : (x n g f : ℕ) → (eqb x n && eqb g f) ≡ true → x ≡ n
same_field x n g f h = eqb-true x n (and_true (eqb x n) (eqb g f) h).0

module _ (S : State) (t : ℕ) where
  reads_reached : (e : Event) (n f : ℕ) → Touched S t e → reads_of S.objects e n f ≡ true → ReachedBy S (aThread t) n
  reads_reached Quiet n f touched h = absurd (false≢true h)
  reads_reached (Reads x g) n f touched h = holds_reached S (aThread t) x n touched (here (same_field x n g f h))
  reads_reached (Swaps x g) n f touched h = absurd (false≢true h)
  reads_reached (Puts x) n f touched h = absurd touched
  reads_reached (Receives x) n f touched h = absurd touched
  reads_reached (Copies x) n f touched h = holds_reached S (aThread t) x n touched ((meets_reached S.objects x n).0 h)

  swaps_reached : (e : Event) (n f : ℕ) → Touched S t e → swaps_of e n f ≡ true → ReachedBy S (aThread t) n × (is_imm (object_at S.objects n).cap ≡ false)
  swaps_reached Quiet n f touched h = absurd (false≢true h)
  swaps_reached (Reads x g) n f touched h = absurd (false≢true h)
  swaps_reached (Swaps x g) n f touched h =
      let same = same_field x n g f h in
      (holds_reached S (aThread t) x n touched.0 (here same), subst (λ i. is_imm (object_at S.objects i).cap ≡ false) same touched.1)
  swaps_reached (Puts x) n f touched h = absurd touched
  swaps_reached (Receives x) n f touched h = absurd touched
  swaps_reached (Copies x) n f touched h = absurd (false≢true h)

-- an event that reads or swaps puts nothing, and one that puts receives nothing
touches_puts_none : (os : List Object) (e : Event) (n f : ℕ) → (reads_of os e n f || swaps_of e n f) ≡ true → puts_of os e n ≡ true → ⊥
touches_puts_none os Quiet n f h put = false≢true h
touches_puts_none os (Reads x g) n f h put = false≢true put
touches_puts_none os (Swaps x g) n f h put = false≢true put
touches_puts_none os (Puts x) n f h put = false≢true h
touches_puts_none os (Receives x) n f h put = false≢true h
touches_puts_none os (Copies x) n f h put = false≢true put

puts_receives_none : (os : List Object) (e : Event) (n : ℕ) → puts_of os e n ≡ true → receives_of os e n ≡ true → ⊥
puts_receives_none os Quiet n put received = false≢true put
puts_receives_none os (Reads x g) n put received = false≢true put
puts_receives_none os (Swaps x g) n put received = false≢true put
puts_receives_none os (Puts x) n put received = false≢true received
puts_receives_none os (Receives x) n put received = false≢true put
puts_receives_none os (Copies x) n put received = false≢true put

-- ---- One turn

-- no other root than thread t reaches x; thread t does not reach x
record Alone (S : State) (t x : ℕ) : Type 0 where
  others : (r : Root) → (r ≡ aThread t → ⊥) → ReachedBy S r x → ⊥

record Away (S : State) (t x : ℕ) : Type 0 where
  unreached : ReachedBy S (aThread t) x → ⊥

other_thread : {t u : ℕ} → (t ≡ u → ⊥) → aThread t ≡ aThread u → ⊥
other_thread other e = other cc

module _ (S S₁ : State) (u x : ℕ) (there : x < length S.objects) where
  alone_change : {e : Event} → Change S S₁ u e → (t : ℕ) → (u ≡ t → puts_of S.objects e x ≡ true → ⊥) → Alone S t x → Alone S₁ t x
  alone_change (only_less touched less) t no_put alone =
      record { others = λ r other reached. elim (less.within r x reached) [ inl a ↦ alone.others r other a | inr b ↦ omega (arith, b.1) ] }
  alone_change (one_put {n = n} c put) t no_put alone = record { others = λ r other reached. go r other (put.within r x reached) }
    where
      by_whom : Reaches S.objects n x → (u ≡ t) ⊎ (u ≡ t → ⊥) → ⊥
      by_whom reaches (inl same) = no_put same ((meets_reached S.objects n x).1 reaches)
      by_whom reaches (inr other) = alone.others (aThread u) (other_thread other) (holds_reached S (aThread u) n x put.held reaches)

      go : (r : Root) → (r ≡ aThread t → ⊥) → ReachedBy S r x ⊎ ((r ≡ aChannel c) × Reaches S.objects n x) → ⊥
      go r other (inl a) = alone.others r other a
      go r other (inr b) = by_whom b.1 (same_or_not u t)
  alone_change (one_taken {n = n} c took) t no_put alone =
      record {
        others = λ r other reached. elim (took.within r x reached) [
          | inl a ↦ alone.others r other a
          | inr b ↦ alone.others (aChannel c) (λ e. impossible cc) (holds_reached S (aChannel c) n x took.held b.1)
        ];
      }

  away_change : {e : Event} → Change S S₁ u e → (t : ℕ) → (u ≡ t → receives_of S.objects e x ≡ true → ⊥) → Away S t x → Away S₁ t x
  away_change (only_less touched less) t no-receive away =
      record { unreached = λ reached. elim (less.within (aThread t) x reached) [ inl a ↦ away.unreached a | inr b ↦ omega (arith, b.1) ] }
  away_change (one_put c put) t no-receive away =
      record { unreached = λ reached. elim (put.within (aThread t) x reached) [ inl a ↦ away.unreached a | inr b ↦ (let e = b.0 in impossible cc) ] }
  away_change (one_taken {n = n} c took) t no-receive away = record { unreached = λ reached. go (took.within (aThread t) x reached) }
    where
      go : ReachedBy S (aThread t) x ⊎ ((aThread t ≡ aThread u) × Reaches S.objects n x) → ⊥
      go (inl a) = away.unreached a
      go (inr b) = let is = b.0 in let same : u ≡ t = cc in no-receive same ((meets_reached S.objects n x).1 b.1)

-- a turn leaves the state and does nothing, or it moves and does what its line does
data Goes (S : State) (q : Stop) (r : Res State) (e : Event) (S₁ : State) : Type 0 where
  stays : S₁ ≡ S → if_moves q r e ≡ Quiet → Goes S q r e S₁
  moves : r ≡ ok S₁ → if_moves q r e ≡ e → Goes S q r e S₁

after_goes : (S : State) (n t : ℕ) (r : Res State) (e : Event) → Goes S none r e (after S n t r).state
unfolding after
after_goes S n t (ok S₁) e = moves refl refl
after_goes S n t wait e = stays refl refl
after_goes S n t (stop k) e = stays refl refl

advance_goes : (m : Mosts) (P : Program) (S : State) (n : ℕ) (q : Stop) (t : ℕ) (e : Event) → Goes S q (turn m P S t) e (advance m P S n q t).state
unfolding advance
advance_goes m P S n none t e = after_goes S n t (turn m P S t) e
advance_goes m P S n (stopped k i b l) t e = stays refl refl

-- ---- The turns of a run

-- what holds at place a and passes each turn before b holds at b
keep_to : (Q : ℕ → Type 0) (a b : ℕ) → a ≤ b → Q a → ((k : ℕ) → a ≤ k → k < b → Q k → Q (suc k)) → Q b
keep_to Q a zero low first on = let e : a ≡ 0 = omega arith in subst Q e first
keep_to Q a (suc b) low first on =
    elim (same_or_not a (suc b)) [
      | inl same ↦ subst Q same first
      | inr other ↦ on b (omega arith) (omega arith) (keep_to Q a b (omega arith) first (λ k l h. on k l (omega arith)))
    ]

module _ (m : Mosts) (P : Program) (valid : Valid m P) (tame : Tame P) (room : 1 ≤ m.threads) (ts : List ℕ) where
  abbrev before : ℕ → State
  before k = (run_before m P ts k).state

  good_before : (k : ℕ) → Good m P (before k)
  unfolding run_before state_at
  good_before k = good_at m P valid tame room ts k

  turn_goes : (k : ℕ) → k < length ts
      → Goes (before k) (run_before m P ts k).stop (turn m P (before k) (get_or ts k 0)) (event P (before k) (get_or ts k 0)) (before (suc k))
  unfolding run_before run step
  turn_goes k there =
      let r = run_from m P fresh (take k ts) in
      subst⁻¹ (λ (q : Run). Goes r.state r.stop (turn m P r.state (get_or ts k 0)) (event P r.state (get_or ts k 0)) q.state)
      (run_one_more m P fresh ts k there)
      (advance_goes m P r.state r.moves r.stop (get_or ts k 0) (event P r.state (get_or ts k 0)))

  -- what turn k touches its thread holds
  touched_at : (k n f : ℕ) → k < length ts → touches m P ts k n f ≡ true → Touched (before k) (get_or ts k 0) (event_at m P ts k)
  unfolding event_at touches reads_at swaps_at
  touched_at k n f there h = go (turn_goes k there)
    where
      touched_by : {e : Event} {S₁ : State} → Change (before k) S₁ (get_or ts k 0) e → (reads_of (objects_at m P ts k) e n f || swaps_of e n f) ≡ true
          → Touched (before k) (get_or ts k 0) e
      touched_by (only_less touched less) h = touched
      touched_by (one_put c put) h = absurd (false≢true h)
      touched_by (one_taken c took) h = absurd (false≢true h)

      go : Goes (before k) (run_before m P ts k).stop (turn m P (before k) (get_or ts k 0)) (event P (before k) (get_or ts k 0)) (before (suc k))
          → Touched (before k) (get_or ts k 0) (event_at m P ts k)
      go (stays same quiet) = subst⁻¹ (Touched (before k) (get_or ts k 0)) quiet tt
      go (moves goes is) =
          subst⁻¹ (Touched (before k) (get_or ts k 0)) is
          (touched_by (turn_stepped m P valid tame (before k) (before (suc k)) (get_or ts k 0) (good_before k) goes).change
          (subst (λ e. (reads_of (objects_at m P ts k) e n f || swaps_of e n f) ≡ true) is h))

  module _ (x : ℕ) where
    alone_next : (k t : ℕ) → k < length ts → x < length (objects_at m P ts k) → (get_or ts k 0 ≡ t → puts_at m P ts k x ≡ true → ⊥)
        → Alone (before k) t x → Alone (before (suc k)) t x
    unfolding event_at puts_at
    alone_next k t there low no_put alone =
        elim (turn_goes k there) [
          | stays same quiet ↦ subst⁻¹ (λ S. Alone S t x) same alone
          | moves goes is ↦
              alone_change (before k) (before (suc k)) (get_or ts k 0) x low
              (turn_stepped m P valid tame (before k) (before (suc k)) (get_or ts k 0) (good_before k) goes).change t
              (λ who put. no_put who (subst⁻¹ (λ e. puts_of (objects_at m P ts k) e x ≡ true) is put)) alone
        ]

    away_next : (k t : ℕ) → k < length ts → x < length (objects_at m P ts k) → (get_or ts k 0 ≡ t → receives_at m P ts k x ≡ true → ⊥)
        → Away (before k) t x → Away (before (suc k)) t x
    unfolding event_at receives_at
    away_next k t there low no-receive away =
        elim (turn_goes k there) [
          | stays same quiet ↦ subst⁻¹ (λ S. Away S t x) same away
          | moves goes is ↦
              away_change (before k) (before (suc k)) (get_or ts k 0) x low
              (turn_stepped m P valid tame (before k) (before (suc k)) (get_or ts k 0) (good_before k) goes).change t
              (λ who received. no-receive who (subst⁻¹ (λ e. receives_of (objects_at m P ts k) e x ≡ true) is received)) away
        ]

    -- an object stays, with its capability
    record Lasts (a k : ℕ) : Type 0 where
      low : x < length (objects_at m P ts k)
      cap : (object_at (objects_at m P ts k) x).cap ≡ (object_at (objects_at m P ts a) x).cap

    lasts_next : (a k : ℕ) → k < length ts → Lasts a k → Lasts a (suc k)
    lasts_next a k there lasts =
        elim (turn_goes k there) [
          | stays same quiet ↦
              record {
                low = subst⁻¹ (λ (S : State). x < length S.objects) same lasts.low;
                cap = ap (λ (S : State). (object_at S.objects x).cap) same ∙ lasts.cap;
              }
          | moves goes is ↦
              (let sound = (turn_stepped m P valid tame (before k) (before (suc k)) (get_or ts k 0) (good_before k) goes).objects in
              record { low = omega (arith, lasts.low, sound.there); cap = sound.cap x lasts.low ∙ lasts.cap })
        ]

    lasts_to : (a b : ℕ) → a ≤ b → b ≤ length ts → x < length (objects_at m P ts a) → Lasts a b
    lasts_to a b low end there = keep_to (Lasts a) a b low (record { low = there; cap = refl }) (λ k l h. lasts_next a k (omega arith))

  -- ---- Turn i and turn j of other threads, and an object that is not handed over between them

  module _ (i j x : ℕ) (order : i < j) (end : j < length ts) (other : get_or ts i 0 ≡ get_or ts j 0 → ⊥) (there : x < length (objects_at m P ts i))
      (unhanded : (p q : ℕ) → i < p → p < q → q < j → get_or ts p 0 ≡ get_or ts i 0 → puts_at m P ts p x ≡ true
      → get_or ts q 0 ≡ get_or ts j 0 → receives_at m P ts q x ≡ true → ⊥)
      (reached : ReachedBy (before j) (aThread (get_or ts j 0)) x) where
    still : (k : ℕ) → i ≤ k → k ≤ j → x < length (objects_at m P ts k)
    still k low high = (lasts_to x i k low (omega arith) there).low

    not_other : aThread (get_or ts j 0) ≡ aThread (get_or ts i 0) → ⊥
    not_other = other_thread (λ e. other (sym e))

    -- the thread of i does not put it: the thread of j would have to receive it
    no_put : (p : ℕ) → i < p → p < j → Alone (before p) (get_or ts i 0) x → get_or ts p 0 ≡ get_or ts i 0 → puts_at m P ts p x ≡ true → ⊥
    unfolding puts_at receives_at
    no_put p after-i before-j alone who put =
        let away : Away (before p) (get_or ts j 0) x = record { unreached = alone.others (aThread (get_or ts j 0)) not_other } in
        let none-received = puts_receives_none (objects_at m P ts p) (event_at m P ts p) x put in
        let next = away_next x p (get_or ts j 0) (omega arith) (still p (omega arith) (omega arith)) (λ _. none-received) away in
        (keep_to (λ k. Away (before k) (get_or ts j 0) x) (suc p) j before-j next
        (λ q low high. away_next x q (get_or ts j 0) (omega arith) (still q (omega arith) (omega arith)) (unhanded p q after-i low high who put))).unreached reached

    -- so no other thread comes to reach it
    alone_never : (puts_at m P ts i x ≡ true → ⊥) → Alone (before i) (get_or ts i 0) x → ⊥
    alone_never none-put alone =
        let next = alone_next x i (get_or ts i 0) (omega arith) there (λ _. none-put) alone in
        (keep_to (λ k. Alone (before k) (get_or ts i 0) x) (suc i) j order next
        (λ k low high so. alone_next x k (get_or ts i 0) (omega arith) (still k (omega arith) (omega arith)) (no_put k low high so) so)).others
        (aThread (get_or ts j 0)) not_other reached

  -- ---- The tests

  handed : (i j x p q : ℕ) → i < p → p < q → q < j → get_or ts p 0 ≡ get_or ts i 0 → puts_at m P ts p x ≡ true
      → get_or ts q 0 ≡ get_or ts j 0 → receives_at m P ts q x ≡ true → handed_over m P ts i j x ≡ true
  unfolding handed_over put_between
  handed i j x p q after-i between before-j who put whose received =
      below_some (λ q. (eqb (get_or ts q 0) (get_or ts j 0) && receives_at m P ts q x) && put_between m P ts i q x) j q before-j
      (rw (eq-eqb _ _ whose, received)
      (below_some (λ p. ltb i p && (eqb (get_or ts p 0) (get_or ts i 0) && puts_at m P ts p x)) q p between (rw (lt-ltb _ _ after-i, eq-eqb _ _ who) put)))

  touch_reached : (k n f : ℕ) → k < length ts → touches m P ts k n f ≡ true → ReachedBy (before k) (aThread (get_or ts k 0)) n
  unfolding touches reads_at swaps_at
  touch_reached k n f there h =
      let touched = touched_at k n f there h in
      elim (or_true (reads_at m P ts k n f) (swaps_at m P ts k n f) h) [
        | inl a ↦ reads_reached (before k) (get_or ts k 0) (event_at m P ts k) n f touched a
        | inr b ↦ (swaps_reached (before k) (get_or ts k 0) (event_at m P ts k) n f touched b).0
      ]

  swap_not_imm : (k n f : ℕ) → k < length ts → touches m P ts k n f ≡ true → swaps_at m P ts k n f ≡ true → is_imm (object_at (objects_at m P ts k) n).cap ≡ false
  unfolding swaps_at
  swap_not_imm k n f there h swap = (swaps_reached (before k) (get_or ts k 0) (event_at m P ts k) n f (touched_at k n f there h) swap).1

  module _ (i j n f : ℕ) (order : i < j) (end : j < length ts) where
    never_race : apart m P ts i j ≡ true → clash m P ts i j n f ≡ true → handed_over m P ts i j n ≡ false → ⊥
    unfolding apart clash touches reads_at swaps_at puts_at
    never_race is-apart clashes unhanded =
        let both = and_true (touches m P ts i n f) (touches m P ts j n f && (swaps_at m P ts i n f || swaps_at m P ts j n f)) clashes in
        let rest = and_true (touches m P ts j n f) (swaps_at m P ts i n f || swaps_at m P ts j n f) both.1 in
        let first = touch_reached i n f (omega arith) both.0 in
        let low = root_reached_range (good_before i).fits (aThread (get_or ts i 0)) n first in
        let not_imm : is_imm (object_at (objects_at m P ts i) n).cap ≡ false =
        elim (or_true (swaps_at m P ts i n f) (swaps_at m P ts j n f) rest.1) [
          | inl a ↦ swap_not_imm i n f (omega arith) both.0 a
          | inr b ↦ subst (λ c. is_imm c ≡ false) (lasts_to n i j (omega arith) (omega arith) low).cap (swap_not_imm j n f end rest.0 b)
        ] in
        alone_never i j n order end (eqb-false _ _ (not-true _ is-apart)) low
        (λ p q a b c who put whose received. false≢true (sym unhanded ∙ handed i j n p q a b c who put whose received))
        (touch_reached j n f end rest.0)
        (touches_puts_none (objects_at m P ts i) (event_at m P ts i) n f both.0)
        (record { others = λ r other reached. other ((good_before i).separate.apart r (aThread (get_or ts i 0)) n not_imm reached first) })

    pub no_race : races_on m P ts i j n f ≡ false
    unfolding races_on
    no_race = by_bool (races_on m P ts i j n f)
        (λ h.
        let both = and_true (apart m P ts i j) (clash m P ts i j n f && not (handed_over m P ts i j n)) h in
        let rest = and_true (clash m P ts i j n f) (not (handed_over m P ts i j n)) both.1 in
        absurd (never_race both.0 rest.0 (not-true _ rest.1)))
        (λ h. h)

  -- and so the verdict is that there is none
  races_none : (i j : ℕ) → i < j → j < length ts → races m P ts i j ≡ false
  unfolding races
  races_none i j order end = below_none _ m.objects (λ n _. below_none _ Most.fields (λ f _. no_race i j n f order end))

  verdict_upto : (k : ℕ) → k ≤ length ts → verdict_of m P ts k ≡ norace
  unfolding verdict_of
  verdict_upto zero low = refl
  verdict_upto (suc j) low = rw (verdict_upto j (omega arith), last_none (λ i. races m P ts i j) j (λ i order. races_none i j order low)) refl

  pub no_race_verdict : verdict m P ts ≡ norace
  unfolding verdict
  no_race_verdict = verdict_upto (length ts) (omega arith)

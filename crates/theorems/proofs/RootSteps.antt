-- What each way to move does to what roots reach: the thread whose turn it is comes to reach new objects only, or a message goes to a channel, or one
-- comes from it. And what it leaves of the invariant that the separation of roots rests on.
use Prim.Native.Nat.{ℕ, zero, suc, ◌+◌, ◌≤◌, ◌<◌}
use native.Mathlib.Omega.{arith}
use mathlib.Core.Path.{◌≡◌, refl, sym, ap, ◌∙◌, subst}
use mathlib.Core.Bool.{true, false}
use mathlib.Core.List.{List, [], ◌∷◌, ◌++◌, map}
use mathlib.Core.Logic.{◌⊎◌, inl, inr}
use lib.ListN.{length, get_or, set, length-set, length-append}
use borrow.Author.Tests.{leb-true}
use Rattle.rules.specs.declared.Cap.{Cap}
use Rattle.rules.specs.declared.Cap.TheVariants.{Imm, Iso, Local, Unsafe}
use Rattle.rules.specs.declared.Value.{Value}
use Rattle.rules.specs.declared.Value.TheVariants.{Absent, Obj, Chan}
use Rattle.rules.specs.declared.Event.{Event}
use Rattle.rules.specs.declared.Event.TheVariants.{Quiet, Reads, Swaps, Puts, Receives, Copies}
use Rattle.rules.specs.declared.Mosts.{Mosts}
use Rattle.rules.specs.Lists.{place_of, Every}
use Rattle.rules.specs.Script.{Operand, reads, takes, Expr, Line, bind, Sort, thread, method, rank, no_block, Block, Program, block_at, line_of, line_at}
use Rattle.rules.specs.Reading.{first_slots, slot_of}
use Rattle.rules.specs.State.{Object, no_object, Frame, Sender, ready, waiting, Thread, no_thread, Channel, empty_channel, State, object_at, thread_at, channel_at, slot_at}
use Rattle.rules.specs.Turn.{is_imm, is_local, may_hold, is_absent, renamed, Here, objects_of, object, put_thread, put_objects, put_channel, filled, with_slots, gives, set_field, started, copy_of}
use Rattle.rules.specs.Races.{on_object, put_event, let_event, line_event}
use Rattle.rules.specs.Fits.{InRange, CallerFits, Fits}
use Rattle.rules.specs.Reach.{count_one, count, Reaches, here, more, slots_of}
use Rattle.theorems.specs.NoUnsafe.{NotUnsafe, TameLet, Tame}
use Rattle.theorems.specs.OneHolder.{without_self, other_slots, OneHolder}
use Rattle.theorems.specs.Separation.{Root, aThread, aChannel, held_in, ReachedBy, Separate}
use Rattle.rules.proofs.ListLaws.{impossible, every_map, every_get, every_at, every_set, every_append, every_image, every_all, every_snoc}
use Rattle.rules.proofs.Counts.{sum_cases, object_self, object_equal, count_append, count_range}
use Rattle.rules.proofs.Moves.{Gave, GaveAll, no_more, one_more, FieldRead, FieldSwapped, MethodCalled, ObjectMade, MessagePut, met_here, GraphCopied, swapped_objects, called_frame, made_object, copied_state, next_number, put_message, emptied, Step, by_value, by_field, by_swap, by_call, by_new, by_cast, by_spawn, by_put, by_sent, by_recv, by_copy, by_return, by_finish}
use Rattle.rules.proofs.Keeps.{object_in_range, HereFits}
use Rattle.rules.proofs.HolderLaws.{count_snoc, count_take, absent_unheld, target_held}
use Rattle.theorems.proofs.OneHolders.{self_slot, slot_counted, split_slots, cap_kept}
use Rattle.theorems.proofs.Roots.{reaches_on, Held, holds_reached, root_reached_range, Under, Grounded, AllGrounded}

-- ---- What a turn of thread t does to what roots reach

-- no root reaches more, but new objects are reached by t
pub record Less (S S₁ : State) (t : ℕ) : Type 0 where
  pub within : (r : Root) (x : ℕ) → ReachedBy S₁ r x → ReachedBy S r x ⊎ ((r ≡ aThread t) × (length S.objects ≤ x))

-- object n, which t holds and which is not local, is put in channel c, which was empty
pub record PutTo (S S₁ : State) (t n c : ℕ) : Type 0 where
  pub held : Held S (aThread t) n
  pub not_local : is_local (object_at S.objects n).cap ≡ false
  pub empty : (i : ℕ) → Held S (aChannel c) i → ⊥
  pub only : (i : ℕ) → Held S₁ (aChannel c) i → i ≡ n
  pub same : S₁.objects ≡ S.objects
  pub within : (r : Root) (x : ℕ) → ReachedBy S₁ r x → ReachedBy S r x ⊎ ((r ≡ aChannel c) × Reaches S.objects n x)

-- object n, which channel c held, is received by t
pub record TookFrom (S S₁ : State) (t n c : ℕ) : Type 0 where
  pub held : Held S (aChannel c) n
  pub empty : (i : ℕ) → Held S₁ (aChannel c) i → ⊥
  pub within : (r : Root) (x : ℕ) → ReachedBy S₁ r x → ReachedBy S r x ⊎ ((r ≡ aThread t) × Reaches S.objects n x)

-- what t reads, swaps or copies, it holds; what it swaps is not imm
abbrev pub Touched : State → ℕ → Event → Type 0
Touched S t Quiet = Unit {0}
Touched S t (Reads n f) = Held S (aThread t) n
Touched S t (Swaps n f) = Held S (aThread t) n × (is_imm (object_at S.objects n).cap ≡ false)
Touched S t (Puts n) = ⊥
Touched S t (Receives n) = ⊥
Touched S t (Copies n) = Held S (aThread t) n

pub data Change (S S₁ : State) (t : ℕ) : Event → Type 0 where
  only_less : {e : Event} → Touched S t e → Less S S₁ t → Change S S₁ t e
  one_put : {n : ℕ} (c : ℕ) → PutTo S S₁ t n c → Change S S₁ t (Puts n)
  one_taken : {n : ℕ} (c : ℕ) → TookFrom S S₁ t n c → Change S S₁ t (Receives n)

-- ---- The invariant, and what a turn leaves of it

-- no object is unsafe
abbrev pub AllTame : List Object → Type 0
AllTame os = Every (λ (o : Object). rank o.cap ≤ 2) os

pub record Good (m : Mosts) (P : Program) (S : State) : Type 0 where
  pub moves : ℕ
  pub fits : Fits m P moves S
  pub one : OneHolder P S
  pub grounded : AllGrounded P S
  pub under : Under S.objects
  pub tame : AllTame S.objects
  pub separate : Separate S

-- the objects after a turn: those before it are there and have their capabilities
pub record Sound (os os₁ : List Object) : Type 0 where
  pub under : Under os₁
  pub tame : AllTame os₁
  pub there : length os ≤ length os₁
  pub cap : (n : ℕ) → n < length os → (object_at os₁ n).cap ≡ (object_at os n).cap

pub record Stepped (P : Program) (S : State) (t : ℕ) (e : Event) (S₁ : State) : Type 0 where
  pub change : Change S S₁ t e
  pub grounded : AllGrounded P S₁
  pub objects : Sound S.objects S₁.objects

-- ---- Lists

set_cases : {A : Type 0} (l : List A) (i j : ℕ) (a d : A) → ((i ≡ j) × (get_or (set l i a) j d ≡ a)) ⊎ (get_or (set l i a) j d ≡ get_or l j d)
set_cases [] i j a d = inr refl
set_cases (x ∷ l) zero zero a d = inl (refl, refl)
set_cases (x ∷ l) zero (suc j) a d = inr refl
set_cases (x ∷ l) (suc i) zero a d = inr refl
set_cases (x ∷ l) (suc i) (suc j) a d = elim (set_cases l i j a d) [ inl p ↦ inl (ap suc p.0, p.1) | inr p ↦ inr p ]

snoc_cases : {A : Type 0} (l : List A) (j : ℕ) (a d : A) → (get_or (l ++ (a ∷ [])) j d ≡ a) ⊎ (get_or (l ++ (a ∷ [])) j d ≡ get_or l j d)
snoc_cases [] zero a d = inl refl
snoc_cases [] (suc j) a d = inr refl
snoc_cases (x ∷ l) zero a d = inr refl
snoc_cases (x ∷ l) (suc j) a d = snoc_cases l j a d

count_set : (x : ℕ) (vs : List Value) (i : ℕ) (v : Value) → count x (set vs i v) ≤ count x vs + count_one x v
unfolding count
count_set x [] i v = omega arith
count_set x (u ∷ vs) zero v = omega arith
count_set x (u ∷ vs) (suc i) v = omega (arith, count_set x vs i v)

-- ---- What roots hold in a state that is put together

channel_holds : (S : State) (c n : ℕ) → 1 ≤ count_one n (channel_at S c).message → Held S (aChannel c) n
unfolding held_in count
channel_holds S c n h = omega arith

channel_held : (S : State) (c n : ℕ) → Held S (aChannel c) n → 1 ≤ count_one n (channel_at S c).message
unfolding held_in count
channel_held S c n h = omega arith

put_thread_held : (S : State) (t : ℕ) (fs : List Frame) (d : Sender) (r : Root) (n : ℕ) → Held (put_thread S t fs d) r n
    → Held S r n ⊎ ((r ≡ aThread t) × (1 ≤ count n (slots_of fs)))
unfolding held_in put_thread thread_at channel_at
put_thread_held S t fs d (aThread u) n held =
    let x : Thread = record { frames = fs; sender = d } in
    elim (set_cases S.threads t u x no_thread) [
      | inl p ↦ inr (ap aThread (sym p.0), subst (λ (y : Thread). 1 ≤ count n (slots_of y.frames)) p.1 held)
      | inr p ↦ inl (subst (λ (y : Thread). 1 ≤ count n (slots_of y.frames)) p held)
    ]
put_thread_held S t fs d (aChannel c) n held = inl held

put_channel_held : (S : State) (c : ℕ) (ch : Channel) (r : Root) (n : ℕ) → Held (put_channel S c ch) r n
    → Held S r n ⊎ ((r ≡ aChannel c) × (1 ≤ count_one n ch.message))
unfolding held_in put_channel thread_at channel_at
put_channel_held S c ch (aThread u) n held = inl held
put_channel_held S c ch (aChannel k) n held =
    let has = channel_held (put_channel S c ch) k n held in
    elim (set_cases S.channels c k ch empty_channel) [
      | inl p ↦ inr (ap aChannel (sym p.0), subst (λ (x : Channel). 1 ≤ count_one n x.message) p.1 has)
      | inr p ↦ inl (channel_holds S k n (subst (λ (x : Channel). 1 ≤ count_one n x.message) p has))
    ]

put_objects_held : (S : State) (os : List Object) (r : Root) (n : ℕ) → Held (put_objects S os) r n → Held S r n
unfolding held_in put_objects thread_at channel_at
put_objects_held S os (aThread t) n held = held
put_objects_held S os (aChannel c) n held = held

started_held : (S : State) (b : ℕ) (r : Root) (n : ℕ) → Held (started S b) r n → Held S r n
unfolding held_in started thread_at channel_at slots_of count
started_held S b (aThread t) n held =
    let x : Thread = record { frames = record { block = b; line = 0; slots = Chan (length S.threads) ∷ [] } ∷ []; sender = ready } in
    elim (snoc_cases S.threads t x no_thread) [
      | inl p ↦ (let none : 1 ≤ count n (slots_of x.frames) = subst (λ (y : Thread). 1 ≤ count n (slots_of y.frames)) p held in absurd (omega arith))
      | inr p ↦ subst (λ (y : Thread). 1 ≤ count n (slots_of y.frames)) p held
    ]
started_held S b (aChannel c) n held =
    let has = channel_held (started S b) c n held in
    elim (snoc_cases S.channels c empty_channel empty_channel) [
      | inl p ↦ (let none : 1 ≤ count_one n empty_channel.message = subst (λ (x : Channel). 1 ≤ count_one n x.message) p has in absurd (omega arith))
      | inr p ↦ channel_holds S c n (subst (λ (x : Channel). 1 ≤ count_one n x.message) p has)
    ]

emptied_unheld : (i k : ℕ) (l : List Channel) (c : ℕ) → 1 ≤ count_one i (get_or (set l c (record { message = Absent; number = k })) c empty_channel).message → ⊥
emptied_unheld i k [] c h = omega arith
emptied_unheld i k (x ∷ l) zero h = omega arith
emptied_unheld i k (x ∷ l) (suc c) h = emptied_unheld i k l c h

-- ---- Operands

set_self : (n : ℕ) (o : Sort) (vs : List Value) (s : ℕ) → count n (self_slot o (set vs s Absent)) ≤ count n (self_slot o vs)
unfolding self_slot count
set_self n thread vs s = omega arith
set_self n method [] s = omega arith
set_self n method (v ∷ vs) zero = omega arith
set_self n method (v ∷ vs) (suc s) = omega arith

-- what they leave: nothing more in any slot, and as many slots
record Leaves (vs left : List Value) : Type 0 where
  fewer : (n : ℕ) → count n left ≤ count n vs
  self : (n : ℕ) (o : Sort) → count n (self_slot o left) ≤ count n (self_slot o vs)
  as_many : length left ≡ length vs

all_left : (vs : List Value) → Leaves vs vs
all_left vs = record { fewer = λ n. omega arith; self = λ n o. omega arith; as_many = refl }

module _ {os : List Object} where
  gave_leaves : {vs left : List Value} {v : Value} (w : Operand) → Gave os vs w v left → Leaves vs left
  gave_leaves {vs = vs} (reads s) gave = rw gave.slots (all_left vs)
  gave_leaves {vs = vs} (takes s) gave =
      rw gave.slots
      (record { fewer = λ n. omega (arith, count_take n vs s); self = λ n o. set_self n o vs s; as_many = length-set vs s Absent })

  -- what they give was in a slot
  gave_held : {vs left : List Value} {v : Value} (w : Operand) → Gave os vs w v left → (n : ℕ) → 1 ≤ count_one n v → 1 ≤ count n vs
  gave_held {vs = vs} w gave n h =
      let at : 1 ≤ count_one n (slot_at vs (slot_of w)) = rw gave.value h in
      omega (arith, slot_counted n vs (slot_of w))

  all_gave_leaves : {vs us left : List Value} {ws : List Operand} → GaveAll os vs ws us left → Leaves vs left
  all_gave_leaves {vs = vs} no_more = all_left vs
  all_gave_leaves (one_more {w = w} gave rest) =
      let a = gave_leaves w gave in
      let b = all_gave_leaves rest in
      record {
        fewer = λ n. omega (arith, a.fewer n, b.fewer n);
        self = λ n o. omega (arith, a.self n o, b.self n o);
        as_many = b.as_many ∙ a.as_many;
      }

  all_gave_held : {vs us left : List Value} {ws : List Operand} → GaveAll os vs ws us left → (n : ℕ) → 1 ≤ count n us → 1 ≤ count n vs
  unfolding count
  all_gave_held no_more n h = absurd (omega arith)
  all_gave_held (one_more {us = us} {w = w} {v = v} gave rest) n h =
      elim (sum_cases (count_one n v) (count n us) h) [
        | inl a ↦ gave_held w gave n a
        | inr b ↦ omega (arith, (gave_leaves w gave).fewer n, all_gave_held rest n b)
      ]

-- ---- Objects: those of a state that fits are in range; one with another value in a field; some more

module _ {m : Mosts} {P : Program} {k : ℕ} {S : State} (fits : Fits m P k S) where
  field_range : (y x : ℕ) → 1 ≤ count x (object_at S.objects y).fields → x < length S.objects
  unfolding object_at
  field_range y x field =
      count_range (length S.objects) (length S.threads) x (object_at S.objects y).fields
      (every_get (λ (o : Object). Every (InRange (length S.objects) (length S.threads)) o.fields) S.objects y no_object tt
      (every_map (λ o h. every_map (object_in_range _ _) o.fields h.fields) S.objects fits.objects)) field

  reaches_range : (n x : ℕ) → n < length S.objects → Reaches S.objects n x → x < length S.objects
  reaches_range n x there (here e) = rw (← e) there
  reaches_range n x there (more {y = y} p field) = field_range y x field

-- object u in field f of object i
module _ (os : List Object) (i f u : ℕ) where
  abbrev swapped_in : List Object
  swapped_in = set os i (set_field (object_at os i) f (Obj u))

  field_swapped : (y x : ℕ) → 1 ≤ count x (object_at swapped_in y).fields → (1 ≤ count x (object_at os y).fields) ⊎ ((y ≡ i) × (u ≡ x))
  unfolding object_at set_field
  field_swapped y x field = go (set_cases os i y (set_field (object_at os i) f (Obj u)) no_object)
    where
      either : i ≡ y → (1 ≤ count x (object_at os i).fields) ⊎ (1 ≤ count_one x (Obj u)) → (1 ≤ count x (object_at os y).fields) ⊎ ((y ≡ i) × (u ≡ x))
      either e (inl a) = inl (subst (λ j. 1 ≤ count x (object_at os j).fields) e a)
      either e (inr b) = inr (sym e, object_equal x u b)

      go : ((i ≡ y) × (get_or swapped_in y no_object ≡ set_field (object_at os i) f (Obj u))) ⊎ (get_or swapped_in y no_object ≡ get_or os y no_object)
          → (1 ≤ count x (object_at os y).fields) ⊎ ((y ≡ i) × (u ≡ x))
      go (inl p) =
          let now : 1 ≤ count x (set (object_at os i).fields f (Obj u)) = subst (λ (o : Object). 1 ≤ count x o.fields) p.1 field in
          either p.0 (sum_cases _ _ (omega (arith, count_set x (object_at os i).fields f (Obj u))))
      go (inr p) = inl (subst (λ (o : Object). 1 ≤ count x o.fields) p field)

  -- what is reached more is reached from u, by what reaches i
  reaches_swapped : (n x : ℕ) → Reaches swapped_in n x → Reaches os n x ⊎ (Reaches os n i × Reaches os u x)
  reaches_swapped n x (here e) = inl (here e)
  reaches_swapped n x (more {y = y} p field) = go (reaches_swapped n y p) (field_swapped y x field)
    where
      go : Reaches os n y ⊎ (Reaches os n i × Reaches os u y) → (1 ≤ count x (object_at os y).fields) ⊎ ((y ≡ i) × (u ≡ x))
          → Reaches os n x ⊎ (Reaches os n i × Reaches os u x)
      go (inl a) (inl b) = inl (more a b)
      go (inl a) (inr b) = inr (rw b.0 at a, here b.1)
      go (inr a) (inl b) = inr (a.0, more a.1 b)
      go (inr a) (inr b) = inr (a.0, here b.1)

  cap_swapped : (n : ℕ) → (object_at swapped_in n).cap ≡ (object_at os n).cap
  unfolding set_field
  cap_swapped n = cap_kept os i n (set_field (object_at os i) f (Obj u)) refl

  sound_swapped : Under os → AllTame os → i < length os → rank (object_at os u).cap ≤ rank (object_at os i).cap → Sound os swapped_in
  unfolding set_field object_at
  sound_swapped under tame there may_hold_lem =
      record {
        under = record { falls = λ y x field. rw (cap_swapped x, cap_swapped y) (go y x (field_swapped y x field)) };
        tame = every_set _ os i (set_field (object_at os i) f (Obj u)) (every_at (λ (o : Object). rank o.cap ≤ 2) os i no_object there tame) tame;
        there = omega (arith, length-set os i (set_field (object_at os i) f (Obj u)));
        cap = λ n _. cap_swapped n;
      }
    where
      go : (y x : ℕ) → (1 ≤ count x (object_at os y).fields) ⊎ ((y ≡ i) × (u ≡ x)) → rank (object_at os x).cap ≤ rank (object_at os y).cap
      go y x (inl a) = under.falls y x a
      go y x (inr b) = rw (b.0, ← b.1) may_hold_lem

-- an object before, a new one, or none
data Place (Q : Object → Type 0) (os news : List Object) (n : ℕ) : Type 0 where
  old : n < length os → object_at (os ++ news) n ≡ object_at os n → Place Q os news n
  newly : length os ≤ n → Q (object_at (os ++ news) n) → Place Q os news n
  past : length os + length news ≤ n → object_at (os ++ news) n ≡ no_object → Place Q os news n

place_among : (Q : Object → Type 0) (os news : List Object) → Every Q news → (n : ℕ) → Place Q os news n
unfolding object_at
place_among Q [] [] e n = past (omega arith) refl
place_among Q [] (o ∷ news) e zero = newly (omega arith) e.0
place_among Q [] (o ∷ news) e (suc n) =
    elim (place_among Q [] news e.1 n) [ old a b ↦ absurd (omega arith) | newly a b ↦ newly (omega arith) b | past a b ↦ past (omega arith) b ]
place_among Q (o ∷ os) news e zero = old (omega arith) refl
place_among Q (o ∷ os) news e (suc n) =
    elim (place_among Q os news e n) [ old a b ↦ old (omega arith) b | newly a b ↦ newly (omega arith) b | past a b ↦ past (omega arith) b ]

-- a new object of capability c, whose fields are new objects, or ones that thread t holds and that an object of capability c may hold
record New (S : State) (t : ℕ) (c : Cap) (o : Object) : Type 0 where
  cap : o.cap ≡ c
  fields : (x : ℕ) → 1 ≤ count x o.fields → (length S.objects ≤ x) ⊎ (Held S (aThread t) x × (rank (object_at S.objects x).cap ≤ rank c))

module _ {m : Mosts} {P : Program} {k : ℕ} (S : State) (fits : Fits m P k S) (t : ℕ) (c : Cap) (news : List Object) (all_new : Every (New S t c) news) where
  abbrev os : List Object
  os = S.objects

  place : (n : ℕ) → Place (New S t c) os news n
  place = place_among (New S t c) os news all_new

  none_held : (x : ℕ) → object_at (os ++ news) x ≡ no_object → (y : ℕ) → 1 ≤ count y (object_at (os ++ news) x).fields → ⊥
  unfolding count
  none_held x none y field = let nothing : 1 ≤ count y [] = subst (λ (o : Object). 1 ≤ count y o.fields) none field in omega arith

  -- what was there reaches what was there
  reaches_old : (n x : ℕ) → n < length os → Reaches (os ++ news) n x → Reaches os n x
  reaches_old n x there (here e) = here e
  reaches_old n x there (more {y = y} p field) = go (reaches_old n y there p) (place y)
    where
      go : Reaches os n y → Place (New S t c) os news y → Reaches os n x
      go q (old a b) = more q (subst (λ (o : Object). 1 ≤ count x o.fields) b field)
      go q (newly a b) = absurd (omega (arith, reaches_range fits n y there q))
      go q (past a b) = absurd (omega (arith, reaches_range fits n y there q))

  -- what is new reaches what is new, or what t reached
  reaches_new : (n x : ℕ) → length os ≤ n → Reaches (os ++ news) n x → (length os ≤ x) ⊎ ReachedBy S (aThread t) x
  reaches_new n x above (here e) = inl (omega arith)
  reaches_new n x above (more {y = y} p field) = go (place y) (reaches_new n y above p)
    where
      go : Place (New S t c) os news y → (length os ≤ y) ⊎ ReachedBy S (aThread t) y → (length os ≤ x) ⊎ ReachedBy S (aThread t) x
      go (old a b) (inl h) = absurd (omega arith)
      go (old a b) (inr r) =
          let was : 1 ≤ count x (object_at os y).fields = subst (λ (o : Object). 1 ≤ count x o.fields) b field in
          inr (record { first = r.first; held = r.held; reaches = more r.reaches was })
      go (newly a b) _ = elim (b.fields x field) [ inl h ↦ inl h | inr h ↦ inr (holds_reached S (aThread t) x x h.0 (here refl)) ]
      go (past a b) _ = absurd (none_held y b x field)

  sound_added : Under os → AllTame os → rank c ≤ 2 → ((y x : ℕ) → 1 ≤ count x (object_at (os ++ news) y).fields → x < length (os ++ news))
      → Sound os (os ++ news)
  sound_added under tame few range =
      record {
        under = record { falls = λ y x field. go y x field (place y) (place x) };
        tame = every_append _ os news tame (every_map (λ o n. rw n.cap few) news all_new);
        there = omega (arith, length-append os news);
        cap = λ n there. before n there (place n);
      }
    where
      before : (n : ℕ) → n < length os → Place (New S t c) os news n → (object_at (os ++ news) n).cap ≡ (object_at os n).cap
      before n there (old a b) = ap (λ (o : Object). o.cap) b
      before n there (newly a b) = absurd (omega arith)
      before n there (past a b) = absurd (omega arith)

      go : (y x : ℕ) → 1 ≤ count x (object_at (os ++ news) y).fields → Place (New S t c) os news y → Place (New S t c) os news x
          → rank (object_at (os ++ news) x).cap ≤ rank (object_at (os ++ news) y).cap
      go y x field (old a b) at =
          let was : 1 ≤ count x (object_at os y).fields = subst (λ (o : Object). 1 ≤ count x o.fields) b field in
          rw (before x (field_range fits y x was) at, before y a (old a b)) (under.falls y x was)
      go y x field (newly a b) (old h e) =
          rw (b.cap, before x h (old h e))
          (elim (b.fields x field) [ inl above ↦ absurd (omega arith) | inr held ↦ held.1 ])
      go y x field (newly a b) (newly h e) = rw (b.cap, e.cap) (omega arith)
      go y x field (newly a b) (past h e) = absurd (omega (arith, range y x field, length-append os news))
      go y x field (past a b) at = absurd (none_held y b x field)

object_of_every : (Q : ℕ → Type 0) (ns : List ℕ) → Every Q ns → (x : ℕ) → 1 ≤ count x (map Obj ns) → Q x
unfolding count
object_of_every Q [] all x h = absurd (omega arith)
object_of_every Q (n ∷ ns) all x h =
    elim (sum_cases (count_one x (Obj n)) (count x (map Obj ns)) h) [ inl a ↦ subst Q (object_equal x n a) all.0 | inr b ↦ object_of_every Q ns all.1 x b ]

-- the objects in a copy's fields are new ones
renamed_new : (b : ℕ) (met : List ℕ) (vs : List Value) (x : ℕ) → 1 ≤ count x (map (renamed b met) vs) → b ≤ x
unfolding renamed count
renamed_new b met [] x h = absurd (omega arith)
renamed_new b met (Absent ∷ vs) x h = renamed_new b met vs x (omega arith)
renamed_new b met (Obj n ∷ vs) x h =
    elim (sum_cases (count_one x (Obj (b + place_of n met))) (count x (map (renamed b met) vs)) h) [
      | inl a ↦ (let same = object_equal x (b + place_of n met) a in omega arith)
      | inr k ↦ renamed_new b met vs x k
    ]
renamed_new b met (Chan c ∷ vs) x h = renamed_new b met vs x (omega arith)

-- ---- Where a turn stands

first_some : (o : Sort) → 1 ≤ first_slots o
first_some thread = omega arith
first_some method = omega arith

-- the slot that is filled is no self slot
filled_keeps_self : (n : ℕ) (o : Sort) (vs : List Value) (v : Value) → 1 ≤ length vs → count n (self_slot o (vs ++ (v ∷ []))) ≡ count n (self_slot o vs)
unfolding self_slot
filled_keeps_self n thread vs v some = refl
filled_keeps_self n method [] v some = absurd (omega arith)
filled_keeps_self n method (x ∷ vs) v some = refl

pub first_self : (n : ℕ) (o : Sort) (v : Value) (vs : List Value) → count n (self_slot o (v ∷ vs)) ≤ count_one n v
unfolding self_slot count
first_self n thread v vs = omega arith
first_self n method v vs = omega arith

line_holds : (Q : Expr → Type 0) (es : List Expr) (w : Operand) (l : ℕ) (e : Expr) → line_of es w l ≡ bind e → Every Q es → Q e
unfolding line_of
line_holds Q [] w l e at_line all = impossible cc
line_holds Q (x ∷ es) w zero e at_line all = let same : x ≡ e = cc in subst Q same all.0
line_holds Q (x ∷ es) w (suc l) e at_line all = line_holds Q es w l e at_line all.1

tame_line : (P : Program) → Tame P → (b l : ℕ) (e : Expr) → line_at P b l ≡ bind e → TameLet e
unfolding line_at block_at
tame_line P tame b l e at_line =
    line_holds TameLet (block_at P b).lets (block_at P b).result l e at_line
    (every_get (λ (B : Block). Every TameLet B.lets) P.blocks b no_block tt tame.lets)

not_unsafe : (c : Cap) → NotUnsafe c → rank c ≤ 2
not_unsafe Imm h = omega arith
not_unsafe Iso h = omega arith
not_unsafe Local h = omega arith
not_unsafe Unsafe h = absurd h

module _ {m : Mosts} {P : Program} {k : ℕ} (H : Here) (fit : HereFits m P k H) (frames : (thread_at H.state H.self).frames ≡ H.frame ∷ H.callers)
    (good : Good m P H.state) where
  abbrev S : State
  S = H.state

  abbrev self : Root
  self = aThread H.self

  abbrev sort_here : Sort
  sort_here = (block_at P H.frame.block).sort

  frames_grounded : Grounded P (H.frame ∷ H.callers)
  unfolding thread_at
  frames_grounded = rw frames at (every_get (λ (x : Thread). Grounded P x.frames) S.threads H.self no_thread tt good.grounded)

  -- the thread holds what its slots hold
  thread_holds : (n : ℕ) → 1 ≤ count n H.frame.slots + count n (slots_of H.callers) → Held S self n
  unfolding held_in slots_of
  thread_holds n h = rw frames (omega (arith, count_append n H.frame.slots (slots_of H.callers)))

  slots_hold : (n : ℕ) → 1 ≤ count n H.frame.slots → Held S self n
  slots_hold n h = thread_holds n (omega arith)

  slot_holds : (s n : ℕ) → slot_at H.frame.slots s ≡ Obj n → Held S self n
  slot_holds s n at =
      let one : count_one n (slot_at H.frame.slots s) ≡ 1 = rw at (object_self n) in
      slots_hold n (omega (arith, slot_counted n H.frame.slots s))

  reached_self : (n : ℕ) → Held S self n → ReachedBy S self n
  reached_self n held = holds_reached S self n n held (here refl)

  -- a field of an object in a slot is reached
  field_reached : (s n f : ℕ) → slot_at H.frame.slots s ≡ Obj n → (x : ℕ) → 1 ≤ count_one x (slot_at (object H n).fields f) → ReachedBy S self x
  unfolding object
  field_reached s n f at x h =
      holds_reached S self n x (slot_holds s n at) (more (here refl) (omega (arith, slot_counted x (object_at S.objects n).fields f)))

  -- ---- The let gives v in a state S₀ in which roots hold no more

  gives_held : (S₀ : State) → ((r : Root) (n : ℕ) → Held S₀ r n → Held S r n) → {vs : List Value} (v : Value) → Leaves H.frame.slots vs
      → (r : Root) (n : ℕ) → Held (gives S₀ H vs v) r n → Held S r n ⊎ ((r ≡ self) × (1 ≤ count_one n v))
  unfolding gives filled slots_of
  gives_held S₀ no_other {vs} v leaves r n held = go (put_thread_held S₀ H.self (filled H.frame vs v ∷ H.callers) ready r n held)
    where
      either : r ≡ self → (1 ≤ count n H.frame.slots + count n (slots_of H.callers)) ⊎ (1 ≤ count_one n v) → Held S r n ⊎ ((r ≡ self) × (1 ≤ count_one n v))
      either is (inl a) = inl (rw is (thread_holds n a))
      either is (inr b) = inr (is, b)

      go : Held S₀ r n ⊎ ((r ≡ self) × (1 ≤ count n (slots_of (filled H.frame vs v ∷ H.callers)))) → Held S r n ⊎ ((r ≡ self) × (1 ≤ count_one n v))
      go (inl a) = inl (no_other r n a)
      go (inr b) =
          either b.0
          (sum_cases _ _ (omega (arith, b.1, leaves.fewer n, count_snoc n vs v, count_append n (vs ++ (v ∷ [])) (slots_of H.callers))))

  gives_grounded : (S₀ : State) → AllGrounded P S₀ → {vs : List Value} (v : Value) → Leaves H.frame.slots vs → AllGrounded P (gives S₀ H vs v)
  unfolding gives put_thread filled
  gives_grounded S₀ grounded {vs} v leaves =
      let some : 1 ≤ length vs = omega (arith, leaves.as_many, fit.frame.count, first_some sort_here) in
      every_set (λ (x : Thread). Grounded P x.frames) S₀.threads H.self _
      ((λ n. omega (arith, filled_keeps_self n sort_here vs v some, leaves.self n sort_here, frames_grounded.0 n)), frames_grounded.1) grounded

  -- ---- The objects are the same

  same_objects : Sound S.objects S.objects
  same_objects = record { under = good.under; tame = good.tame; there = omega arith; cap = λ n there. refl }

  same_less : (S₁ : State) → S₁.objects ≡ S.objects → ((r : Root) (n : ℕ) → Held S₁ r n → ReachedBy S r n) → Less S S₁ H.self
  same_less S₁ same held =
      record {
        within = λ r x reached.
            let a = held r reached.first reached.held in
            inl (holds_reached S r a.first x a.held (reaches_on a.reaches (subst (λ os. Reaches os reached.first x) same reached.reaches)));
      }

  -- the let gives what the thread reaches
  gives_less : (S₀ : State) → S₀.objects ≡ S.objects → ((r : Root) (n : ℕ) → Held S₀ r n → Held S r n)
      → {vs : List Value} (v : Value) → Leaves H.frame.slots vs → ((n : ℕ) → 1 ≤ count_one n v → ReachedBy S self n) → Less S (gives S₀ H vs v) H.self
  unfolding gives put_thread
  gives_less S₀ same no_other {vs} v leaves reached = same_less (gives S₀ H vs v) same (λ r n held. go r n (gives_held S₀ no_other v leaves r n held))
    where
      go : (r : Root) (n : ℕ) → Held S r n ⊎ ((r ≡ self) × (1 ≤ count_one n v)) → ReachedBy S r n
      go r n (inl a) = holds_reached S r n n a (here refl)
      go r n (inr b) = rw b.0 (reached n b.1)

  gives_stepped : {e : Event} {vs : List Value} (v : Value) → Touched S H.self e → Leaves H.frame.slots vs
      → ((n : ℕ) → 1 ≤ count_one n v → ReachedBy S self n) → Stepped P S H.self e (gives S H vs v)
  unfolding gives put_thread
  gives_stepped v touched leaves reached =
      record {
        change = only_less touched (gives_less S refl (λ r n held. held) v leaves reached);
        grounded = gives_grounded S good.grounded v leaves;
        objects = same_objects;
      }

  operand_stepped : (w : Operand) (v : Value) (vs : List Value) → Gave (objects_of H) H.frame.slots w v vs → Stepped P S H.self Quiet (gives S H vs v)
  operand_stepped w v vs gave = gives_stepped v tt (gave_leaves w gave) (λ n h. reached_self n (slots_hold n (gave_held w gave n h)))

  field_stepped : (s f n : ℕ) → FieldRead H s f n → Stepped P S H.self (Reads n f) (gives S H H.frame.slots (slot_at (object H n).fields f))
  field_stepped s f n read = gives_stepped _ (slot_holds s n read.target) (all_left H.frame.slots) (field_reached s n f read.target)

  channel_unreached : (c n : ℕ) → 1 ≤ count_one n (Chan c) → ReachedBy S self n
  channel_unreached c n h = absurd (omega arith)

  spawn_stepped : (b : ℕ) → Stepped P S H.self Quiet (gives (started S b) H H.frame.slots (Chan (length S.threads)))
  unfolding gives put_thread started other_slots count
  spawn_stepped b =
      let c : ℕ = length S.threads in
      let begun : Thread = record { frames = record { block = b; line = 0; slots = Chan c ∷ [] } ∷ []; sender = ready } in
      record {
        change = only_less tt (gives_less (started S b) refl (started_held S b) (Chan c) (all_left H.frame.slots) (channel_unreached c));
        grounded =
            gives_grounded (started S b)
            (every_snoc (λ (x : Thread). Grounded P x.frames) S.threads begun ((λ n. first_self n (block_at P b).sort (Chan c) []), tt) good.grounded)
            (Chan c) (all_left H.frame.slots);
        objects = same_objects;
      }

  -- ---- Other frames, none of which holds what the thread did not hold

  frames_less : (fs : List Frame) (d : Sender) → ((n : ℕ) → 1 ≤ count n (slots_of fs) → Held S self n) → Less S (put_thread S H.self fs d) H.self
  unfolding put_thread
  frames_less fs d held = same_less (put_thread S H.self fs d) refl (λ r n h. go r n (put_thread_held S H.self fs d r n h))
    where
      go : (r : Root) (n : ℕ) → Held S r n ⊎ ((r ≡ self) × (1 ≤ count n (slots_of fs))) → ReachedBy S r n
      go r n (inl a) = holds_reached S r n n a (here refl)
      go r n (inr b) = rw b.0 (reached_self n (held n b.1))

  frames_stepped : (fs : List Frame) (d : Sender) → ((n : ℕ) → 1 ≤ count n (slots_of fs) → Held S self n) → Grounded P fs
      → Stepped P S H.self Quiet (put_thread S H.self fs d)
  unfolding put_thread
  frames_stepped fs d held grounded =
      record {
        change = only_less tt (frames_less fs d held);
        grounded = every_set (λ (x : Thread). Grounded P x.frames) S.threads H.self _ grounded good.grounded;
        objects = same_objects;
      }

  left_grounded : {vs : List Value} → Leaves H.frame.slots vs → Grounded P (with_slots H.frame vs ∷ H.callers)
  unfolding with_slots
  left_grounded leaves = ((λ n. omega (arith, leaves.self n sort_here, frames_grounded.0 n)), frames_grounded.1)

  left_held : {vs : List Value} → Leaves H.frame.slots vs → (n : ℕ) → 1 ≤ count n (slots_of (with_slots H.frame vs ∷ H.callers)) → Held S self n
  unfolding with_slots slots_of
  left_held {vs} leaves n h = thread_holds n (omega (arith, leaves.fewer n, count_append n vs (slots_of H.callers)))

  -- the target is in the caller's slot, which is no self slot or is grounded itself
  call_stepped : (s i : ℕ) (w : Operand) (j : ℕ) (v : Value) (vs : List Value) → MethodCalled P H s i w j v vs
      → Stepped P S H.self Quiet (put_thread S H.self (called_frame P H i j v ∷ with_slots H.frame vs ∷ H.callers) ready)
  unfolding with_slots slots_of other_slots count
  call_stepped s i w j v vs called =
      frames_stepped (called_frame P H i j v ∷ with_slots H.frame vs ∷ H.callers) ready held
      ((λ n. grounded n (block_at P (called_frame P H i j v).block).sort), left_grounded leaves)
    where
      leaves : Leaves H.frame.slots vs
      leaves = gave_leaves w called.gave

      target : (n : ℕ) → count_one n (Obj j) ≤ count n vs
      target n = subst (λ u. count_one n u ≤ count n vs) called.target (slot_counted n vs s)

      held : (n : ℕ) → 1 ≤ count n (slots_of (called_frame P H i j v ∷ with_slots H.frame vs ∷ H.callers)) → Held S self n
      held n h =
          elim (sum_cases (count_one n v) (count_one n (Obj j) + (count n vs + count n (slots_of H.callers)))
          (omega (arith, count_append n vs (slots_of H.callers)))) [
            | inl a ↦ slots_hold n (gave_held w called.gave n a)
            | inr b ↦ thread_holds n (omega (arith, target n, leaves.fewer n))
          ]

      grounded : (n : ℕ) (o : Sort) → count n (self_slot o (Obj j ∷ v ∷ [])) ≤ count n (other_slots P (with_slots H.frame vs ∷ H.callers))
      grounded n o =
          omega (
            arith,
            first_self n o (Obj j) (v ∷ []),
            target n,
            split_slots n sort_here vs,
            leaves.self n sort_here,
            frames_grounded.0 n,
            count_append n (without_self sort_here vs) (other_slots P H.callers),
          )

  return_stepped : (w : Operand) (v : Value) (vs : List Value) (f : Frame) (fs : List Frame) → Gave (objects_of H) H.frame.slots w v vs → H.callers ≡ f ∷ fs
      → Stepped P S H.self Quiet (put_thread S H.self (filled f f.slots v ∷ fs) ready)
  unfolding filled slots_of
  return_stepped w v vs f fs gave callers =
      let fits : Every (CallerFits P (length S.objects) (length S.threads)) (f ∷ fs) = rw callers at fit.callers in
      let below : Grounded P (f ∷ fs) = rw callers at frames_grounded.1 in
      let o = (block_at P f.block).sort in
      let some : 1 ≤ length f.slots = omega (arith, fits.0.frame.count, first_some o) in
      frames_stepped (filled f f.slots v ∷ fs) ready held ((λ n. omega (arith, filled_keeps_self n o f.slots v some, below.0 n)), below.1)
    where
      held : (n : ℕ) → 1 ≤ count n (slots_of (filled f f.slots v ∷ fs)) → Held S self n
      held n h =
          let outer : count n (slots_of H.callers) ≡ count n (slots_of (f ∷ fs)) = ap (λ gs. count n (slots_of gs)) callers in
          elim (sum_cases (count_one n v) (count n f.slots + count n (slots_of fs))
          (omega (arith, count_snoc n f.slots v, count_append n (f.slots ++ (v ∷ [])) (slots_of fs)))) [
            | inl a ↦ slots_hold n (gave_held w gave n a)
            | inr b ↦ thread_holds n (omega (arith, count_append n f.slots (slots_of fs)))
          ]

  finish_stepped : Stepped P S H.self Quiet (put_thread S H.self [] ready)
  unfolding slots_of count
  finish_stepped = frames_stepped [] ready (λ n h. absurd (omega arith)) tt

  -- ---- Another value in a field: what reaches the target is the thread itself, as the target is not imm

  swap_stepped : (s f : ℕ) (w : Operand) (n u : ℕ) (vs : List Value) → FieldSwapped H s f w n u vs
      → Stepped P S H.self (Swaps n f) (gives (put_objects S (swapped_objects H n f u)) H vs (slot_at (object H n).fields f))
  unfolding gives put_thread put_objects object may_hold
  swap_stepped s f w n u vs swapped =
      record {
        change = only_less {e = Swaps n f} (slot_holds s n target, swapped.not_imm) (record { within = less });
        grounded = gives_grounded (put_objects S (swapped_objects H n f u)) good.grounded (slot_at (object H n).fields f) (gave_leaves w swapped.gave);
        objects =
            sound_swapped S.objects n f u good.under good.tame (root_reached_range good.fits self n (reached_self n (slot_holds s n target)))
            (leb-true _ _ swapped.may_hold_lem);
      }
    where
      target : slot_at H.frame.slots s ≡ Obj n
      target = target_held w s n swapped.gave swapped.target

      S₁ : State
      S₁ = gives (put_objects S (swapped_objects H n f u)) H vs (slot_at (object H n).fields f)

      held : (r : Root) (i : ℕ) → Held S r i ⊎ ((r ≡ self) × (1 ≤ count_one i (slot_at (object H n).fields f))) → ReachedBy S r i
      held r i (inl a) = holds_reached S r i i a (here refl)
      held r i (inr b) = rw b.0 (field_reached s n f target i b.1)

      go : (r : Root) (i x : ℕ) → ReachedBy S r i → Reaches S.objects i x ⊎ (Reaches S.objects i n × Reaches S.objects u x) → ReachedBy S r x
      go r i x a (inl b) = holds_reached S r a.first x a.held (reaches_on a.reaches b)
      go r i x a (inr b) =
          let is : r ≡ self =
          good.separate.apart r self n swapped.not_imm (holds_reached S r a.first n a.held (reaches_on a.reaches b.0))
          (reached_self n (slot_holds s n target)) in
          rw is (holds_reached S self u x (slots_hold u (gave_held w swapped.gave u (omega (arith, object_self u)))) b.1)

      less : (r : Root) (x : ℕ) → ReachedBy S₁ r x → ReachedBy S r x ⊎ ((r ≡ self) × (length S.objects ≤ x))
      less r x reached =
          let now = swapped_objects H n f u in
          let was = gives_held (put_objects S now) (put_objects_held S now) _ (gave_leaves w swapped.gave) r reached.first reached.held in
          inl (go r reached.first x (held r reached.first was) (reaches_swapped S.objects n f u reached.first x reached.reaches))

  -- ---- New objects, of which the let gives the first

  module _ (c : Cap) (few : rank c ≤ 2) (news : List Object) (all_new : Every (New S H.self c) news)
      {vs : List Value} (leaves : Leaves H.frame.slots vs) where
    abbrev added : State
    added = gives (put_objects S (S.objects ++ news)) H vs (Obj (length S.objects))

    added_less : Less S added H.self
    unfolding gives put_thread put_objects
    added_less =
        record { within = λ r x reached. go r x reached (gives_held _ (put_objects_held S (S.objects ++ news)) _ leaves r reached.first reached.held) }
      where
        from_new : (r : Root) (x : ℕ) → r ≡ self → (length S.objects ≤ x) ⊎ ReachedBy S self x → ReachedBy S r x ⊎ ((r ≡ self) × (length S.objects ≤ x))
        from_new r x is (inl a) = inr (is, a)
        from_new r x is (inr b) = inl (rw is b)

        go : (r : Root) (x : ℕ) (reached : ReachedBy added r x)
            → Held S r reached.first ⊎ ((r ≡ self) × (1 ≤ count_one reached.first (Obj (length S.objects)))) → ReachedBy S r x ⊎ ((r ≡ self) × (length S.objects ≤ x))
        go r x reached (inl a) =
            let there = root_reached_range good.fits r reached.first (holds_reached S r _ _ a (here refl)) in
            inl (holds_reached S r reached.first x a (reaches_old S good.fits H.self c news all_new reached.first x there reached.reaches))
        go r x reached (inr b) =
            let first = object_equal reached.first (length S.objects) b.1 in
            from_new r x b.0 (reaches_new S good.fits H.self c news all_new reached.first x (omega arith) reached.reaches)

    added_stepped : {e : Event} → Touched S H.self e → {k₁ : ℕ} → Fits m P k₁ added → Stepped P S H.self e added
    unfolding gives put_thread put_objects
    added_stepped touched fits₁ =
        record {
          change = only_less touched added_less;
          grounded = gives_grounded (put_objects S (S.objects ++ news)) good.grounded (Obj (length S.objects)) leaves;
          objects = sound_added S good.fits H.self c news all_new good.under good.tame few (field_range fits₁);
        }

  new_stepped : (c : Cap) (i : ℕ) (ws : List Operand) (ns : List ℕ) (vs : List Value) → NotUnsafe c → ObjectMade m H c ws ns vs → {k₁ : ℕ}
      → Fits m P k₁ (gives (put_objects S (objects_of H ++ (made_object H c i ns ∷ []))) H vs (Obj (length (objects_of H))))
      → Stepped P S H.self Quiet (gives (put_objects S (objects_of H ++ (made_object H c i ns ∷ []))) H vs (Obj (length (objects_of H))))
  unfolding object may_hold
  new_stepped c i ws ns vs tame made fits₁ =
      added_stepped c (not_unsafe c tame) (made_object H c i ns ∷ []) (record { cap = refl; fields = fields }, tt) (all_gave_leaves made.gave) tt fits₁
    where
      fields : (x : ℕ) → 1 ≤ count x (map Obj ns) → (length S.objects ≤ x) ⊎ (Held S self x × (rank (object_at S.objects x).cap ≤ rank c))
      fields x h =
          let may_hold_lem = object_of_every (λ n. may_hold c (object_at S.objects n).cap ≡ true) ns made.may_hold_lem x h in
          inr (slots_hold x (all_gave_held made.gave x h), leb-true _ _ may_hold_lem)

  copy_stepped : (c : Cap) (s n : ℕ) → NotUnsafe c → GraphCopied m H s n → {k₁ : ℕ} → Fits m P k₁ (copied_state H c n)
      → Stepped P S H.self (Copies n) (copied_state H c n)
  unfolding copy_of
  copy_stepped c s n tame copied fits₁ =
      let met = met_here H n in
      added_stepped c (not_unsafe c tame) (map (copy_of H c met) met)
      (every_image (New S H.self c) (copy_of H c met) met
      (every_all _ (λ i. record { cap = refl; fields = λ x h. inl (renamed_new (length S.objects) met (object H i).fields x h) }) met))
      (all_left H.frame.slots) (slot_holds s n copied.target) fits₁

  -- ---- A message

  put_stepped : (s : ℕ) (w : Operand) (c n : ℕ) (vs : List Value) → MessagePut H s w c n vs
      → Stepped P S H.self (Puts n) (put_thread (put_message H c n) H.self (with_slots H.frame vs ∷ H.callers) (waiting (next_number H c)))
  unfolding put_thread put_channel object
  put_stepped s w c n vs put =
      record {
        change = one_put c (
            record {
              held = slots_hold n (gave_held w put.gave n (omega (arith, object_self n)));
              not_local = put.not_local;
              empty = empty;
              only = λ i held. elim (cases (aChannel c) i held) [ inl a ↦ absurd (empty i a) | inr b ↦ b.1 ];
              same = refl;
              within = λ r x reached. go r x reached (cases r reached.first reached.held);
            }
            );
        grounded = every_set (λ (x : Thread). Grounded P x.frames) S.threads H.self _ (left_grounded leaves) good.grounded;
        objects = same_objects;
      }
    where
      leaves : Leaves H.frame.slots vs
      leaves = gave_leaves w put.gave

      S₁ : State
      S₁ = put_thread (put_message H c n) H.self (with_slots H.frame vs ∷ H.callers) (waiting (next_number H c))

      empty : (i : ℕ) → Held S (aChannel c) i → ⊥
      empty i held = omega (arith, absent_unheld i (channel_at S c).message put.empty, channel_held S c i held)

      message : (r : Root) (i : ℕ) → Held S r i ⊎ ((r ≡ aChannel c) × (1 ≤ count_one i (Obj n))) → Held S r i ⊎ ((r ≡ aChannel c) × (i ≡ n))
      message r i (inl a) = inl a
      message r i (inr b) = inr (b.0, sym (object_equal i n b.1))

      slots : (r : Root) (i : ℕ) → Held (put_message H c n) r i ⊎ ((r ≡ self) × (1 ≤ count i (slots_of (with_slots H.frame vs ∷ H.callers))))
          → Held S r i ⊎ ((r ≡ aChannel c) × (i ≡ n))
      slots r i (inl a) = message r i (put_channel_held S c _ r i a)
      slots r i (inr b) = inl (rw b.0 (left_held leaves i b.1))

      cases : (r : Root) (i : ℕ) → Held S₁ r i → Held S r i ⊎ ((r ≡ aChannel c) × (i ≡ n))
      cases r i held = slots r i (put_thread_held (put_message H c n) H.self (with_slots H.frame vs ∷ H.callers) (waiting (next_number H c)) r i held)

      go : (r : Root) (x : ℕ) (reached : ReachedBy S₁ r x) → Held S r reached.first ⊎ ((r ≡ aChannel c) × (reached.first ≡ n))
          → ReachedBy S r x ⊎ ((r ≡ aChannel c) × Reaches S.objects n x)
      go r x reached (inl a) = inl (holds_reached S r reached.first x a reached.reaches)
      go r x reached (inr b) = inr (b.0, subst (λ i. Reaches S.objects i x) b.1 reached.reaches)

  recv_held : (c : ℕ) (v : Value) (r : Root) (n : ℕ) → Held (gives (emptied H c) H H.frame.slots v) r n → Held S r n ⊎ ((r ≡ self) × (1 ≤ count_one n v))
  recv_held c v = gives_held (emptied H c) was v (all_left H.frame.slots)
    where
      was : (r : Root) (n : ℕ) → Held (emptied H c) r n → Held S r n
      was r n held = elim (put_channel_held S c _ r n held) [ inl a ↦ a | inr b ↦ absurd (omega (arith, b.1)) ]

  recv_stepped : (c : ℕ) (v : Value) → (channel_at S c).message ≡ v → is_absent v ≡ false
      → Stepped P S H.self (on_object v Receives) (gives (emptied H c) H H.frame.slots v)
  unfolding gives put_thread put_channel channel_at is_absent
  recv_stepped c Absent is full = impossible cc
  recv_stepped c (Obj n) is full =
      record {
        change = one_taken c (
            record {
              held = channel_holds S c n (rw is (omega (arith, object_self n)));
              empty = λ i held. emptied_unheld i _ S.channels c (channel_held (gives (emptied H c) H H.frame.slots (Obj n)) c i held);
              within = λ r x reached. go r x reached (recv_held c (Obj n) r reached.first reached.held);
            }
            );
        grounded = gives_grounded (emptied H c) good.grounded (Obj n) (all_left H.frame.slots);
        objects = same_objects;
      }
    where
      go : (r : Root) (x : ℕ) (reached : ReachedBy (gives (emptied H c) H H.frame.slots (Obj n)) r x)
          → Held S r reached.first ⊎ ((r ≡ self) × (1 ≤ count_one reached.first (Obj n))) → ReachedBy S r x ⊎ ((r ≡ self) × Reaches S.objects n x)
      go r x reached (inl a) = inl (holds_reached S r reached.first x a reached.reaches)
      go r x reached (inr b) = inr (b.0, subst (λ i. Reaches S.objects i x) (sym (object_equal reached.first n b.1)) reached.reaches)
  recv_stepped c (Chan d) is full =
      record {
        change = only_less tt (same_less _ refl (λ r n held. go r n (recv_held c (Chan d) r n held)));
        grounded = gives_grounded (emptied H c) good.grounded (Chan d) (all_left H.frame.slots);
        objects = same_objects;
      }
    where
      go : (r : Root) (n : ℕ) → Held S r n ⊎ ((r ≡ self) × (1 ≤ count_one n (Chan d))) → ReachedBy S r n
      go r n (inl a) = holds_reached S r n n a (here refl)
      go r n (inr b) = absurd (omega (arith, b.1))

  -- ---- Whichever way it was

  pub step_stepped : (x : Line) (S₁ : State) → Tame P → line_at P H.frame.block H.frame.line ≡ x → Step m P H x S₁ → {k₁ : ℕ} → Fits m P k₁ S₁
      → Stepped P S H.self (line_event H x) S₁
  unfolding line_event let_event
  step_stepped x S₁ tame at_line (by_value w v vs gave) fits₁ = operand_stepped w v vs gave
  step_stepped x S₁ tame at_line (by_field s f n read) fits₁ = rw read.target (field_stepped s f n read)
  step_stepped x S₁ tame at_line (by_swap s f w n u vs swapped) fits₁ =
      rw (target_held w s n swapped.gave swapped.target) (swap_stepped s f w n u vs swapped)
  step_stepped x S₁ tame at_line (by_call s i w j v vs called) fits₁ = call_stepped s i w j v vs called
  step_stepped x S₁ tame at_line (by_new c i ws ns vs made) fits₁ = new_stepped c i ws ns vs (tame_line P tame _ _ _ at_line) made fits₁
  step_stepped x S₁ tame at_line (by_cast c w n vs cast) fits₁ = operand_stepped w (Obj n) vs cast.gave
  step_stepped x S₁ tame at_line (by_spawn b room) fits₁ = spawn_stepped b
  step_stepped x S₁ tame at_line (by_put s w c n vs put) fits₁ = rw (put.sender, put.gave.value) (put_stepped s w c n vs put)
  step_stepped x S₁ tame at_line (by_sent s w i c taken) fits₁ =
      subst (λ d. Stepped P S H.self (put_event d (slot_at H.frame.slots (slot_of w))) (gives S H H.frame.slots (Chan c))) (sym taken.sender)
      (gives_stepped {e = Quiet} (Chan c) tt (all_left H.frame.slots) (channel_unreached c))
  step_stepped x S₁ tame at_line (by_recv s c received) fits₁ = rw received.target (recv_stepped c (channel_at S c).message refl received.full)
  step_stepped x S₁ tame at_line (by_copy c s n copied) fits₁ = rw copied.target (copy_stepped c s n (tame_line P tame _ _ _ at_line) copied fits₁)
  step_stepped x S₁ tame at_line (by_return w v vs f fs gave callers) fits₁ = return_stepped w v vs f fs gave callers
  step_stepped x S₁ tame at_line (by_finish w v vs gave callers) fits₁ = finish_stepped

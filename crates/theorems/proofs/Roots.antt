-- Two roots never reach one iso object that hangs from an iso: up from it each object is iso and has one holder, so that both come to one holder, and no
-- root but one holds that. A self slot counts for its thread, as the thread holds the object in another slot too.
use Prim.Native.Nat.{ℕ, zero, suc, ◌+◌, ◌≤◌, ◌<◌}
use native.Mathlib.Omega.{arith}
use mathlib.Core.Path.{◌≡◌, refl, ap}
use mathlib.Core.Bool.{false, false≢true}
use mathlib.Core.List.{List, [], ◌∷◌}
use mathlib.Core.Logic.{◌⊎◌, inl, inr}
use lib.Dec.{eqb}
use lib.ListN.{length, get_or}
use borrow.Author.Tests.{eqb-true, eqb-false}
use Rattle.rules.specs.declared.Cap.{Cap}
use Rattle.rules.specs.declared.Cap.TheVariants.{Imm, Iso, Local, Unsafe}
use Rattle.rules.specs.declared.Mosts.{Mosts}
use Rattle.rules.specs.Lists.{Every}
use Rattle.rules.specs.Script.{rank, Program, block_at}
use Rattle.rules.specs.State.{Object, no_object, Frame, Thread, no_thread, empty_channel, State, object_at, thread_at, channel_at}
use Rattle.rules.specs.Turn.{is_imm}
use Rattle.rules.specs.Fits.{Fits}
use Rattle.rules.specs.Reach.{count, Reaches, here, more, slots_of}
use Rattle.rules.specs.Holders.{total, in_fields, in_message}
use Rattle.theorems.specs.OneHolder.{without_self, other_slots, in_other_slots, other_holders, OneHolder}
use Rattle.theorems.specs.Separation.{Root, aThread, aChannel, held_in, ReachedBy}
use Rattle.rules.proofs.ListLaws.{by_bool, every_get, every_map}
use Rattle.rules.proofs.Counts.{sum_cases, count_append}
use Rattle.rules.proofs.Keeps.{each_frame, thread_fits, channel_fits}
use Rattle.rules.proofs.Reports.{slots_made, reached_range}
use Rattle.theorems.proofs.OneHolders.{self_slot, split_slots}

-- ---- What is reached

pub same_or_not : (a b : ℕ) → (a ≡ b) ⊎ (a ≡ b → ⊥)
same_or_not a b = by_bool (eqb a b) (λ e. inl (eqb-true a b e)) (λ e. inr (eqb-false a b e))

pub reaches_on : {os : List Object} {a b x : ℕ} → Reaches os a b → Reaches os b x → Reaches os a x
reaches_on p (here e) = rw (← e) p
reaches_on p (more q field) = more (reaches_on p q) field

abbrev pub Held : State → Root → ℕ → Type 0
Held S r n = 1 ≤ count n (held_in S r)

pub holds_reached : (S : State) (r : Root) (n x : ℕ) → Held S r n → Reaches S.objects n x → ReachedBy S r x
holds_reached S r n x held reaches = record { first = n; held = held; reaches = reaches }

-- the values of a root are of the state
pub root_reached_range : {m : Mosts} {P : Program} {k : ℕ} {S : State} → Fits m P k S → (r : Root) (x : ℕ) → ReachedBy S r x → x < length S.objects
unfolding held_in
root_reached_range {P = P} {S = S} fits (aThread t) x r =
    let fs = (thread_at S t).frames in
    reached_range fits (slots_of fs) (slots_made S fs (every_map (λ f l. l.slots) fs (each_frame P _ _ fs (thread_fits fits t).frames))) x r
root_reached_range {S = S} fits (aChannel c) x r = reached_range fits ((channel_at S c).message ∷ []) ((channel_fits fits c).message, tt) x r

-- ---- Capabilities by rank

pub not_imm : (c : Cap) → is_imm c ≡ false → 1 ≤ rank c
unfolding is_imm
not_imm Imm h = absurd (false≢true (rw h refl))
not_imm Iso h = omega arith
not_imm Local h = omega arith
not_imm Unsafe h = omega arith

is_iso_lem : (c : Cap) → rank c ≡ 1 → c ≡ Iso
is_iso_lem Imm e = absurd (omega arith)
is_iso_lem Iso e = refl
is_iso_lem Local e = absurd (omega arith)
is_iso_lem Unsafe e = absurd (omega arith)

-- no object holds one of a greater capability
pub record Under (os : List Object) : Type 0 where
  pub falls : (y x : ℕ) → 1 ≤ count x (object_at os y).fields → rank (object_at os x).cap ≤ rank (object_at os y).cap

pub reaches_under : (os : List Object) → Under os → (n x : ℕ) → Reaches os n x → rank (object_at os x).cap ≤ rank (object_at os n).cap
reaches_under os under n x (here e) = rw e (omega arith)
reaches_under os under n x (more {y = y} p field) = omega (arith, reaches_under os under n y p, under.falls y x field)

-- ---- A self slot's object is held in a frame below, in a slot that is no self slot

abbrev pub Grounded : Program → List Frame → Type 0
Grounded P [] = Unit {0}
Grounded P (f ∷ fs) = ((n : ℕ) → count n (self_slot (block_at P f.block).sort f.slots) ≤ count n (other_slots P fs)) × Grounded P fs

abbrev pub AllGrounded : Program → State → Type 0
AllGrounded P S = Every (λ (t : Thread). Grounded P t.frames) S.threads

-- so what a thread holds, it holds there
grounded_other : (P : Program) (n : ℕ) (fs : List Frame) → Grounded P fs → 1 ≤ count n (slots_of fs) → 1 ≤ count n (other_slots P fs)
unfolding slots_of other_slots
grounded_other P n [] grounded held = held
grounded_other P n (f ∷ fs) grounded held =
    let o = (block_at P f.block).sort in
    let all = count_append n (without_self o f.slots) (other_slots P fs) in
    elim (sum_cases (count n f.slots) (count n (slots_of fs)) (omega (arith, count_append n f.slots (slots_of fs)))) [
      | inl a ↦ omega (arith, grounded.0 n, split_slots n o f.slots)
      | inr b ↦ omega (arith, grounded_other P n fs grounded.1 b)
    ]

-- ---- Places that hold an object are among its holders

module _ {A : Type 0} (f : A → ℕ) where
  total_at : (l : List A) (i : ℕ) (d : A) → f d ≡ 0 → f (get_or l i d) ≤ total f l
  unfolding total
  total_at [] i d none = omega arith
  total_at (x ∷ l) zero d none = omega arith
  total_at (x ∷ l) (suc i) d none = omega (arith, total_at l i d none)

  total_at_two : (l : List A) (i j : ℕ) (d : A) → f d ≡ 0 → (i ≡ j → ⊥) → f (get_or l i d) + f (get_or l j d) ≤ total f l
  unfolding total
  total_at_two [] i j d none other = omega arith
  total_at_two (x ∷ l) zero zero d none other = absurd (other refl)
  total_at_two (x ∷ l) zero (suc j) d none other = omega (arith, total_at l j d none)
  total_at_two (x ∷ l) (suc i) zero d none other = omega (arith, total_at l i d none)
  total_at_two (x ∷ l) (suc i) (suc j) d none other = omega (arith, total_at_two l i j d none (λ e. other (ap suc e)))

-- the places of a root that hold object n, self slots left out
unfoldable places : Program → State → Root → ℕ → ℕ
places P S (aThread t) n = in_other_slots P n (thread_at S t)
places P S (aChannel c) n = in_message n (channel_at S c)

module _ (P : Program) (S : State) where
  held_places : AllGrounded P S → (r : Root) (n : ℕ) → Held S r n → 1 ≤ places P S r n
  unfolding places held_in in_other_slots in_message thread_at count
  held_places grounded (aThread t) n held =
      grounded_other P n (thread_at S t).frames (every_get (λ (x : Thread). Grounded P x.frames) S.threads t no_thread tt grounded) held
  held_places grounded (aChannel c) n held = omega arith

  two_roots : (r q : Root) (n : ℕ) → (r ≡ q → ⊥) → places P S r n + places P S q n ≤ other_holders P S n
  unfolding places other_holders thread_at channel_at in_other_slots other_slots in_message count
  two_roots (aThread t) (aThread u) n other = omega (arith, total_at_two (in_other_slots P n) S.threads t u no_thread refl (λ e. other (ap aThread e)))
  two_roots (aThread t) (aChannel c) n other =
      omega (arith, total_at (in_other_slots P n) S.threads t no_thread refl, total_at (in_message n) S.channels c empty_channel refl)
  two_roots (aChannel c) (aThread t) n other =
      omega (arith, total_at (in_other_slots P n) S.threads t no_thread refl, total_at (in_message n) S.channels c empty_channel refl)
  two_roots (aChannel c) (aChannel d) n other = omega (arith, total_at_two (in_message n) S.channels c d empty_channel refl (λ e. other (ap aChannel e)))

  root_and_field : (r : Root) (y n : ℕ) → places P S r n + count n (object_at S.objects y).fields ≤ other_holders P S n
  unfolding places other_holders thread_at channel_at in_other_slots other_slots in_message object_at in_fields count
  root_and_field (aThread t) y n =
      omega (arith, total_at (in_other_slots P n) S.threads t no_thread refl, total_at (in_fields n) S.objects y no_object refl)
  root_and_field (aChannel c) y n =
      omega (arith, total_at (in_message n) S.channels c empty_channel refl, total_at (in_fields n) S.objects y no_object refl)

  two_fields : (y z n : ℕ) → (y ≡ z → ⊥) → count n (object_at S.objects y).fields + count n (object_at S.objects z).fields ≤ other_holders P S n
  unfolding other_holders object_at in_fields count
  two_fields y z n other = omega (arith, total_at_two (in_fields n) S.objects y z no_object refl other)

  -- ---- No iso object is reached by two roots, one of which holds an iso from which it is reached

  module _ (one : OneHolder P S) (grounded : AllGrounded P S) (under : Under S.objects) (r q : Root) (other : r ≡ q → ⊥) (m n : ℕ)
      (held-m : Held S r m) (held-n : Held S q n) (iso : rank (object_at S.objects m).cap ≡ 1) where
    pub never_meet : (x : ℕ) → rank (object_at S.objects x).cap ≡ 1 → Reaches S.objects m x → Reaches S.objects n x → ⊥
    never_meet x is (here e) (here f) =
        let a : 1 ≤ places P S r x = rw (← e) (held_places grounded r m held-m) in
        let b : 1 ≤ places P S q x = rw (← f) (held_places grounded q n held-n) in
        omega (arith, two_roots r q x other, one.at_most_one x (is_iso_lem _ is))
    never_meet x is (here e) (more {y = z} b g) =
        let a : 1 ≤ places P S r x = rw (← e) (held_places grounded r m held-m) in
        omega (arith, root_and_field r z x, one.at_most_one x (is_iso_lem _ is))
    never_meet x is (more {y = y} a e) (here f) =
        let b : 1 ≤ places P S q x = rw (← f) (held_places grounded q n held-n) in
        omega (arith, root_and_field q y x, one.at_most_one x (is_iso_lem _ is))
    never_meet x is (more {y = y} a e) (more {y = z} b g) =
        go (same_or_not y z) (never_meet y (omega (arith, reaches_under S.objects under m y a, under.falls y x e)) a)
      where
        go : (y ≡ z) ⊎ (y ≡ z → ⊥) → (Reaches S.objects n y → ⊥) → ⊥
        go (inl same) higher = higher (rw same b)
        go (inr not) higher = omega (arith, two_fields y z x not, one.at_most_one x (is_iso_lem _ is))

-- The copied graph is the source's, its numbers renamed: the objects met are those reached, each at one place of the walk, and the place is what a
-- copy's number adds to the old objects.
use Prim.Native.Nat.{ℕ, ◌+◌, ◌-◌, ◌≤◌, ◌<◌}
use native.Mathlib.Omega.{arith}
use mathlib.Core.Path.{◌≡◌, refl, sym, ap, ◌∙◌}
use mathlib.Core.Bool.{Bool, true, false, false≢true}
use mathlib.Core.List.{List, [], ◌∷◌, map}
use lib.Dec.{leb}
use lib.ListN.{length, get_or, length-append, length-map, get_or-map, get_or-append}
use lib.Seq.{get_or-append-add}
use borrow.Author.Tests.{le-leb, lt-leb}
use Rattle.rules.specs.declared.Cap.{Cap}
use Rattle.rules.specs.declared.Value.{Value}
use Rattle.rules.specs.declared.Value.TheVariants.{Absent, Obj, Chan}
use Rattle.rules.specs.declared.Ground.TheVariants.{Foreign}
use Rattle.rules.specs.declared.Mosts.{Mosts}
use Rattle.rules.specs.Numbers as No
use Rattle.rules.specs.Lists.{place_of, any}
use Rattle.rules.specs.Script.{Program, copy, bind}
use Rattle.rules.specs.State.{Object, no_object, Frame, State, object_at, slot_at}
use Rattle.rules.specs.Turn.{ok, stop, ◌>>=◌, ◌>>◌, check, permit, is_foreign, as_object, Here, objects_of, object, put_thread, put_objects, filled, gives, renamed, copy_of, copy_line, let_line, perform, turn_of, turn}
use Rattle.rules.specs.Reach.{count, times, Reaches, Walked}
use Rattle.theorems.specs.Copies.{renamed_by, AtCopy, Copied, CopyTurn}
use Rattle.rules.proofs.ListLaws.{by_bool, get_there, any_false, any_none}
use Rattle.rules.proofs.Counts.{object_self, object_equal, every_time, place_there}
use Rattle.rules.proofs.Walks.{walked_one, met_walked, met_reached}
use Rattle.rules.proofs.Moves.{met_here, with_copies, copied_state, Step, by_copy, here_at, stepped}
use Rattle.theorems.proofs.MetPlaces.{time_of_every, get_place, place_tells, times_get, place_get, walked_once, walked_first}

-- ---- What is met from one object is what it reaches, each once

module _ (H : Here) (n : ℕ) where
  is_walked : Walked (objects_of H) [] (Obj n ∷ []) (met_here H n)
  is_walked = met_walked (objects_of H) (Obj n ∷ [])

  reached_met : (x : ℕ) → Reaches (objects_of H) n x → 1 ≤ times x (met_here H n)
  unfolding count
  reached_met x r = (met_reached (objects_of H) (Obj n ∷ []) x).1 (record { first = n; held = omega (arith, object_self n); reaches = r })

  met_is_reached : (x : ℕ) → 1 ≤ times x (met_here H n) → Reaches (objects_of H) n x
  unfolding count
  met_is_reached x h =
      let r = (met_reached (objects_of H) (Obj n ∷ []) x).0 h in
      rw (object_equal r.first n (omega (arith, r.held))) r.reaches

  met_once : (x : ℕ) → times x (met_here H n) ≤ 1
  unfolding times
  met_once = walked_once (objects_of H) is_walked (λ x. omega arith)

-- ---- The state that a copy leaves

renamed_is : (b : ℕ) (met : List ℕ) (vs : List Value) → map (renamed b met) vs ≡ map (renamed_by (λ x. b + place_of x met)) vs
unfolding renamed renamed_by
renamed_is b met [] = refl
renamed_is b met (Absent ∷ vs) = ap (Absent ∷◌) (renamed_is b met vs)
renamed_is b met (Obj n ∷ vs) = ap (Obj (b + place_of n met) ∷◌) (renamed_is b met vs)
renamed_is b met (Chan c ∷ vs) = ap (Chan c ∷◌) (renamed_is b met vs)

module _ (H : Here) (k : Cap) (n : ℕ) where
  abbrev met : List ℕ
  met = met_here H n

  -- the number of the copy of object x
  number : ℕ → ℕ
  number x = length (objects_of H) + place_of x met

  many : length (with_copies H k n) ≡ length (objects_of H) + length met
  many = length-append (objects_of H) (map (copy_of H k met) met) ∙ ap (length (objects_of H) +◌) (length-map met (copy_of H k met))

  copy_at : (x : ℕ) → Reaches (objects_of H) n x → object_at (with_copies H k n) (number x) ≡ copy_of H k met x
  unfolding object_at number
  copy_at x r =
      let there = place_there x met (reached_met H n x r) in
      get_or-append-add (objects_of H) (map (copy_of H k met) met) (place_of x met) no_object
      ∙ get_there (map (copy_of H k met) met) (place_of x met) no_object (copy_of H k met 0) (rw (length-map met (copy_of H k met)) there)
      ∙ get_or-map (copy_of H k met) met (place_of x met) 0
      ∙ ap (copy_of H k met) (get_place x met 0 (reached_met H n x r))

  first : number n ≡ length (objects_of H)
  unfolding number
  first = omega (arith, walked_first (objects_of H) (is_walked H n))

  no_other : (i : ℕ) → length (objects_of H) ≤ i → i < length (with_copies H k n) → (x : ℕ) × Reaches (objects_of H) n x × (number x ≡ i)
  unfolding number
  no_other i low high =
      let p : ℕ = i - length (objects_of H) in
      let there : p < length met = omega (arith, many) in
      (get_or met p 0, met_is_reached H n _ (times_get met p 0 there), omega (arith, place_get met p 0 (met_once H n) there))

  copied : Copied H.state (copied_state H k n) H.self H.frame H.callers k n
  unfolding gives put_thread put_objects filled number object_at object copy_of
  copied =
      record {
        copy_of = number;
        is_new = λ x r. (omega arith, omega (arith, many, place_there x met (reached_met H n x r)));
        one_to_one = λ x y r q e. place_tells x y met (reached_met H n x r) (reached_met H n y q) (omega arith);
        no_other = no_other;
        same_kind = λ x r. ap (λ (o : Object). o.kind) (copy_at x r);
        fields_renamed = λ x r. ap (λ (o : Object). o.fields) (copy_at x r) ∙ renamed_is (length (objects_of H)) met (object H x).fields;
        has_cap = λ x r. ap (λ (o : Object). o.cap) (copy_at x r);
        has_creator = λ x r. ap (λ (o : Object). o.creator) (copy_at x r);
        met = met;
        walked = is_walked H n;
        in_order = λ i there. ap (length (objects_of H) +◌) (place_get met i 0 (met_once H n) there);
        first = first;
        as_many = many;
        thread_goes_on = rw first refl;
        objects_kept = λ x there. get_or-append (objects_of H) (map (copy_of H k met) met) no_object x there;
        channels_kept = refl;
      }

-- ---- The checks, in their order

module _ (H : Here) (n : ℕ) where
  any_met : (f : ℕ → Bool) (x : ℕ) → Reaches (objects_of H) n x → f x ≡ true → any f (met_here H n) ≡ true
  any_met f x r passes =
      by_bool (any f (met_here H n)) (λ e. e)
      (λ e. absurd (false≢true (sym (time_of_every _ (met_here H n) (any_false f (met_here H n) e) x (reached_met H n x r)) ∙ passes)))

  none_met : (f : ℕ → Bool) → ((x : ℕ) → Reaches (objects_of H) n x → f x ≡ false) → any f (met_here H n) ≡ false
  none_met f fails = any_none f (met_here H n) (every_time _ (met_here H n) (λ x h. fails x (met_is_reached H n x h)))

module _ (m : Mosts) (H : Here) (k : Cap) (s : ℕ) where
  stops_absent : slot_at H.frame.slots s ≡ Absent → copy_line m H k s ≡ stop No.absent
  unfolding copy_line as_object ◌>>=◌
  stops_absent slot = rw slot refl

  stops_channel : (c : ℕ) → slot_at H.frame.slots s ≡ Chan c → copy_line m H k s ≡ stop No.wrong_thing
  unfolding copy_line as_object ◌>>=◌
  stops_channel c slot = rw slot refl

  stops_foreign : (n x : ℕ) → slot_at H.frame.slots s ≡ Obj n → Reaches (objects_of H) n x → is_foreign H.self (object H x) ≡ true
      → copy_line m H k s ≡ stop (No.permission Foreign)
  unfolding copy_line as_object ◌>>=◌ ◌>>◌ permit check
  stops_foreign n x slot r foreign = rw (slot, any_met H n (λ i. is_foreign H.self (object H i)) x r foreign) refl

  module _ (n : ℕ) (seen : List ℕ) (slot : slot_at H.frame.slots s ≡ Obj n) (near : (x : ℕ) → Reaches (objects_of H) n x → is_foreign H.self (object H x) ≡ false)
      (walked : Walked (objects_of H) [] (Obj n ∷ []) seen) where
    -- what is left is the check for room
    if_room : copy_line m H k s ≡ (check (leb (length (objects_of H) + length seen) m.objects) No.used_up >> ok (copied_state H k n))
    unfolding copy_line as_object ◌>>=◌ ◌>>◌ permit check
    if_room = rw (slot, none_met H n (λ i. is_foreign H.self (object H i)) near, walked_one (objects_of H) walked (is_walked H n)) refl

    stops_too_few : m.objects < length (objects_of H) + length seen → copy_line m H k s ≡ stop No.used_up
    unfolding ◌>>=◌ ◌>>◌ check
    stops_too_few few = if_room ∙ rw (lt-leb (length (objects_of H) + length seen) m.objects few) refl

    goes_on : length (objects_of H) + length seen ≤ m.objects → (S₁ : State) × (copy_line m H k s ≡ ok S₁)
    unfolding ◌>>=◌ ◌>>◌ check
    goes_on room = (copied_state H k n, if_room ∙ rw (le-leb (length (objects_of H) + length seen) m.objects room) refl)

-- ---- The turn

turn_copies : (m : Mosts) (P : Program) (S : State) (t : ℕ) (f : Frame) (callers : List Frame) (k : Cap) (s : ℕ) → AtCopy P S t f callers k s
    → turn m P S t ≡ copy_line m (here_at S t f callers) k s
unfolding turn turn_of perform let_line
turn_copies m P S t f callers k s at = rw (at.frames, at.line) refl

step_copied : {m : Mosts} {P : Program} {H : Here} {k : Cap} {s : ℕ} {S₁ : State} → Step m P H (bind (copy k s)) S₁
    → (n : ℕ) × (slot_at H.frame.slots s ≡ Obj n) × Copied H.state S₁ H.self H.frame H.callers k n
step_copied {H = H} (by_copy k s n facts) = (n, facts.target, copied H k n)

pub copy_turn : (m : Mosts) (P : Program) (S : State) (t : ℕ) (f : Frame) (callers : List Frame) (k : Cap) (s : ℕ) → AtCopy P S t f callers k s
    → CopyTurn m P S t f callers k s
unfolding perform let_line object
copy_turn m P S t f callers k s at =
    let is = turn_copies m P S t f callers k s at in
    let H = here_at S t f callers in
    record {
      absent = λ slot. is ∙ stops_absent m H k s slot;
      channel = λ c slot. is ∙ stops_channel m H k s c slot;
      foreign = λ n x slot r foreign. is ∙ stops_foreign m H k s n x slot r foreign;
      too_few = λ n met slot near walked few. is ∙ stops_too_few m H k s n met slot near walked few;
      moves = λ n met slot near walked room. let on = goes_on m H k s n met slot near walked room in (on.0, is ∙ on.1);
      copied = λ S₁ e. step_copied (stepped m P H (bind (copy k s)) S₁ (sym is ∙ e));
    }

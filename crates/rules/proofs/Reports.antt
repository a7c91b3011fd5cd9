-- A report lists exactly what a thread reaches, in rising order: the objects met, put in that order, are the one such list. It has no more than were made.
use Prim.Native.Nat.{ℕ, zero, suc, ◌≤◌, ◌<◌, zero-le}
use native.Mathlib.Omega.{arith}
use mathlib.Core.Path.{◌≡◌}
use mathlib.Core.Bool.{Bool, true}
use mathlib.Core.List.{List, [], ◌∷◌, append-nil}
use mathlib.Core.Logic.{◌↔◌}
use lib.Dec.{eqb}
use lib.ListN.{length}
use Rattle.rules.specs.declared.Value.{Value}
use Rattle.rules.specs.declared.Value.TheVariants.{Absent, Obj, Chan}
use Rattle.rules.specs.declared.Mosts.{Mosts}
use Rattle.rules.specs.Lists.{among, rising, Every}
use Rattle.rules.specs.Script.{Program, line_at}
use Rattle.rules.specs.State.{Object, Frame, Sender, ready, waiting, State, thread_at, channel_at}
use Rattle.rules.specs.Fits.{InRange, Fits}
use Rattle.rules.specs.Reach.{ReachedFrom, slots_of, message_of, message_on, send_target, put_by, in_flight, roots, Lists, OneList, reach_list}
use Rattle.rules.specs.Walk.{met_from}
use Rattle.rules.proofs.ListLaws.{by_bool, length_snoc, every_map, every_append, every_snoc}
use Rattle.rules.proofs.Keeps.{fields_in_range, each_frame, thread_fits, channel_fits}
use Rattle.rules.proofs.Counts.{times_among, among_times}
use Rattle.rules.proofs.Rising.{rising_has, rising_holds, rising_rises, rising_one}
use Rattle.rules.proofs.Walks.{walked_range, met_walked, met_reached}

-- ---- the one list of what is reached

lists_one : {os : List Object} {vs : List Value} {xs ys : List ℕ} → Lists os vs xs → Lists os vs ys → xs ≡ ys
lists_one {xs} {ys} a b =
    rising_one 0 xs ys a.rises b.rises (λ x. ((λ h. (b.reached x).1 ((a.reached x).0 h)), (λ h. (a.reached x).1 ((b.reached x).0 h))))

-- the numbers below n of which f holds, if f holds of what is reached and all of that is below n
pub rising_lists : {os : List Object} {vs : List Value} (n : ℕ) (f : ℕ → Bool) → ((x : ℕ) → (f x ≡ true) ↔ ReachedFrom os vs x)
    → ((x : ℕ) → ReachedFrom os vs x → x < n) → Lists os vs (rising n f)
rising_lists n f is low =
    record {
      reached = λ x. ((λ h. (is x).0 (rising_holds f n x h).1), (λ r. rising_has f n x (low x r) ((is x).1 r)));
      rises = rising_rises n f;
    }

-- ---- only made objects are reached

-- an object or channel of the state
abbrev pub Made : State → Value → Type 0
Made S = InRange (length S.objects) (length S.threads)

pub slots_made : (S : State) (fs : List Frame) → Every (λ f. Every (Made S) f.slots) fs → Every (Made S) (slots_of fs)
unfolding slots_of
slots_made S [] e = tt
slots_made S (f ∷ fs) e = every_append (Made S) f.slots (slots_of fs) e.0 (slots_made S fs e.1)

module _ {m : Mosts} {P : Program} {n : ℕ} {S : State} (fits : Fits m P n S) where
  message_made : (i : ℕ) (v : Value) → Made S (message_on S i v)
  unfolding message_on message_of
  message_made i Absent = tt
  message_made i (Obj k) = tt
  message_made i (Chan c) = by_bool (eqb (channel_at S c).number i) (λ e. rw e (channel_fits fits c).message) (λ e. rw e tt)

  put_made : (d : Sender) (fs : List Frame) → Made S (put_by P S d fs)
  unfolding put_by
  put_made ready fs = tt
  put_made (waiting i) [] = tt
  put_made (waiting i) (f ∷ fs) = message_made i (send_target (line_at P f.block f.line) f.slots)

  pub in_flight_made : (t : ℕ) → Made S (in_flight P S t)
  unfolding in_flight
  in_flight_made t = put_made (thread_at S t).sender (thread_at S t).frames

  pub roots_made : (t : ℕ) → Every (Made S) (roots P S t)
  unfolding roots
  roots_made t =
      let fs = (thread_at S t).frames in
      every_snoc (Made S) (slots_of fs) (in_flight P S t) (in_flight_made t) (slots_made S fs (every_map (λ f l. l.slots) fs (each_frame P _ _ fs (thread_fits fits t).frames)))

  pub reached_range : (vs : List Value) → Every (Made S) vs → (x : ℕ) → ReachedFrom S.objects vs x → x < length S.objects
  reached_range vs h x r =
      walked_range S.objects _ _ (fields_in_range fits) h (met_walked S.objects vs) x ((met_reached S.objects vs x).1 r)

  -- what a report lists is what is reached, in rising order, and no other list is
  pub reach_lists : (t : ℕ) → OneList S.objects (roots P S t) (reach_list S.objects (roots P S t))
  unfolding reach_list
  reach_lists t =
      let lists = rising_lists (length S.objects) (λ x. among x (met_from S.objects (roots P S t)))
      (λ x. ((λ h. (met_reached S.objects (roots P S t) x).0 (times_among x _ h)), (λ r. among_times x _ ((met_reached S.objects (roots P S t) x).1 r))))
      (reached_range (roots P S t) (roots_made t)) in
      record { lists = lists; only = λ other l. lists_one l lists }

-- ---- its length

length_rising : (f : ℕ → Bool) (n : ℕ) → length (rising n f) ≤ n
unfolding rising
length_rising f zero = zero-le
length_rising f (suc n) =
    by_bool (f n) (λ t. rw t (omega (arith, length_rising f n, length_snoc (rising n f) n))) (λ t. rw (t, append-nil (rising n f)) (omega (arith, length_rising f n)))

pub reach_few : (os : List Object) (vs : List Value) → length (reach_list os vs) ≤ length os
unfolding reach_list
reach_few os vs = length_rising (λ x. among x (met_from os vs)) (length os)

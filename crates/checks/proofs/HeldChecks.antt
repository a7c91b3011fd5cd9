-- The values that a new would hold: none is absent where its operands pass, so that the rest of the rule asks whether any of the four is a channel, foreign or above.
use Prim.Native.Nat.{ℕ, zero, suc, ◌≤◌, ◌<◌}
use native.Mathlib.Omega.{arith}
use mathlib.Core.Path.{◌≡◌, refl, sym, ap, ◌∙◌}
use mathlib.Core.Bool.{Bool, true, false, not, ◌||◌}
use mathlib.Core.List.{List, [], ◌∷◌, ◌++◌, map}
use lib.Dec.{ltb}
use lib.ListN.{length, take, replicate}
use borrow.Author.Tests.{lt-ltb, le-ltb}
use Rattle.rules.specs.Numbers as No
use Rattle.rules.specs.declared.Cap.{Cap}
use Rattle.rules.specs.declared.Value.{Value}
use Rattle.rules.specs.declared.Value.TheVariants.{Absent, Obj, Chan}
use Rattle.rules.specs.Mosts.{mosts}
use Rattle.rules.specs.Numbers as No
use Rattle.rules.specs.Lists.{any, pad, Every}
use Rattle.rules.specs.State.{State, object_at}
use Rattle.rules.specs.Turn.{Res, ok, stop, ◌>>=◌, ◌>>◌, check, permit, may_hold, is_foreign, is_absent, as_object, all_objects}
use Rattle.rules.proofs.ListLaws.{impossible, every_pad}
use Rattle.table.specs.StateTable.{Sees, Any}
use Rattle.checks.specs.Checked.{outcome_of, passed, Made, InObjects}
use Rattle.checks.proofs.CheckLaws.{number_of, stays, as_outcome}
use Rattle.checks.specs.NewItems.{hold_all, foreign_to, above, is_channel, AllInObjects, ChecksHeld}

-- ---- Channels among the values

-- no value is absent
abbrev pub AllThere : List Value → Type 0
AllThere us = Every (λ u. is_absent u ≡ false) us

channel_stops : (us : List Value) → AllThere us → any is_channel us ≡ true → all_objects us ≡ stop No.wrong_thing
unfolding any all_objects as_object is_absent ◌>>=◌
channel_stops [] there some = impossible cc
channel_stops (Absent ∷ us) there some = impossible cc
channel_stops (Obj n ∷ us) there some = rw (channel_stops us there.1 some) refl
channel_stops (Chan c ∷ us) there some = refl

objects_go : (us : List Value) → AllThere us → any is_channel us ≡ false → all_objects us ≡ ok (map number_of us)
unfolding any all_objects as_object is_absent ◌>>=◌
objects_go [] there none = refl
objects_go (Absent ∷ us) there none = impossible cc
objects_go (Obj n ∷ us) there none = rw (objects_go us there.1 none) refl
objects_go (Chan c ∷ us) there none = impossible cc

-- what is asked of the objects' numbers is asked of the values
any_number : (f : ℕ → Bool) (g : Value → Bool) → ((n : ℕ) → f n ≡ g (Obj n)) → (us : List Value) → AllThere us → any is_channel us ≡ false → any f (map number_of us) ≡ any g us
unfolding any is_absent
any_number f g same [] there none = refl
any_number f g same (Absent ∷ us) there none = impossible cc
any_number f g same (Obj n ∷ us) there none = rw (same n, any_number f g same us there.1 none) refl
any_number f g same (Chan c ∷ us) there none = impossible cc

no_channel_goes_on : (t : ℕ) (k : Cap) (S : State) (us : List Value) → AllThere us → any is_channel us ≡ false
    → hold_all t k S us ≡ (permit (any (foreign_to t S) us) false (any (above k S) us) >> check (ltb (length S.objects) mosts.objects) No.used_up)
unfolding hold_all ◌>>=◌
no_channel_goes_on t k S us there none =
    rw (objects_go us there none, any_number _ (foreign_to t S) (λ n. refl) us there none, any_number _ (above k S) (λ n. refl) us there none) refl

-- what is made up changes no answer
module _ {A : Type 0} (f : A → Bool) (d : A) (fails : f d ≡ false) where
  any_made_up : (n m : ℕ) → any f (take n (replicate m d)) ≡ false
  unfolding any
  any_made_up zero m = refl
  any_made_up (suc n) zero = refl
  any_made_up (suc n) (suc m) = rw fails (any_made_up n m)

  any_more : (n m : ℕ) (us : List A) → length us ≤ n → any f (take n (us ++ replicate m d)) ≡ any f us
  unfolding any
  any_more n m [] few = any_made_up n m
  any_more zero m (u ∷ us) few = absurd (omega arith)
  any_more (suc n) m (u ∷ us) few = ap (f u ||◌) (any_more n m us (omega arith))

any_pad : {A : Type 0} (f : A → Bool) (d : A) → f d ≡ false → (us vs : List A) → vs ≡ pad 4 d us → length us ≤ 4 → any f us ≡ any f vs
unfolding pad
any_pad f d fails us vs values few = sym (ap (any f) values ∙ any_more f d fails 4 4 us few)

-- ---- One value, as it is seen

-- what is seen of object n, where the value is that object
pub foreign_seen : {s : List ℕ} {v : Value} {n : ℕ} (t : ℕ) {r : Bool} → v ≡ Obj n → Sees s (Made n) (λ S. is_foreign t (object_at S.objects n)) r
    → Sees s (InObjects v) (λ S. foreign_to t S v) r
foreign_seen t is seen = record { sees = λ S rest held there. rw is (seen.sees S rest held (rw is at there)) }

pub above_seen : {s : List ℕ} {v : Value} {n : ℕ} (k : Cap) {c : Cap} {r : Bool} → v ≡ Obj n → Sees s (λ S. n < length S.objects) (λ S. (object_at S.objects n).cap) c → r ≡ may_hold k c
    → Sees s (InObjects v) (λ S. above k S v) (not r)
above_seen k is cap answer = record { sees = λ S rest held there. rw is (ap not answer ∙ ap (λ c. not (may_hold k c)) (cap.sees S rest held (rw is at there))) }

-- ---- new, past its operands: four values, of which no more than are given are made up

module _ (s : List ℕ) (t : ℕ) (k : Cap) {vs : List Value} where
  pub held_channel : any is_channel vs ≡ true → ChecksHeld s t k vs (stop No.wrong_thing)
  unfolding hold_all ◌>>=◌
  held_channel some =
      record { checks = λ us values few there. record { sees = λ S rest held made. rw (channel_stops us there (any_pad is_channel Absent refl us vs values few ∙ some)) refl } }

  module _ (none : any is_channel vs ≡ false) where
    -- what is asked of the values that are given is asked of all four
    of_all_four : {r : Res (Unit {0})} → Sees s (AllInObjects vs) (λ S. outcome_of (permit (any (foreign_to t S) vs) false (any (above k S) vs) >> check (ltb (length S.objects) mosts.objects) No.used_up)) r
        → ChecksHeld s t k vs r
    of_all_four answer =
        record {
          checks = λ us values few there. record {
            sees = λ S rest held made.
                rw (no_channel_goes_on t k S us there (any_pad is_channel Absent refl us vs values few ∙ none), any_pad (foreign_to t S) Absent refl us vs values few, any_pad (above k S) Absent refl us vs values few)
                (answer.sees S rest held (rw values (every_pad _ 4 Absent us tt made)));
          };
        }

    module _ {far over : Bool} (foreigns : Sees s (AllInObjects vs) (λ S. any (foreign_to t S) vs) far) (aboves : Sees s (AllInObjects vs) (λ S. any (above k S) vs) over) where
      pub held_forbidden : {a : Res (Unit {0})} → a ≡ permit far false over → passed a ≡ false → ChecksHeld s t k vs a
      unfolding ◌>>◌
      held_forbidden permission fails =
          of_all_four (record {
            sees = λ S rest held made. rw (← foreigns.sees S rest held made, ← aboves.sees S rest held made) (stays (permit _ _ _) _ fails (permission ∙ as_outcome _));
          })

      module _ {n : ℕ} (allowed : permit far false over ≡ ok tt) (count : Sees s Any (λ S. length S.objects) n) where
        pub held_passes : n < 256 → ChecksHeld s t k vs (ok tt)
        unfolding check ◌>>=◌ ◌>>◌
        held_passes room =
            of_all_four (record {
              sees = λ S rest held made.
                  rw (← foreigns.sees S rest held made, ← aboves.sees S rest held made, allowed, ← count.sees S rest held tt, lt-ltb n 256 room) refl;
            })

        pub held_used_up : 256 ≤ n → ChecksHeld s t k vs (stop No.used_up)
        unfolding check ◌>>=◌ ◌>>◌
        held_used_up full =
            of_all_four (record {
              sees = λ S rest held made.
                  rw (← foreigns.sees S rest held made, ← aboves.sees S rest held made, allowed, ← count.sees S rest held tt, le-ltb n 256 full) refl;
            })

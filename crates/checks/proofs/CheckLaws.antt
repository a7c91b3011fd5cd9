-- A rule's result as a check: where its first part does not pass, the whole answers the same; an operand that passes gives its slot's value.
use Prim.Native.Nat.{ℕ, ◌/◌, ◌<◌}
use mathlib.Core.Path.{◌≡◌, refl, sym, ap, ◌∙◌}
use mathlib.Core.Bool.{true, false}
use mathlib.Core.List.{List}
use lib.ListN.{set}
use Rattle.rules.specs.declared.Value.{Value}
use Rattle.rules.specs.declared.Value.TheVariants.{Absent, Obj, Chan}
use Rattle.rules.specs.Script.{Operand, reads, takes}
use Rattle.rules.specs.Reading.{slot_of}
use Rattle.rules.specs.State.{Object, slot_at}
use Rattle.rules.specs.Tables.{operand_of}
use Rattle.rules.specs.Turn.{Res, ok, wait, stop, ◌>>=◌, ◌>>◌, check, permit, is_iso_object, present, as_object, as_channel, operand, left_by}
use Rattle.rules.proofs.ListLaws.{impossible, by_bool}
use Rattle.rules.proofs.TableWords.{slot_of_word}
use Rattle.std.specs.Prelude.{Result}
use Rattle.std.specs.Result.{IsErrAnd}
use Rattle.std.proofs.lemmas.Result.{err_from_is_err_and}
use Rattle.rules.specs.Numbers as No
use Rattle.rules.specs.declared.faults.Fault.{Fault}
use Rattle.checks.specs.declared.form_checks.Halt.{Halt}
use Rattle.checks.specs.declared.form_checks.Halt.TheVariants.{Stops}
use Rattle.table.specs.StateTable.{InTable}
use Rattle.checks.specs.Checked.{result_of, checked, outcome_of, passed}

-- ---- Values

-- the number of an object or a channel
abbrev pub number_of : Value → ℕ
number_of Absent = 0
number_of (Obj n) = n
number_of (Chan c) = c

-- where the code found an object or a channel, it is that; a capability or a value compared as the rule does
pub object_is : {v : Value} {n : ℕ} → ok n ≡ as_object v → v ≡ Obj n
unfolding as_object
object_is {v = Absent} e = impossible cc
object_is {v = Obj m} e = cc
object_is {v = Chan c} e = impossible cc

pub channel_is : {v : Value} {c : ℕ} → ok c ≡ as_channel v → v ≡ Chan c
unfolding as_channel
channel_is {v = Absent} e = impossible cc
channel_is {v = Obj n} e = impossible cc
channel_is {v = Chan d} e = cc

-- and so it has a place in the table
pub object_place : (v : Value) (n : ℕ) → ok n ≡ as_object v → InTable v → n < 256
object_place v n is place = rw (object_is is) at place

pub channel_place : (v : Value) (c : ℕ) → ok c ≡ as_channel v → InTable v → c < 16
channel_place v c is place = rw (channel_is is) at place

-- ---- Any two parts

-- a result that passes and does not
pub no_both : {A : Type 0} (k : Res (Unit {0})) → passed k ≡ true → passed k ≡ false → A
no_both k passes fails = impossible cc

-- where the first part stops or waits, so does the whole
pub stays : {A B : Type 0} (x : Res A) (g : A → Res B) {k : Res (Unit {0})} → passed k ≡ false → k ≡ outcome_of x → k ≡ outcome_of (x >>= g)
unfolding ◌>>=◌
stays (ok a) g {k = k} fails e = no_both k (ap passed e) fails
stays wait g fails e = e
stays (stop n) g fails e = e

-- where it passes, the whole answers what the second part does
pub goes_on : {B : Type 0} (x : Res (Unit {0})) (y : Res B) {k : Res (Unit {0})} → passed k ≡ true → k ≡ outcome_of x → outcome_of (x >> y) ≡ outcome_of y
unfolding ◌>>◌ ◌>>=◌
goes_on (ok a) y passes e = refl
goes_on wait y {k = k} passes e = no_both k passes (ap passed e)
goes_on (stop n) y {k = k} passes e = no_both k passes (ap passed e)

-- what cannot fail after a part changes no answer
pub then_gives : {A B : Type 0} (x : Res A) (g : A → B) → outcome_of (x >>= λ a. ok (g a)) ≡ outcome_of x
unfolding ◌>>=◌
then_gives (ok a) g = refl
then_gives wait g = refl
then_gives (stop n) g = refl

pub then_ok : {A B : Type 0} (x : Res A) (b : B) → outcome_of x ≡ outcome_of (x >> ok b)
unfolding ◌>>◌
then_ok x b = sym (then_gives x (λ _. b))

-- a part that gives nothing is its own outcome
pub as_outcome : (x : Res (Unit {0})) → x ≡ outcome_of x
as_outcome (ok a) = refl
as_outcome wait = refl
as_outcome (stop n) = refl

-- where the rests answer the same, so do the wholes
pub same_after : {A B C : Type 0} (x : Res A) (g : A → Res B) (g' : A → Res C) → ((a : A) → outcome_of (g a) ≡ outcome_of (g' a)) → outcome_of (x >>= g) ≡ outcome_of (x >>= g')
unfolding ◌>>=◌
same_after (ok a) g g' same = same a
same_after wait g g' same = refl
same_after (stop n) g g' same = refl

-- what a `?` hands on is the same stop
pub stop_handed : {A : Type 0} (x : Fault) (r : Result A Halt) → IsErrAnd r (λ h. h ≡ Stops x) → result_of r ≡ stop (No.number x)
stop_handed x r is = let p = err_from_is_err_and r is in rw (p.1, p.2) refl

pub fault_handed : {A : Type 0} (x : Fault) (r : Result A Fault) → IsErrAnd r (λ f. f ≡ x) → checked r ≡ stop (No.number x)
fault_handed x r is = let p = err_from_is_err_and r is in rw (p.1, p.2) refl

-- ---- An operand first

-- what an operand gives where its slot holds v
module _ (os : List Object) (vs : List Value) where
  abbrev reading : Value → Res (Value × List Value)
  reading v = present v >>= λ u. permit false (is_iso_object os u) false >> ok (u, vs)

  abbrev taking : Value → Res (Value × List Value)
  taking v = present v >>= λ u. ok (u, vs)

  reading_gives : (v : Value) {k : Res (Unit {0})} → passed k ≡ true → k ≡ outcome_of (reading v) → reading v ≡ ok (v, vs)
  unfolding present permit check ◌>>=◌ ◌>>◌
  reading_gives Absent {k = k} passes e = no_both k passes (ap passed e)
  reading_gives (Obj n) {k = k} passes e = by_bool (is_iso_object os (Obj n)) (λ t. no_both k passes (ap passed (rw t at e))) (λ t. rw t refl)
  reading_gives (Chan c) {k = k} passes e = by_bool (is_iso_object os (Chan c)) (λ t. no_both k passes (ap passed (rw t at e))) (λ t. rw t refl)

  taking_gives : (v : Value) {k : Res (Unit {0})} → passed k ≡ true → k ≡ outcome_of (taking v) → taking v ≡ ok (v, vs)
  unfolding present ◌>>=◌
  taking_gives Absent {k = k} passes e = no_both k passes (ap passed e)
  taking_gives (Obj n) passes e = refl
  taking_gives (Chan c) passes e = refl

-- an operand that passes gives its slot's value
pub given : (os : List Object) (vs : List Value) (w : Operand) {k : Res (Unit {0})} → passed k ≡ true → k ≡ outcome_of (operand os vs w) → operand os vs w ≡ ok (slot_at vs (slot_of w), left_by vs w)
unfolding operand
given os vs (reads s) passes e = reading_gives os vs (slot_at vs s) passes e
given os vs (takes s) passes e = taking_gives os (set vs s Absent) (slot_at vs s) passes e

-- the operand of word w, where it passes, gives its slot's value and the slots that it leaves
pub operand_gives : (os : List Object) (vs : List Value) (w : ℕ) {k : Res (Unit {0})} → passed k ≡ true → k ≡ outcome_of (operand os vs (operand_of w))
    → operand os vs (operand_of w) ≡ ok (slot_at vs (w / 2), left_by vs (operand_of w))
operand_gives os vs w passes e = given os vs (operand_of w) passes e ∙ ap (λ (i : ℕ). ok (slot_at vs i, left_by vs (operand_of w))) (slot_of_word w)

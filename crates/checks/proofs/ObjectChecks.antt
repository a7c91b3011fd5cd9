-- Each way out of the checks of field and swap: under the facts of that way the rule computes to the check's answer.
use Prim.Native.Nat.{ℕ, ◌/◌, ◌%◌, ◌<◌}
use mathlib.Core.Path.{◌≡◌, refl, sym, ◌∙◌, subst}
use mathlib.Core.Bool.{Bool, true, false, not, ◌||◌}
use mathlib.Core.List.{List, [], ◌∷◌}
use lib.Dec.{ltb, eqb}
use lib.ListN.{length, get_or, get_or-eq_default}
use borrow.Author.Tests.{ltb-false}
use Rattle.rules.specs.Numbers as No
use Rattle.rules.specs.declared.Cap.{Cap}
use Rattle.rules.specs.declared.Value.{Value}
use Rattle.rules.specs.declared.Value.TheVariants.{Absent, Obj, Chan}
use Rattle.rules.specs.Mosts.{mosts}
use Rattle.rules.specs.Numbers as No
use Rattle.rules.specs.Lists.{Every}
use Rattle.rules.specs.Script.{Program}
use Rattle.rules.specs.State.{Object, Frame, State, object_at, slot_at}
use Rattle.rules.specs.Tables.{operand_of}
use Rattle.rules.specs.Turn.{Res, stop, ◌>>=◌, ◌>>◌, check, permit, is_imm, is_local, may_hold, is_foreign, is_absent, is_iso_object, as_object, object, field_line, are_apart, permit_swap, swap_line}
use Rattle.rules.specs.Fits.{IsObject}
use Rattle.rules.proofs.ListLaws.{by_bool, below, every_at}
use Rattle.table.specs.declared.standing.Here.{Here}
use Rattle.table.specs.StateTable.{Sees, FieldIn}
use Rattle.checks.specs.Checked.{outcome_of, passed, Made, Fielded, InObjects, swap_into, here_at, Stand, Named, Checks}
use Rattle.checks.proofs.CheckLaws.{stays, as_outcome, then_ok, same_after}
use Rattle.checks.proofs.Standing.{SlotSeen, TargetSeen, OperandChecked, field_in, slot_in_objects, slot_object, fielded, field_in_objects, slot_read, target_read, target_object, operand_goes}

-- ---- A field that is there

object_is_there : (o : ℕ) (v : Value) → IsObject o v → is_absent v ≡ false
unfolding is_absent
object_is_there o Absent h = absurd h
object_is_there o (Obj n) h = refl
object_is_there o (Chan c) h = absurd h

-- each field is an object: a place past them alone reads absent
has_field : (o : ℕ) (vs : List Value) (j : ℕ) → Every (IsObject o) vs → ltb j (length vs) ≡ not (is_absent (slot_at vs j))
unfolding slot_at is_absent
has_field o vs j h = by_bool (ltb j (length vs))
    (λ t. rw (t, object_is_there o (get_or vs j Absent) (every_at (IsObject o) vs j Absent (below t) h)))
    (λ t. rw (t, get_or-eq_default vs Absent (ltb-false j (length vs) t)))

-- ---- field: the target x in slot i

module _ {s : List ℕ} {h : Here} (i j : ℕ) {x : Value} (target : SlotSeen s h (i % 16) x) where
  pub field_no_object : {n : ℕ} → stop n ≡ as_object x → Checks s h (i ∷ []) (λ P H. field_line H i j) (stop n)
  unfolding field_line ◌>>=◌
  field_no_object is = record { checks = λ P n S f fs rest st named. rw (slot_read st i _ refl target named.0, ← is) refl }

  -- object o, whose field j reads v
  module _ {o : ℕ} {v : Value} (is : x ≡ Obj o) (field : Sees s (FieldIn o j) (λ S. slot_at (object_at S.objects o).fields j) v) where
    module _ {P : Program} {n : ℕ} {S : State} {f : Frame} {fs : List Frame} {rest : List ℕ} (st : Stand s h P n S f fs rest) (named : Named (i ∷ []) f) where
      made : o < length S.objects
      made = slot_object st i o (slot_read st i _ refl target named.0 ∙ is)

      field_is : v ≡ slot_at (object_at S.objects o).fields j
      field_is = field.sees S rest st.held (field_in o j (fielded st o made))

      field_there : InObjects v S
      field_there = rw field_is (field_in_objects st o j made)

      -- the answer by what the code reads: the field, whether the target is another thread's, whether the field holds an iso
      field_answer : outcome_of (check (not (is_absent v)) No.no_field >> permit (is_foreign h.thread (object_at S.objects o)) (is_iso_object S.objects v) false)
          ≡ outcome_of (field_line (here_at S h.thread f fs) i j)
      unfolding field_line as_object object ◌>>=◌ ◌>>◌
      field_answer =
          rw (slot_read st i _ refl target named.0 ∙ is, field_is, has_field mosts.objects (object_at S.objects o).fields j (fielded st o made).fields)
          (same_after (check _ No.no_field) _ _ λ _. then_ok (permit _ _ false) _)

    pub field_missing : is_absent v ≡ true → Checks s h (i ∷ []) (λ P H. field_line H i j) (stop No.no_field)
    unfolding check ◌>>◌ ◌>>=◌
    field_missing missing = record { checks = λ P n S f fs rest st named. let answer = field_answer st named in rw missing at answer }

    pub field_answered : {far iso : Bool} {k : Res (Unit {0})} → is_absent v ≡ false → Sees s (Made o) (λ S. is_foreign h.thread (object_at S.objects o)) far
        → Sees s (InObjects v) (λ S. is_iso_object S.objects v) iso → k ≡ permit far iso false → Checks s h (i ∷ []) (λ P H. field_line H i j) k
    unfolding check ◌>>◌ ◌>>=◌
    field_answered there foreign alias permission =
        record {
          checks = λ P n S f fs rest st named.
              let answer = field_answer st named in
              permission ∙ as_outcome _ ∙ (rw (there, sym (foreign.sees S rest st.held (made st named)), sym (alias.sees S rest st.held (field_there st named))) at answer);
        }

-- ---- swap: what may go into what

-- objects n and m, as they are seen: both local with other creators, or not, since one of them is not local
module _ {s : List ℕ} {n m : ℕ} {k : Cap} (cap : Sees s (Made n) (λ S. (object_at S.objects n).cap) k) where
  pub not_local_not_apart : is_local k ≡ false → Sees s (λ S. Made n S × Made m S) (λ S. are_apart (object_at S.objects n) (object_at S.objects m)) false
  unfolding are_apart
  not_local_not_apart not_local = record { sees = λ S rest held made. rw (← cap.sees S rest held made.0, not_local) refl }

  module _ {l : Cap} (local : is_local k ≡ true) (value-cap : Sees s (Made m) (λ S. (object_at S.objects m).cap) l) where
    pub value_not_local : is_local l ≡ false → Sees s (λ S. Made n S × Made m S) (λ S. are_apart (object_at S.objects n) (object_at S.objects m)) false
    unfolding are_apart
    value_not_local not_local = record { sees = λ S rest held made. rw (← cap.sees S rest held made.0, ← value-cap.sees S rest held made.1, local, not_local) refl }

    pub apart_seen : {a b : ℕ} → is_local l ≡ true → Sees s (Made n) (λ S. (object_at S.objects n).creator) a → Sees s (Made m) (λ S. (object_at S.objects m).creator) b
        → Sees s (λ S. Made n S × Made m S) (λ S. are_apart (object_at S.objects n) (object_at S.objects m)) (not (eqb a b))
    unfolding are_apart
    apart_seen value-local creator value-creator =
        record {
          sees = λ S rest held made.
              rw (← cap.sees S rest held made.0, ← value-cap.sees S rest held made.1, ← creator.sees S rest held made.0, ← value-creator.sees S rest held made.1, local, value-local) refl;
        }

-- object u into object o, by thread t
pub into_answered : (t : ℕ) (o u : Object) (k : Res (Unit {0})) {far imm holds : Bool} → far ≡ (is_foreign t o || are_apart o u) → imm ≡ is_imm o.cap → holds ≡ may_hold o.cap u.cap
    → k ≡ permit far false (imm || not holds) → k ≡ outcome_of (permit_swap t o u)
unfolding permit_swap
into_answered t o u k foreign imm may_hold_lem permission = rw (← foreign, ← imm, ← may_hold_lem) (permission ∙ as_outcome _)

-- into field j of object n
module _ (t : ℕ) (os : List Object) (n j : ℕ) where
  pub into_no_object : (v : Value) {m : ℕ} → stop m ≡ as_object v → stop m ≡ outcome_of (swap_into t os n j v)
  unfolding swap_into ◌>>=◌
  into_no_object v is = rw (← is) refl

  module _ (m : ℕ) (fields : Every (IsObject mosts.objects) (object_at os n).fields) where
    pub into_missing : is_absent (slot_at (object_at os n).fields j) ≡ true → (stop No.no_field) ≡ outcome_of (swap_into t os n j (Obj m))
    unfolding swap_into as_object check ◌>>=◌ ◌>>◌
    into_missing missing = rw (has_field mosts.objects (object_at os n).fields j fields, missing)

    pub into_field : is_absent (slot_at (object_at os n).fields j) ≡ false → outcome_of (permit_swap t (object_at os n) (object_at os m)) ≡ outcome_of (swap_into t os n j (Obj m))
    unfolding swap_into as_object check ◌>>=◌ ◌>>◌
    into_field there = rw (has_field mosts.objects (object_at os n).fields j fields, there)

-- ---- swap: the operand's word w, the target x in slot i as the operand leaves it

module _ {s : List ℕ} {h : Here} (i j w : ℕ) {k : Res (Unit {0})} (first : OperandChecked s h w k) where
  pub swap_no_operand : passed k ≡ false → Checks s h (i ∷ w / 2 ∷ []) (λ P H. swap_line H i j (operand_of w)) k
  unfolding swap_line
  swap_no_operand fails = record { checks = λ P n S f fs rest st named. stays _ _ fails (first.checks P n S f fs rest st named.1) }

  module _ {x : Value} (goes : passed k ≡ true) (target : TargetSeen s h i w x) where
    pub swap_no_object : {n : ℕ} → stop n ≡ as_object x → Checks s h (i ∷ w / 2 ∷ []) (λ P H. swap_line H i j (operand_of w)) (stop n)
    unfolding swap_line ◌>>=◌
    swap_no_object is = record { checks = λ P n S f fs rest st named. rw (operand_goes st w first goes named.1.0, target_read st i w target named.0, ← is) refl }

    -- the value v, read at the place r; nothing after its own checks can stop
    pub swap_of_object : {o r : ℕ} {v : Value} {a : Res (Unit {0})} → x ≡ Obj o → r ≡ w / 2 % 16 → SlotSeen s h r v
        → Sees s (λ S. Fielded o S × InObjects v S) (λ S. outcome_of (swap_into h.thread S.objects o j v)) a → Checks s h (i ∷ w / 2 ∷ []) (λ P H. swap_line H i j (operand_of w)) a
    unfolding swap_line swap_into object as_object ◌>>=◌ ◌>>◌
    swap_of_object {o} {r} {v} is place value into =
        record {
          checks = λ P n S f fs rest st named.
              let value-is = slot_read st (w / 2) r place value named.1.0 in
              let target_is = target_read st i w target named.0 ∙ is in
              let there = subst (λ u. InObjects u S) value-is (slot_in_objects st (w / 2)) in
              into.sees S rest st.held (fielded st o (target_object st i w o target_is), there)
              ∙ rw (operand_goes st w first goes named.1.0, target_is, value-is)
              (same_after (as_object v) _ _ λ u. same_after (check _ No.no_field) _ _ λ _. then_ok (permit_swap h.thread _ _) _);
        }

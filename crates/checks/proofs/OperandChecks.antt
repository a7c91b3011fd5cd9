-- Each way out of the checks of an operand and of cast: under the facts of that way the rule computes to the check's answer.
use Prim.Native.Nat.{ℕ, zero, suc, ◌+◌, ◌*◌, ◌/◌, ◌%◌, ◌<◌}
use native.Mathlib.Nat.{mod-eq_of_lt}
use native.Mathlib.Omega.{arith}
use mathlib.Core.Path.{◌≡◌, refl, sym, ap, ◌∙◌, subst}
use mathlib.Core.Bool.{Bool, true, false, not}
use mathlib.Core.List.{List, [], ◌∷◌}
use lib.Dec.{eqb}
use lib.ListN.{length, set}
use lib.Seq.{get_or-set_other}
use borrow.Author.Tests.{eqb-true, eq-eqb, ne_eqb}
use Rattle.rules.specs.Numbers as No
use Rattle.rules.specs.declared.Cap.{Cap}
use Rattle.rules.specs.declared.Value.{Value}
use Rattle.rules.specs.declared.Value.TheVariants.{Absent, Obj, Chan}
use Rattle.rules.specs.Script.{Program}
use Rattle.rules.specs.State.{Frame, State, object_at, slot_at}
use Rattle.rules.specs.Tables.{operand_of}
use Rattle.rules.specs.Turn.{Res, ok, stop, ◌>>=◌, ◌>>◌, check, permit, is_iso, is_local, same_cap, is_foreign, is_iso_object, present, as_object, operand, left_by, object, cast_line}
use Rattle.rules.proofs.ListLaws.{by_bool}
use Rattle.table.specs.declared.standing.Here.{Here}
use Rattle.table.specs.StateTable.{InTable, Sees, frame_at}
use Rattle.checks.specs.Checked.{passed, Made, InObjects, Stand, Checks}
use Rattle.checks.proofs.CheckLaws.{stays, as_outcome, then_ok}
use Rattle.checks.proofs.Standing.{SlotSeen, TargetSeen, OperandChecked, slot_object, slot_read, operand_goes}

-- ---- An operand: its word w, its slot's value v

pub seen_at_half : {s : List ℕ} (h : Here) {r : ℕ} {v : Value} (w : ℕ) → r ≡ w / 2 % 16 → SlotSeen s h r v → SlotSeen s h (w / 2 % 16) v
seen_at_half {s = s} h {v = v} w place slot = subst (λ i. SlotSeen s h i v) place slot

module _ {s : List ℕ} {h : Here} {r : ℕ} {v : Value} (w : ℕ) (place : r ≡ w / 2 % 16) (slot : SlotSeen s h r v) where
  pub operand_absent : v ≡ Absent → OperandChecked s h w (stop No.absent)
  unfolding operand present ◌>>=◌
  operand_absent is =
      record {
        checks = λ P n S f fs rest st named.
            let value = slot_read st (w / 2) _ place slot named.0 ∙ is in
            by_bool (eqb (w % 2) 1) (λ t. rw (t, value) refl) (λ t. rw (t, value) refl);
      }

  pub operand_channel : {c : ℕ} → v ≡ Chan c → OperandChecked s h w (ok tt)
  unfolding operand present permit check is_iso_object ◌>>=◌ ◌>>◌
  operand_channel is =
      record {
        checks = λ P n S f fs rest st named.
            let value = slot_read st (w / 2) _ place slot named.0 ∙ is in
            by_bool (eqb (w % 2) 1) (λ t. rw (t, value) refl) (λ t. rw (t, value) refl);
      }

  module _ {o : ℕ} (is : v ≡ Obj o) where
    pub operand_taken : w % 2 ≡ 1 → OperandChecked s h w (ok tt)
    unfolding operand present ◌>>=◌
    operand_taken takes =
        record { checks = λ P n S f fs rest st named. rw (eq-eqb (w % 2) 1 takes, slot_read st (w / 2) _ place slot named.0 ∙ is) refl }

    pub operand_read : {k : Cap} {b : Bool} {a : Res (Unit {0})} → (w % 2 ≡ 1 → ⊥) → Sees s (λ S. o < length S.objects) (λ S. (object_at S.objects o).cap) k → b ≡ is_iso k
        → a ≡ permit false b false → OperandChecked s h w a
    unfolding operand present is_iso_object ◌>>=◌
    operand_read reads cap iso permission =
        record {
          checks = λ P n S f fs rest st named.
              let value = slot_read st (w / 2) _ place slot named.0 ∙ is in
              let iso-is = iso ∙ ap is_iso (cap.sees S rest st.held (slot_object st (w / 2) o value)) in
              rw (ne_eqb (w % 2) 1 reads, value, ← iso-is) (permission ∙ as_outcome _ ∙ then_ok (permit _ _ _) _);
        }

-- ---- A slot as the operand leaves it

absent_where_set : (vs : List Value) (i : ℕ) → slot_at (set vs i Absent) i ≡ Absent
unfolding slot_at
absent_where_set [] i = refl
absent_where_set (v ∷ vs) zero = refl
absent_where_set (v ∷ vs) (suc i) = absent_where_set vs i

pub slot_taken : (vs : List Value) (i w : ℕ) → w ≡ i * 2 + 1 → Absent ≡ slot_at (left_by vs (operand_of w)) i
slot_taken vs i w e =
    let odd : w % 2 ≡ 1 = omega arith in
    let half : w / 2 ≡ i = omega arith in
    rw (odd, half) (sym (absent_where_set vs i))

pub slot_left : (vs : List Value) (i w : ℕ) → (w ≡ i * 2 + 1 → ⊥) → slot_at (left_by vs (operand_of w)) i ≡ slot_at vs i
unfolding slot_at
slot_left vs i w other = by_bool (eqb (w % 2) 1)
    (λ t. let odd = eqb-true (w % 2) 1 t in rw t (get_or-set_other vs (w / 2) i Absent Absent (λ e. other (omega arith))))
    (λ t. rw t refl)

module _ (s : List ℕ) (h : Here) (i w : ℕ) where
  pub taken_seen : w ≡ i * 2 + 1 → TargetSeen s h i w Absent
  taken_seen takes = record { sees = λ S rest held there. slot_taken (frame_at S h.thread h.depth).slots i w takes }

  pub left_seen : (r : ℕ) (v : Value) → r ≡ i % 16 → SlotSeen s h r v → (w ≡ i * 2 + 1 → ⊥) → TargetSeen s h i w v
  left_seen r v place seen other =
      record {
        sees = λ S rest held there.
            let at : r ≡ i = place ∙ mod-eq_of_lt there.0 in
            let vs = (frame_at S h.thread h.depth).slots in
            seen.sees S rest held (subst (λ j. InTable (slot_at vs j)) (sym at) there.1) ∙ ap (slot_at vs) at ∙ sym (slot_left vs i w other);
      }

-- ---- cast: the operand's word w, its value v

module _ {s : List ℕ} {h : Here} {k : Res (Unit {0})} (w : ℕ) (c : Cap) (first : OperandChecked s h w k) where
  abbrev CastGives : Res (Unit {0}) → Type 0
  CastGives j = Checks s h (w / 2 ∷ []) (λ P H. cast_line H c (operand_of w)) j

  pub cast_no_operand : passed k ≡ false → CastGives k
  unfolding cast_line
  cast_no_operand fails = record { checks = λ P n S f fs rest st named. stays _ _ fails (first.checks P n S f fs rest st named) }

  module _ {r : ℕ} {v : Value} (goes : passed k ≡ true) (place : r ≡ w / 2 % 16) (slot : SlotSeen s h r v) where
    pub cast_no_object : {n : ℕ} → stop n ≡ as_object v → CastGives (stop n)
    unfolding cast_line ◌>>=◌
    cast_no_object is = record { checks = λ P n S f fs rest st named. rw (operand_goes st w first goes named.0, slot_read st (w / 2) _ place slot named.0, ← is) refl }

    module _ {o : ℕ} {a : Cap} (is : v ≡ Obj o) (cap : Sees s (λ S. o < length S.objects) (λ S. (object_at S.objects o).cap) a) where
      same_is : {P : Program} {n : ℕ} {S : State} {f : Frame} {fs : List Frame} {rest : List ℕ} → Stand s h P n S f fs rest → w / 2 < length f.slots
          → same_cap (object_at S.objects o).cap c ≡ same_cap a c
      same_is {S = S} {rest = rest} st filled =
          ap (λ (b : Cap). same_cap b c) (sym (cap.sees S rest st.held (slot_object st (w / 2) o (slot_read st (w / 2) _ place slot filled ∙ is))))

      pub cast_same : same_cap a c ≡ true → CastGives (ok tt)
      unfolding cast_line as_object object check ◌>>=◌ ◌>>◌
      cast_same same =
          record {
            checks = λ P n S f fs rest st named.
                rw (operand_goes st w first goes named.0, slot_read st (w / 2) _ place slot named.0 ∙ is, same_is st named.0 ∙ same) refl;
          }

      pub cast_other : same_cap a c ≡ false → CastGives (stop No.cast)
      unfolding cast_line as_object object check ◌>>=◌ ◌>>◌
      cast_other other =
          record {
            checks = λ P n S f fs rest st named.
                rw (operand_goes st w first goes named.0, slot_read st (w / 2) _ place slot named.0 ∙ is, same_is st named.0 ∙ other) refl;
          }

-- ---- Capabilities, as they are seen

module _ {s : List ℕ} (t n : ℕ) {k : Cap} (cap : Sees s (λ S. n < length S.objects) (λ S. (object_at S.objects n).cap) k) where
  pub local_foreign : (c : ℕ) → Sees s (λ S. n < length S.objects) (λ S. (object_at S.objects n).creator) c → is_local k ≡ true
      → Sees s (Made n) (λ S. is_foreign t (object_at S.objects n)) (not (eqb c t))
  unfolding is_foreign
  local_foreign c creator is-local =
      record { sees = λ S rest held there. rw (← cap.sees S rest held there, ← creator.sees S rest held there, is-local) refl }

  pub not_local_not_foreign : is_local k ≡ false → Sees s (Made n) (λ S. is_foreign t (object_at S.objects n)) false
  unfolding is_foreign
  not_local_not_foreign not_local = record { sees = λ S rest held there. rw (← cap.sees S rest held there, not_local) refl }

pub object_iso : (s : List ℕ) (v : Value) (n : ℕ) (k : Cap) (r : Bool) → v ≡ Obj n → Sees s (λ S. n < length S.objects) (λ S. (object_at S.objects n).cap) k → r ≡ is_iso k
    → Sees s (InObjects v) (λ S. is_iso_object S.objects v) r
unfolding is_iso_object
object_iso s v n k r is cap answer = record { sees = λ S rest held there. rw is (answer ∙ ap is_iso (cap.sees S rest held (rw is at there))) }

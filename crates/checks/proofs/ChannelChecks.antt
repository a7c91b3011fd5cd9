-- Each way out of the checks of recv and send: under the facts of that way the rule computes to the check's answer.
use Prim.Native.Nat.{ℕ, ◌/◌, ◌%◌, ◌<◌}
use mathlib.Core.Path.{◌≡◌, refl, sym, ap, ◌∙◌, subst}
use mathlib.Core.Bool.{Bool, true, false}
use mathlib.Core.List.{List, [], ◌∷◌}
use lib.ListN.{length}
use borrow.Author.Tests.{eq-eqb, ne_eqb}
use Rattle.rules.specs.declared.Cap.{Cap}
use Rattle.rules.specs.declared.Value.{Value}
use Rattle.rules.specs.declared.Value.TheVariants.{Obj, Chan}
use Rattle.rules.specs.State.{State, object_at, channel_at}
use Rattle.rules.specs.Tables.{operand_of}
use Rattle.rules.specs.Turn.{Res, wait, stop, ok, ◌>>=◌, ◌>>◌, wait_unless, permit, is_local, is_absent, as_object, as_channel, object, recv_line, sent_line, put_line}
use Rattle.table.specs.declared.standing.Here.{Here}
use Rattle.table.specs.StateTable.{InTable, Counted, Sees, Any}
use Rattle.table.proofs.Places.{message_in_table}
use Rattle.checks.specs.Checked.{outcome_of, passed, InObjects, put_into, Checks}
use Rattle.checks.proofs.CheckLaws.{stays, as_outcome, then_ok, same_after}
use Rattle.checks.proofs.Standing.{SlotSeen, TargetSeen, MessageSeen, OperandChecked, slot_in_objects, slot_read, target_read, message_read, operand_goes}

-- ---- recv and sent: the target v in slot i, its message u

module _ {s : List ℕ} {h : Here} (i : ℕ) {v : Value} (target : SlotSeen s h (i % 16) v) where
  pub recv_no_channel : {n : ℕ} → stop n ≡ as_channel v → Checks s h (i ∷ []) (λ P H. recv_line H i) (stop n)
  unfolding recv_line ◌>>=◌
  recv_no_channel is = record { checks = λ P n S f fs rest st named. rw (slot_read st i _ refl target named.0, ← is) refl }

  pub sent_no_channel : (d : ℕ) {n : ℕ} → stop n ≡ as_channel v → Checks s h (i ∷ []) (λ P H. sent_line H i d) (stop n)
  unfolding sent_line ◌>>=◌
  sent_no_channel d is = record { checks = λ P n S f fs rest st named. rw (slot_read st i _ refl target named.0, ← is) refl }

  module _ {c : ℕ} {u : Value} (is : v ≡ Chan c) (message : MessageSeen s c u) where
    pub recv_empty : is_absent u ≡ true → Checks s h (i ∷ []) (λ P H. recv_line H i) wait
    unfolding recv_line as_channel wait_unless ◌>>=◌ ◌>>◌
    recv_empty empty = record { checks = λ P n S f fs rest st named. rw (slot_read st i _ refl target named.0 ∙ is, message_read st c message, empty) refl }

    pub recv_full : is_absent u ≡ false → Checks s h (i ∷ []) (λ P H. recv_line H i) (ok tt)
    unfolding recv_line as_channel wait_unless ◌>>=◌ ◌>>◌
    recv_full full = record { checks = λ P n S f fs rest st named. rw (slot_read st i _ refl target named.0 ∙ is, message_read st c message, full) refl }

    pub sent_empty : (d : ℕ) → is_absent u ≡ true → Checks s h (i ∷ []) (λ P H. sent_line H i d) (ok tt)
    unfolding sent_line as_channel wait_unless ◌>>=◌ ◌>>◌
    sent_empty d empty = record { checks = λ P n S f fs rest st named. rw (slot_read st i _ refl target named.0 ∙ is, message_read st c message, empty) refl }

    module _ (d : ℕ) {k : ℕ} (full : is_absent u ≡ false) (number : Sees s Any (λ S. (channel_at S c).number) k) where
      pub sent_still_there : k ≡ d → Checks s h (i ∷ []) (λ P H. sent_line H i d) wait
      unfolding sent_line as_channel wait_unless ◌>>=◌ ◌>>◌
      sent_still_there same =
          record {
            checks = λ P n S f fs rest st named.
                rw (slot_read st i _ refl target named.0 ∙ is, message_read st c message, full, sym (number.sees S rest st.held tt), eq-eqb k d same) refl;
          }

      pub sent_taken : (k ≡ d → ⊥) → Checks s h (i ∷ []) (λ P H. sent_line H i d) (ok tt)
      unfolding sent_line as_channel wait_unless ◌>>=◌ ◌>>◌
      sent_taken differs =
          record {
            checks = λ P n S f fs rest st named.
                rw (slot_read st i _ refl target named.0 ∙ is, message_read st c message, full, sym (number.sees S rest st.held tt), ne_eqb k d differs) refl;
          }

-- ---- put: the value v into channel c, whose message is u

abbrev PutSeen : List ℕ → ℕ → Value → Res (Unit {0}) → Type 0
PutSeen s c v k = Sees s (λ S. InObjects v S × InTable (channel_at S c).message) (λ S. outcome_of (put_into S c v)) k

pub put_no_object : (s : List ℕ) (c : ℕ) (v : Value) {n : ℕ} → stop n ≡ as_object v → PutSeen s c v (stop n)
unfolding put_into ◌>>=◌
put_no_object s c v is = record { sees = λ S rest held there. rw (← is) refl }

module _ {s : List ℕ} (c : ℕ) {v : Value} {n : ℕ} {k : Cap} {b : Bool} (is : v ≡ Obj n) (cap : Sees s (λ S. n < length S.objects) (λ S. (object_at S.objects n).cap) k)
    (local : b ≡ is_local k) where
  local_is : {N : ℕ → ℕ} (S : State) (rest : List ℕ) → Counted s N S rest → InObjects v S → is_local (object_at S.objects n).cap ≡ b
  local_is S rest held there = sym (local ∙ ap is_local (cap.sees S rest held (subst (λ x. InObjects x S) is there)))

  pub put_forbidden : (a : Res (Unit {0})) → a ≡ permit false false b → passed a ≡ false → PutSeen s c v a
  unfolding put_into as_object ◌>>=◌ ◌>>◌
  put_forbidden a permission fails =
      record { sees = λ S rest held there. rw (is, local_is S rest held there.0) (stays (permit _ _ _) _ fails (permission ∙ as_outcome _)) }

  module _ {u : Value} (allowed : permit false false b ≡ ok tt) (message : MessageSeen s c u) where
    pub put_empty : is_absent u ≡ true → PutSeen s c v (ok tt)
    unfolding put_into as_object wait_unless ◌>>=◌ ◌>>◌
    put_empty empty = record { sees = λ S rest held there. rw (is, local_is S rest held there.0, allowed, sym (message.sees S rest held there.1), empty) refl }

    pub put_full : is_absent u ≡ false → PutSeen s c v wait
    unfolding put_into as_object wait_unless ◌>>=◌ ◌>>◌
    put_full full = record { sees = λ S rest held there. rw (is, local_is S rest held there.0, allowed, sym (message.sees S rest held there.1), full) refl }

-- ---- put: the operand's word w, the target v in slot i as the operand leaves it

module _ {s : List ℕ} {h : Here} (i w : ℕ) {k : Res (Unit {0})} (first : OperandChecked s h w k) where
  pub put_no_operand : passed k ≡ false → Checks s h (i ∷ w / 2 ∷ []) (λ P H. put_line H i (operand_of w)) k
  unfolding put_line
  put_no_operand fails = record { checks = λ P n S f fs rest st named. stays _ _ fails (first.checks P n S f fs rest st named.1) }

  module _ {v : Value} (goes : passed k ≡ true) (target : TargetSeen s h i w v) where
    pub put_no_channel : {n : ℕ} → stop n ≡ as_channel v → Checks s h (i ∷ w / 2 ∷ []) (λ P H. put_line H i (operand_of w)) (stop n)
    unfolding put_line ◌>>=◌
    put_no_channel is = record { checks = λ P n S f fs rest st named. rw (operand_goes st w first goes named.1.0, target_read st i w target named.0, ← is) refl }

    -- the value u, read at the place j
    pub put_to_channel : {c j : ℕ} {u : Value} {r : Res (Unit {0})} → v ≡ Chan c → j ≡ w / 2 % 16 → SlotSeen s h j u → PutSeen s c u r
        → Checks s h (i ∷ w / 2 ∷ []) (λ P H. put_line H i (operand_of w)) r
    unfolding put_line put_into as_channel object ◌>>=◌ ◌>>◌
    put_to_channel {c} {j} {u} is place value into =
        record {
          checks = λ P n S f fs rest st named.
              let value-is = slot_read st (w / 2) j place value named.1.0 in
              let answer = into.sees S rest st.held (subst (λ x. InObjects x S) value-is (slot_in_objects st (w / 2)), message_in_table st.fits c) in
              answer
              ∙ rw (operand_goes st w first goes named.1.0, target_read st i w target named.0 ∙ is, value-is)
              (same_after (as_object u) _ _ λ n.
              same_after (permit false false (is_local (object_at S.objects n).cap)) _ _ λ _.
              then_ok (wait_unless (is_absent (channel_at S c).message)) _);
        }

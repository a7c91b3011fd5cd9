-- Which turns wait: those of a thread without a frame; of the lines only a send and a recv, as their checks say.
use Prim.Native.Nat.{ℕ, ◌-◌, ◌/◌}
use native.Mathlib.Omega.{arith}
use mathlib.Core.Path.{◌≡◌, refl, sym, ap, ◌∙◌}
use mathlib.Core.Bool.{Bool, true, false, not}
use mathlib.Core.List.{List, [], ◌∷◌}
use lib.ListN.{get_or}
use Rattle.rules.specs.declared.Value.{Value}
use Rattle.rules.specs.declared.Value.TheVariants.{Absent, Obj, Chan}
use Rattle.rules.specs.Mosts.{mosts}
use Rattle.rules.specs.Lists.{pad}
use Rattle.rules.specs.Script.{Operand, reads, takes, value, field, swap, call, new, cast, spawn, send, recv, copy, Line, bind, give, line, Program}
use Rattle.rules.specs.State.{Object, State, thread_at}
use Rattle.rules.specs.Tables.{operand_of, sender_word, line_words, row}
use Rattle.rules.specs.Turn as R
use Rattle.rules.specs.Turn.{Res, ok, wait, stop, ◌>>=◌, ◌>>◌, check, permit, present, as_object, operand, operands, all_objects, permit_swap, value_line, field_line, swap_line, call_line, new_line, cast_line, spawn_line, put_line, sent_line, recv_line, copy_line, give_line, let_line, perform}
use Rattle.rules.specs.Run.{waits}
use Rattle.table.specs.declared.standing.Here.{Here}
use Rattle.table.specs.StateTable.{Held, Sees, Any}
use Rattle.std.specs.Prelude.{Result, Ok, Err}
use Rattle.std.specs.Result.{result_eq}
use Rattle.std.specs.contracts.prelude.UnitPartialEq.TheImpl as UnitEqual
use Rattle.checks.specs.contracts.form_checks.HaltPartialEq.TheImpl as HaltEqual
use Rattle.checks.specs.declared.form_checks.Halt.{Halt}
use Rattle.checks.specs.declared.form_checks.Halt.TheVariants.{Waits, Stops}
use Rattle.checks.specs.Checked.{result_of, outcome_of, waited, here_at, Checks}
use Rattle.turn.specs.Performed.{WaitsHere, WouldWait}
use Rattle.turn.proofs.TurnSteps.{Answers}
use Rattle.turn.proofs.ChannelLines.{recv_answers}
use Rattle.turn.proofs.SendLines.{put_answers, sent_answers, seen_ready, seen_waiting}
use Rattle.turn.proofs.Dispatch.{word_at, Tells}
use Rattle.turn.proofs.Located.{Idles, Finds}

-- ---- A send and a recv, by their checks

-- the code compares a check's answer with the one that waits
equals_waits : (r : Result (Unit {0}) Halt) → result_eq (UnitEqual.eq-value).it (HaltEqual.eq-value).it r (Err Waits) ≡ waited (result_of r)
equals_waits (Ok a) = refl
equals_waits (Err Waits) = refl
equals_waits (Err (Stops f)) = refl

answer_waits : (x : Res State) {k : Res (Unit {0})} → k ≡ outcome_of x → waited k ≡ waits x
unfolding waits
answer_waits (ok S) e = ap waited e
answer_waits wait e = ap waited e
answer_waits (stop n) e = ap waited e

-- r says whether the check's answer k is that the thread waits
abbrev AsksWait : Result (Unit {0}) Halt → Bool → Type 0
AsksWait k r = r ≡ result_eq (UnitEqual.eq-value).it (HaltEqual.eq-value).it k (Err Waits)

module _ {s : List ℕ} {h : Here} {r : Bool} (k : Result (Unit {0}) Halt) (asked : AsksWait k r) where
  -- where Q holds of each state that the table holds
  answered_waits : {Q : Program → State → Type 0} {x : Line} → ((P : Program) (S : State) (rest : List ℕ) → Held s S rest → Q P S) → Answers Q s h x (result_of k) → WaitsHere s h x r
  answered_waits holds told = record { is = λ P n S f fs rest st at_line. asked ∙ equals_waits k ∙ answer_waits _ (told.answers P n S f fs rest (holds P S rest st.held) st at_line) }

  pub recv_waits : (i : ℕ) → Checks s h (i ∷ []) (λ P H. recv_line H i) (result_of k) → WaitsHere s h (bind (recv i)) r
  recv_waits i checked = answered_waits (λ P S rest held. tt) (recv_answers i checked)

module _ {s : List ℕ} {h : Here} {r : Bool} (k : Result (Unit {0}) Halt) (asked : AsksWait k r) {d : ℕ} (seen : Sees s Any (λ S. sender_word (thread_at S h.thread).sender) d) (i w : ℕ) where
  pub put_waits : d ≡ 0 → Checks s h (i ∷ w / 2 ∷ []) (λ P H. put_line H i (operand_of w)) (result_of k) → WaitsHere s h (bind (send i (operand_of w))) r
  put_waits none checked = answered_waits k asked (seen_ready h.thread seen none) (put_answers i w checked)

  pub sent_waits : (d ≡ 0 → ⊥) → Checks s h (i ∷ []) (λ P H. sent_line H i (d - 1)) (result_of k) → WaitsHere s h (bind (send i (operand_of w))) r
  sent_waits some checked = answered_waits k asked (seen_waiting h.thread seen) (sent_answers i (omega (arith, some)) (operand_of w) checked)

-- ---- The other lines go on or stop

data Decides {A : Type 0} : Res A → Type 0 where
  goes : (a : A) → Decides (ok a)
  stops : (n : ℕ) → Decides (stop n)

infixl 20 ◌then◌
◌then◌ : {A B : Type 0} {x : Res A} {f : A → Res B} → Decides x → ((a : A) → Decides (f a)) → Decides (x >>= f)
unfolding ◌>>=◌
goes a then rest = rest a
stops n then rest = stops n

infixl 20 ◌before◌
◌before◌ : {A B : Type 0} {x : Res A} {y : Res B} → Decides x → Decides y → Decides (x >> y)
unfolding ◌>>◌
first before second = first then λ _. second

check_decides : (b : Bool) (n : ℕ) → Decides (check b n)
unfolding check
check_decides true n = goes tt
check_decides false n = stops n

permit_decides : (f a o : Bool) → Decides (permit f a o)
unfolding permit
permit_decides f a o = check_decides (not f) _ before (check_decides (not a) _ before check_decides (not o) _)

present_decides : (v : Value) → Decides (present v)
unfolding present
present_decides Absent = stops _
present_decides (Obj n) = goes _
present_decides (Chan c) = goes _

object_decides : (v : Value) → Decides (as_object v)
unfolding as_object
object_decides Absent = stops _
object_decides (Obj n) = goes _
object_decides (Chan c) = stops _

operand_decides : (os : List Object) (vs : List Value) (w : Operand) → Decides (operand os vs w)
unfolding operand
operand_decides os vs (reads s) = present_decides _ then λ v. permit_decides _ _ _ before goes _
operand_decides os vs (takes s) = present_decides _ then λ v. goes _

operands_decide : (os : List Object) (vs : List Value) (ws : List Operand) → Decides (operands os vs ws)
unfolding operands
operands_decide os vs [] = goes _
operands_decide os vs (w ∷ ws) = operand_decides os vs w then λ u. operands_decide os u.1 ws then λ us. goes _

objects_decide : (vs : List Value) → Decides (all_objects vs)
unfolding all_objects
objects_decide [] = goes _
objects_decide (v ∷ vs) = object_decides v then λ n. objects_decide vs then λ ns. goes _

module _ (P : Program) (H : R.Here) where
  only_channels_wait : (x : Line) → (get_or (row (line x)) 0 0 ≡ 12 → ⊥) → (get_or (row (line x)) 0 0 ≡ 13 → ⊥) → Decides (R.perform mosts P H x)
  unfolding row line_words pad perform let_line value_line field_line swap_line permit_swap call_line new_line cast_line spawn_line copy_line give_line
  only_channels_wait (give w) no-send no-recv = operand_decides _ _ w then λ v. goes _
  only_channels_wait (bind (value w)) no-send no-recv = operand_decides _ _ w then λ v. goes _
  only_channels_wait (bind (field s f)) no-send no-recv = object_decides _ then λ n. check_decides _ _ before (permit_decides _ _ _ before goes _)
  only_channels_wait (bind (swap s f w)) no-send no-recv =
      operand_decides _ _ w then λ v. object_decides _ then λ n. object_decides _ then λ u. check_decides _ _ before (permit_decides _ _ _ before goes _)
  only_channels_wait (bind (call s i w)) no-send no-recv =
      operand_decides _ _ w then λ v. object_decides _ then λ n. check_decides _ _ before (permit_decides _ _ _ before (check_decides _ _ before goes _))
  only_channels_wait (bind (new k i ws)) no-send no-recv =
      operands_decide _ _ ws then λ vs. objects_decide _ then λ ns. permit_decides _ _ _ before (check_decides _ _ before goes _)
  only_channels_wait (bind (cast k w)) no-send no-recv = operand_decides _ _ w then λ v. object_decides _ then λ n. check_decides _ _ before goes _
  only_channels_wait (bind (spawn b)) no-send no-recv = check_decides _ _ before goes _
  only_channels_wait (bind (send s w)) no-send no-recv = absurd (no-send refl)
  only_channels_wait (bind (recv s)) no-send no-recv = absurd (no-recv refl)
  only_channels_wait (bind (copy k s)) no-send no-recv = object_decides _ then λ n. permit_decides _ _ _ before (check_decides _ _ before goes _)

decided : {x : Res State} → Decides x → false ≡ waits x
unfolding waits
decided (goes S) = refl
decided (stops n) = refl

-- ---- The turn

pub idle_waits : {p s : List ℕ} {t : ℕ} → Idles s t → WouldWait p s t true
unfolding waits
idle_waits idle = record { is = λ P n S rest loaded held valid fits. sym (ap waits (idle.idles P n S rest held fits)) }

module _ {p s : List ℕ} {t : ℕ} {h : Here} (place : Finds p s t h) where
  pub line_would_wait : {x : Line} {r : Bool} → Tells p s h x → WaitsHere s h x r → WouldWait p s t r
  line_would_wait told tells =
      record {
        is = λ P n S rest loaded held valid fits.
            let at = place.finds P n S rest loaded held valid fits in
            let is = told.at_line P n S at.frame at.callers rest at.stand at.on_line in
            rw (at.performs, is) (tells.is P n S at.frame at.callers rest at.stand is);
      }

  pub others_would_not : {form : ℕ} → form ≡ word_at p h 0 → (form ≡ 12 → ⊥) → (form ≡ 13 → ⊥) → WouldWait p s t false
  others_would_not first no-send no-recv =
      record {
        is = λ P n S rest loaded held valid fits.
            let at = place.finds P n S rest loaded held valid fits in
            let number = first ∙ at.on_line.words 0 (omega arith) in
            rw at.performs (decided (only_channels_wait P (here_at S h.thread at.frame at.callers) _ (λ e. no-send (number ∙ e)) (λ e. no-recv (number ∙ e))));
      }

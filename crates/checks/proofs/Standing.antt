-- What a state of a run says of the place where a thread stands: each index and each value in its range, and what the code reads there is what the rule reads.
use Prim.Native.Nat.{ℕ, ◌/◌, ◌%◌, ◌≤◌, ◌<◌}
use native.Mathlib.Nat.{mod-eq_of_lt}
use native.Mathlib.Omega.{arith}
use mathlib.Core.Path.{◌≡◌, refl, sym, ap, ◌∙◌, subst}
use mathlib.Core.Bool.{true}
use mathlib.Core.List.{List, [], ◌∷◌}
use lib.ListN.{length}
use Rattle.rules.specs.declared.Value.{Value}
use Rattle.rules.specs.declared.Value.TheVariants.{Absent, Obj, Chan}
use Rattle.rules.specs.Mosts as Most
use Rattle.rules.specs.Mosts.{mosts}
use Rattle.rules.specs.Script.{Program}
use Rattle.rules.specs.State.{Frame, State, object_at, channel_at, slot_at}
use Rattle.rules.specs.Tables.{operand_of}
use Rattle.rules.specs.Turn.{Res, ok, is_absent, operand, left_by}
use Rattle.rules.specs.Fits.{InRange, IsObject, Fits}
use Rattle.rules.proofs.ListLaws.{every_map, every_get}
use Rattle.rules.proofs.Keeps.{HereFits, here_fits, is_object_more, object_in_range, slot_range, object_fits, channel_fits}
use Rattle.rules.proofs.Moves.{left_was_there}
use Rattle.table.specs.declared.standing.Here.{Here}
use Rattle.table.specs.StateTable.{InTable, Sees, FieldIn, frame_at}
use Rattle.table.proofs.StateEdits.{innermost_frame}
use Rattle.table.proofs.Places.{in_table, has_place, message_in_table}
use Rattle.checks.specs.Checked.{passed, Fielded, InObjects, here_at, Stand, Checks}
use Rattle.checks.proofs.CheckLaws.{operand_gives}

-- ---- What is learned of the table

-- slot i holds v; slot i, as the operand of word w leaves it, holds v; channel c's message is v
abbrev pub SlotSeen : List ℕ → Here → ℕ → Value → Type 0
SlotSeen s h i v = Sees s (λ S. InTable (slot_at (frame_at S h.thread h.depth).slots i)) (λ S. slot_at (frame_at S h.thread h.depth).slots i) v

abbrev pub TargetSeen : List ℕ → Here → (i w : ℕ) → Value → Type 0
TargetSeen s h i w v =
    Sees s (λ S. (i < 16) × InTable (slot_at (frame_at S h.thread h.depth).slots i)) (λ S. slot_at (left_by (frame_at S h.thread h.depth).slots (operand_of w)) i) v

abbrev pub MessageSeen : List ℕ → ℕ → Value → Type 0
MessageSeen s c v = Sees s (λ S. InTable (channel_at S c).message) (λ S. (channel_at S c).message) v

-- the check of the operand of word w is k
abbrev pub OperandChecked : List ℕ → Here → ℕ → Res (Unit {0}) → Type 0
OperandChecked s h w k = Checks s h (w / 2 ∷ []) (λ P H. operand H.state.objects H.frame.slots (operand_of w)) k

-- ---- Values in range

in_objects : (S : State) (c : ℕ) (v : Value) → InRange (length S.objects) c v → InObjects v S
in_objects S c Absent within = tt
in_objects S c (Obj n) within = within
in_objects S c (Chan k) within = tt

-- an object has a place in the table
object_in_table : (v : Value) → IsObject mosts.objects v → InTable v
object_in_table v is = in_table mosts.objects 0 v (omega arith) (omega arith) (object_in_range _ 0 v is)

object_in_objects : (S : State) (v : Value) → IsObject (length S.objects) v → InObjects v S
object_in_objects S v is = in_objects S 0 v (object_in_range (length S.objects) 0 v is)

-- a field has a place in the table, or there is none
pub field_in : (o j : ℕ) {S : State} → Fielded o S → FieldIn o j S
unfolding slot_at
field_in o j {S} has = record {
  few = has.few;
  in_table = every_get InTable (object_at S.objects o).fields j Absent tt (every_map object_in_table (object_at S.objects o).fields has.fields);
}

-- an object of a state of a run
pub made_fielded : {P : Program} {n : ℕ} {S : State} → Fits mosts P n S → (o : ℕ) → o < length S.objects → Fielded o S
made_fielded {S = S} fits o there =
    record {
      made = there;
      few = (object_fits fits o there).few;
      fields = every_map (is_object_more fits.few_objects) (object_at S.objects o).fields (object_fits fits o there).fields;
    }

-- ---- Where a thread stands

module _ {s : List ℕ} {h : Here} {P : Program} {n : ℕ} {S : State} {f : Frame} {fs : List Frame} {rest : List ℕ} (st : Stand s h P n S f fs rest) where
  pub fits_here : HereFits mosts P n (here_at S h.thread f fs)
  fits_here = here_fits mosts P n S h.thread f fs st.fits st.frames

  -- the frame at the code's place is the thread's innermost
  pub frame_is : frame_at S h.thread h.depth ≡ f
  frame_is = innermost_frame S h.thread st.frames st.depth

  pub slots_few : length f.slots ≤ Most.slots
  slots_few = fits_here.frame.few

  -- what a slot holds
  slot_in_range : (i : ℕ) → InRange (length S.objects) (length S.threads) (slot_at f.slots i)
  slot_in_range i = slot_range _ _ f.slots i fits_here.frame.slots

  pub slot_in_table : (i : ℕ) → InTable (slot_at f.slots i)
  slot_in_table i = has_place st.fits (slot_at f.slots i) (slot_in_range i)

  pub slot_in_objects : (i : ℕ) → InObjects (slot_at f.slots i) S
  slot_in_objects i = in_objects S _ (slot_at f.slots i) (slot_in_range i)

  pub slot_object : (i o : ℕ) → slot_at f.slots i ≡ Obj o → o < length S.objects
  slot_object i o e = subst (InRange (length S.objects) (length S.threads)) e (slot_in_range i)

  -- there are as many channels as threads
  pub slot_channel : (i c : ℕ) → slot_at f.slots i ≡ Chan c → c < length S.channels
  slot_channel i c e =
      let below : c < length S.threads = subst (InRange (length S.objects) (length S.threads)) e (slot_in_range i) in
      rw st.fits.channel_each below

  -- what an object holds
  pub fielded : (o : ℕ) → o < length S.objects → Fielded o S
  fielded = made_fielded st.fits

  pub field_in_objects : (o j : ℕ) → o < length S.objects → InObjects (slot_at (object_at S.objects o).fields j) S
  unfolding slot_at
  field_in_objects o j there =
      let fields = (object_at S.objects o).fields in
      every_get (λ v. InObjects v S) fields j Absent tt (every_map (object_in_objects S) fields (object_fits st.fits o there).fields)

  pub kind_is_there : (o : ℕ) → o < length S.objects → (object_at S.objects o).kind < length P.kinds
  kind_is_there o there = (object_fits st.fits o there).kind

  -- the number of a channel's message is at most that of the moves
  pub messages_few : (c : ℕ) → (channel_at S c).number ≤ n
  messages_few c = (channel_fits st.fits c).number

  -- slot i, at the place j: a filled slot is one of 16
  pub slot_place : (i : ℕ) → i < length f.slots → i % 16 ≡ i
  slot_place i filled = mod-eq_of_lt (omega (arith, slots_few, filled))

  pub slot_found : (i j : ℕ) → j ≡ i % 16 → i < length f.slots → slot_at (frame_at S h.thread h.depth).slots j ≡ slot_at f.slots i
  slot_found i j place filled = ap (λ (g : Frame). slot_at g.slots j) frame_is ∙ ap (slot_at f.slots) (place ∙ slot_place i filled)

  pub slot_read : {v : Value} (i j : ℕ) → j ≡ i % 16 → SlotSeen s h j v → i < length f.slots → slot_at f.slots i ≡ v
  slot_read i j place read filled = sym (read.sees S rest st.held (rw frame_is (slot_in_table j)) ∙ slot_found i j place filled)

  -- slot i as the operand of word w leaves it
  pub target_read : {v : Value} (i w : ℕ) → TargetSeen s h i w v → i < length f.slots → slot_at (left_by f.slots (operand_of w)) i ≡ v
  target_read i w read filled =
      let seen = read.sees S rest st.held (omega (arith, slots_few, filled), rw frame_is (slot_in_table i)) in
      sym (seen ∙ ap (λ g. slot_at (left_by g.slots (operand_of w)) i) frame_is)

  pub target_object : (i w o : ℕ) → slot_at (left_by f.slots (operand_of w)) i ≡ Obj o → o < length S.objects
  unfolding is_absent
  target_object i w o is = slot_object i o (left_was_there f.slots (operand_of w) i refl is)

  pub message_read : {v : Value} (c : ℕ) → MessageSeen s c v → (channel_at S c).message ≡ v
  message_read c read = sym (read.sees S rest st.held (message_in_table st.fits c))

  -- the operand of word w, whose check k passes
  pub operand_goes : (w : ℕ) {k : Res (Unit {0})} → OperandChecked s h w k → passed k ≡ true → w / 2 < length f.slots
      → operand S.objects f.slots (operand_of w) ≡ ok (slot_at f.slots (w / 2), left_by f.slots (operand_of w))
  operand_goes w first passes filled = operand_gives S.objects f.slots w passes (first.checks P n S f fs rest st (filled, tt))

-- The items of a new, and what its checks answer.
use Rattle.std.specs.Prelude.{ℕ, zero, suc, ◌+◌, ◌*◌, ◌/◌, ◌≤◌, ◌≡◌, Bool, true, false, not, List, [], ◌∷◌, map, eqb, ltb, length}
use Rattle.rules.specs.declared.Cap.{Cap}
use Rattle.rules.specs.declared.Value.{Value}
use Rattle.rules.specs.declared.Value.TheVariants.{Absent, Obj, Chan}
use Rattle.rules.specs.Mosts as Most
use Rattle.rules.specs.Mosts.{mosts}
use Rattle.rules.specs.Numbers as No
use Rattle.rules.specs.Lists.{pad, any, Every}
use Rattle.rules.specs.Script.{Operand, Program}
use Rattle.rules.specs.Reading.{slot_of}
use Rattle.rules.specs.State.{Object, Frame, State, object_at, slot_at}
use Rattle.rules.specs.Tables.{operand_item, operand_of}
use Rattle.rules.specs.Turn as R
use Rattle.rules.specs.Turn.{Res, ok, ◌>>=◌, ◌>>◌, check, permit, may_hold, is_foreign, is_absent, operand, left_by, operands, all_objects}
use Rattle.table.specs.declared.standing.Here.{Here}
use Rattle.table.specs.StateTable.{Sees}
use Rattle.checks.specs.Checked.{outcome_of, InObjects, Stand, Named, Checks}

-- new, past its operands, which give the values us
unfoldable pub hold_all : ℕ → Cap → State → List Value → Res (Unit {0})
hold_all t k S us = do
  ns ← all_objects us
  permit (any (λ i. is_foreign t (object_at S.objects i)) ns) false (any (λ i. not (may_hold k (object_at S.objects i).cap)) ns)
  check (ltb (length S.objects) mosts.objects) No.used_up

-- ---- An item: one more than an operand's word, 0 where there is none

abbrev pub left_by_item : List Value → ℕ → List Value
left_by_item vs zero = vs
left_by_item vs (suc w) = left_by vs (operand_of w)

-- these items one after the other
abbrev pub left_by_items : List Value → List ℕ → List Value
left_by_items vs [] = vs
left_by_items vs (e ∷ es) = left_by_items (left_by_item vs e) es

abbrev pub item_slots : ℕ → List ℕ
item_slots zero = []
item_slots (suc w) = w / 2 ∷ []

abbrev pub item_operand : List Object → List Value → ℕ → Res (Unit {0})
item_operand os vs zero = ok tt
item_operand os vs (suc w) = operand os vs (operand_of w) >> ok tt

abbrev pub item_value : List Value → ℕ → Value
item_value vs zero = Absent
item_value vs (suc w) = slot_at vs (w / 2)

-- whether item a takes the slot of item e
abbrev pub takes_slot : ℕ → ℕ → Bool
takes_slot a zero = false
takes_slot a (suc w) = eqb a (w / 2 * 2 + 2)

abbrev pub foreign_to : ℕ → State → Value → Bool
foreign_to t S Absent = false
foreign_to t S (Obj n) = is_foreign t (object_at S.objects n)
foreign_to t S (Chan c) = false

abbrev pub above : Cap → State → Value → Bool
above k S Absent = false
above k S (Obj n) = not (may_hold k (object_at S.objects n).cap)
above k S (Chan c) = false

abbrev pub is_channel : Value → Bool
is_channel Absent = false
is_channel (Obj n) = false
is_channel (Chan c) = true

abbrev pub AllInObjects : List Value → State → Type 0
AllInObjects vs S = Every (λ v. InObjects v S) vs

-- the values are those that stood in the slots of the operands whose items these are
pub record ItemsRead (s : List ℕ) (h : Here) (items : List ℕ) (values : List Value) : Type 0 where
  pub read : (ws : List Operand) → items ≡ pad Most.operands 0 (map operand_item ws) → (P : Program) (n : ℕ) (S : State) (f : Frame) (fs : List Frame) (rest : List ℕ)
      → Stand s h P n S f fs rest → Named (map slot_of ws) f → values ≡ pad Most.operands Absent (map (λ w. slot_at f.slots (slot_of w)) ws)

-- the operands of a new; the values that they gave
pub record ChecksItems (s : List ℕ) (h : Here) (items : List ℕ) (k : Res (Unit {0})) : Type 0 where
  pub checks : (ws : List Operand) → items ≡ pad Most.operands 0 (map operand_item ws) → length ws ≤ Most.operands
      → Checks s h (map slot_of ws) (λ P H. operands H.state.objects H.frame.slots ws) k

pub record ChecksHeld (s : List ℕ) (t : ℕ) (c : Cap) (values : List Value) (k : Res (Unit {0})) : Type 0 where
  pub checks : (us : List Value) → values ≡ pad Most.operands Absent us → length us ≤ Most.operands → Every (λ u. is_absent u ≡ false) us
      → Sees s (AllInObjects us) (λ S. outcome_of (hold_all t c S us)) k

pub record ChecksNew (s : List ℕ) (h : Here) (c : Cap) (items : List ℕ) (k : Res (Unit {0})) : Type 0 where
  pub checks : (ws : List Operand) → items ≡ pad Most.operands 0 (map operand_item ws) → length ws ≤ Most.operands
      → (kind : ℕ) → Checks s h (map slot_of ws) (λ P H. R.new_line mosts H c kind ws) k

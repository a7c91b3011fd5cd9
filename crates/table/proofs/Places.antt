-- A state of a run has a place in the table for each of its values: fields, slots and messages are numbers of its objects and channels, and those are few.
use Rattle.std.proofs.Common.{ℕ, ◌<◌, ◌≤◌, length, arith}
use Rattle.rules.specs.declared.Value.{Value}
use Rattle.rules.specs.declared.Value.TheVariants.{Absent, Obj, Chan}
use Rattle.rules.specs.Mosts as Most
use Rattle.rules.specs.Mosts.{mosts}
use Rattle.rules.specs.Lists.{Every}
use Rattle.rules.specs.Script.{Program}
use Rattle.rules.specs.State.{Frame, State, object_at, thread_at, channel_at, slot_at}
use Rattle.rules.specs.Tables.{no_frame, outermost_first}
use Rattle.rules.specs.Fits.{InRange, FrameFits, Fits}
use Rattle.rules.proofs.ListLaws.{every_map, every_get}
use Rattle.rules.proofs.Keeps.{slot_range, each_frame, object_fits, fields_in_range, thread_fits, channel_fits}
use Rattle.rules.proofs.TableWords.{every_outermost}
use Rattle.table.specs.StateTable.{InTable, FieldIn, frame_at}

pub in_table : (o c : ℕ) (v : Value) → o ≤ mosts.objects → c ≤ mosts.threads → InRange o c v → InTable v
in_table o c Absent few_objects few-channels within = tt
in_table o c (Obj n) few_objects few-channels within = omega arith
in_table o c (Chan k) few_objects few-channels within = omega arith

-- the slots of a frame, filled or not
pub record SlotsFit (o c : ℕ) (f : Frame) : Type 0 where
  pub few : length f.slots ≤ Most.slots
  pub within : Every (InRange o c) f.slots

slots_fit : {P : Program} {o c : ℕ} (f : Frame) → FrameFits P o c f → SlotsFit o c f
slots_fit f h = record { few = h.few; within = h.slots }

module _ {P : Program} {n : ℕ} {S : State} (fits : Fits mosts P n S) where
  pub has_place : (v : Value) → InRange (length S.objects) (length S.threads) v → InTable v
  has_place v within = in_table _ _ v fits.few_objects fits.few_threads within

  pub field_in_range : (o j : ℕ) → o < length S.objects → InRange (length S.objects) (length S.threads) (slot_at (object_at S.objects o).fields j)
  field_in_range o j there = slot_range _ _ (object_at S.objects o).fields j (fields_in_range fits o there)

  pub field_in : (o j : ℕ) → o < length S.objects → FieldIn o j S
  field_in o j there = record { few = (object_fits fits o there).few; in_table = has_place (slot_at (object_at S.objects o).fields j) (field_in_range o j there) }

  pub message_in_table : (c : ℕ) → InTable (channel_at S c).message
  message_in_table c = has_place (channel_at S c).message (channel_fits fits c).message

  -- frame k of thread t; past the innermost there is none, and no slot
  pub frame_slots_fit : (t k : ℕ) → SlotsFit (length S.objects) (length S.threads) (frame_at S t k)
  unfolding frame_at
  frame_slots_fit t k =
      let o = length S.objects in
      let c = length S.threads in
      let fs = (thread_at S t).frames in
      every_get (SlotsFit o c) (outermost_first fs) k no_frame (record { few = omega arith; within = tt })
      (every_outermost (SlotsFit o c) fs (every_map slots_fit fs (each_frame P o c fs (thread_fits fits t).frames)))

  pub slot_in_range : (t k i : ℕ) → InRange (length S.objects) (length S.threads) (slot_at (frame_at S t k).slots i)
  slot_in_range t k i = slot_range _ _ (frame_at S t k).slots i (frame_slots_fit t k).within

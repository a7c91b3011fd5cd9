-- What is read of the state table: a record's word stands in the record's place, and a value's word is read back as the value.
use Rattle.std.proofs.Common.{◌≡◌, ℕ, suc, ◌+◌, ◌*◌, ◌<◌, ◌≤◌, List, map, length, get_or, sym, refl, ap, ◌∙◌, mod-eq_of_lt, add-sub_cancel, arith, le-ltb, lt-ltb, ne_eqb}
use Rattle.std.proofs.Math.ListN.{get_or-eq_default, get_or-map}
use Rattle.rules.specs.declared.Cap.{Cap}
use Rattle.rules.specs.declared.Value.{Value}
use Rattle.rules.specs.declared.Value.TheVariants.{Absent, Obj, Chan}
use Rattle.rules.specs.Mosts as Most
use Rattle.rules.specs.Lists.{pad}
use Rattle.rules.specs.State.{Object, State, no_object, object_at, thread_at, channel_at, slot_at}
use Rattle.rules.specs.Tables.{cap_of, word, sender_word, unmade, object_words, frame_words, channel_words}
use Rattle.rules.proofs.ListLaws.{get_pad, get_there}
use Rattle.rules.proofs.TableWords.{cap_of_rank}
use Rattle.table.specs.StateTable.{value_of, InTable, Counted, Sees, Any, frame_at, FieldIn, Stores}
use Rattle.table.specs.declared.standing.Here.{Here}
use Rattle.table.proofs.StateTable.{part_get, objects_at_lem, threads_at, frames_at, sender_at, object_part, frame_part, channel_part}

-- ---- Values and capabilities

value_of_word : (v : Value) → InTable v → value_of (word v) ≡ v
value_of_word Absent h = refl
value_of_word (Obj n) h = simp (ne_eqb (n + 1) 0 (λ e. omega arith), lt-ltb (n + 1) 257 (omega arith)) (ap Obj (add-sub_cancel n 1))
value_of_word (Chan c) h =
    simp (ne_eqb (c + 257) 0 (λ e. omega arith), le-ltb (c + 257) 257 (omega arith), add-sub_cancel c 257) (ap Chan (mod-eq_of_lt h))

pub object_in_table : (v : Value) (n : ℕ) → v ≡ Obj n → InTable v → n < 256
object_in_table v n e h = rw e at h

pub channel_in_table : (v : Value) (c : ℕ) → v ≡ Chan c → InTable v → c < 16
channel_in_table v c e h = rw e at h

value_at : (n : ℕ) (vs : List Value) (i : ℕ) → i < n → get_or (map word (pad n Absent vs)) i 0 ≡ word (slot_at vs i)
unfolding slot_at
value_at n vs i h = get_or-map word (pad n Absent vs) i Absent ∙ ap word (get_pad n Absent vs i h)

-- an object that is there, and one that may not be
pub object_there : (os : List Object) (o : ℕ) → o < length os → get_or os o unmade ≡ object_at os o
unfolding object_at
object_there os o h = get_there os o unmade no_object h

object_fields : (os : List Object) (o : ℕ) → (get_or os o unmade).fields ≡ (object_at os o).fields
unfolding object_at
object_fields os o =
    let fields : Object → List Value = λ x. x.fields in
    sym (get_or-map fields os o unmade) ∙ get_or-map fields os o no_object

-- ---- Words

module _ {l rest : List ℕ} {N : ℕ → ℕ} {S : State} (held : Counted l N S rest) where
  -- word j of a frame, of a channel, and of an object that is there
  pub frame_word : (t k j i : ℕ) → t < 16 → k < 16 → j < 19 → i ≡ 2058 + t * 306 + k * 19 + j → get_or l i 0 ≡ get_or (frame_words (frame_at S t k)) j 0
  frame_word t k j i h m lt place = part_get (frame_part held t k h m) j i place lt

  pub channel_word : (c j i : ℕ) → c < 16 → j < 2 → i ≡ 6952 + c * 2 + j → get_or l i 0 ≡ get_or (channel_words (channel_at S c)) j 0
  channel_word c j i h lt place = part_get (channel_part held c h) j i place lt

  pub object_word : (o j i : ℕ) → o < 256 → j < 8 → i ≡ 8 + o * 8 + j → o < length S.objects → get_or l i 0 ≡ get_or (object_words (N o) (object_at S.objects o)) j 0
  object_word o j i h lt place there = part_get (object_part held o h) j i place lt ∙ ap (λ x. get_or (object_words (N o) x) j 0) (object_there S.objects o there)

  -- the count of an object, whether it is there or not
  pub count_word : (o i : ℕ) → o < 256 → i ≡ 11 + o * 8 → get_or l i 0 ≡ N o
  unfolding object_words
  count_word o i h place = part_get (object_part held o h) 3 i (omega arith) (omega arith)

  -- the word of a slot, of a field whether the object is there or not, and of a message
  pub slot_word : (t k s i : ℕ) → t < 16 → k < 16 → s < 16 → i ≡ 2058 + t * 306 + k * 19 + 3 + s → get_or l i 0 ≡ word (slot_at (frame_at S t k).slots s)
  unfolding frame_words
  slot_word t k s i h m lt place = frame_word t k (suc (suc (suc s))) i h m (omega arith) (omega arith) ∙ value_at Most.slots (frame_at S t k).slots s lt

  pub field_word : (o j i : ℕ) → o < 256 → j < 4 → i ≡ 12 + o * 8 + j → get_or l i 0 ≡ word (slot_at (object_at S.objects o).fields j)
  unfolding object_words
  field_word o j i h lt place =
      part_get (object_part held o h) (suc (suc (suc (suc j)))) i (omega arith) (omega arith) ∙ value_at Most.fields (get_or S.objects o unmade).fields j lt
      ∙ ap (λ vs. word (slot_at vs j)) (object_fields S.objects o)

  pub message_word : (c : ℕ) → c < 16 → get_or l (6952 + c * 2) 0 ≡ word (channel_at S c).message
  unfolding channel_words
  message_word c h = channel_word c 0 (6952 + c * 2) h (omega arith) (omega arith)

  -- a slot where a thread stands
  pub slot_here : (h : Here) (i : ℕ) → i < 16 → get_or l (h.frame + 3 + i) 0 ≡ word (slot_at (frame_at S h.thread h.depth).slots i)
  slot_here h i lt = slot_word h.thread h.depth i (h.frame + 3 + i) h.placed.thread h.placed.depth lt (omega (arith, h.placed.frame))

-- ---- What is seen

-- each word of a record, where it stands
module _ (l : List ℕ) where
  pub objects_seen : Sees l Any (λ S. length S.objects) (get_or l 0 0)
  objects_seen = record { sees = λ S rest held any. objects_at_lem held }

  pub threads_seen : Sees l Any (λ S. length S.threads) (get_or l 1 0)
  threads_seen = record { sees = λ S rest held any. threads_at held }

  pub frames_seen : (t : ℕ) → t < 16 → Sees l Any (λ S. length (thread_at S t).frames) (get_or l (2056 + t * 306) 0)
  frames_seen t h = record { sees = λ S rest held any. frames_at held t h }

  pub sender_seen : (t : ℕ) → t < 16 → Sees l Any (λ S. sender_word (thread_at S t).sender) (get_or l (2057 + t * 306) 0)
  sender_seen t h = record { sees = λ S rest held any. sender_at held t h }

  pub block_seen : (t k : ℕ) → t < 16 → k < 16 → Sees l Any (λ S. (frame_at S t k).block) (get_or l (2058 + t * 306 + k * 19) 0)
  unfolding frame_words
  block_seen t k h m = record { sees = λ S rest held any. frame_word held t k 0 _ h m (omega arith) (omega arith) }

  pub line_seen : (t k : ℕ) → t < 16 → k < 16 → Sees l Any (λ S. (frame_at S t k).line) (get_or l (2059 + t * 306 + k * 19) 0)
  unfolding frame_words
  line_seen t k h m = record { sees = λ S rest held any. frame_word held t k 1 _ h m (omega arith) (omega arith) }

  pub slots_seen : (t k : ℕ) → t < 16 → k < 16 → Sees l Any (λ S. length (frame_at S t k).slots) (get_or l (2060 + t * 306 + k * 19) 0)
  unfolding frame_words
  slots_seen t k h m = record { sees = λ S rest held any. frame_word held t k 2 _ h m (omega arith) (omega arith) }

  pub kind_seen : (o : ℕ) → o < 256 → Sees l (λ S. o < length S.objects) (λ S. (object_at S.objects o).kind) (get_or l (9 + o * 8) 0)
  unfolding object_words
  kind_seen o h = record { sees = λ S rest held there. object_word held o 1 _ h (omega arith) (omega arith) there }

  pub creator_seen : (o : ℕ) → o < 256 → Sees l (λ S. o < length S.objects) (λ S. (object_at S.objects o).creator) (get_or l (10 + o * 8) 0)
  unfolding object_words
  creator_seen o h = record { sees = λ S rest held there. object_word held o 2 _ h (omega arith) (omega arith) there }

  pub number_seen : (c : ℕ) → c < 16 → Sees l Any (λ S. (channel_at S c).number) (get_or l (6953 + c * 2) 0)
  unfolding channel_words
  number_seen c h = record { sees = λ S rest held any. channel_word held c 1 _ h (omega arith) (omega arith) }

  pub count_stored : (o : ℕ) → o < 256 → Stores l o (get_or l (11 + o * 8) 0)
  count_stored o h = record { stores = λ S rest held. count_word held o _ h refl }

module _ {l : List ℕ} {r : Value} where
  pub slot_seen : (t k s i : ℕ) → t < 16 → k < 16 → s < 16 → r ≡ value_of (get_or l i 0) → i ≡ 2058 + t * 306 + k * 19 + 3 + s
      → Sees l (λ S. InTable (slot_at (frame_at S t k).slots s)) (λ S. slot_at (frame_at S t k).slots s) r
  slot_seen t k s i h m lt e place = record { sees = λ S rest held in_table. e ∙ ap value_of (slot_word held t k s i h m lt place) ∙ value_of_word (slot_at (frame_at S t k).slots s) in_table }

  pub field_seen : (o j : ℕ) → o < 256 → j < 4 → r ≡ value_of (get_or l (12 + o * 8 + j) 0) → Sees l (FieldIn o j) (λ S. slot_at (object_at S.objects o).fields j) r
  field_seen o j h lt e = record { sees = λ S rest held has. e ∙ ap value_of (field_word held o j (12 + o * 8 + j) h lt refl) ∙ value_of_word (slot_at (object_at S.objects o).fields j) has.in_table }

  pub message_seen : (c : ℕ) → c < 16 → r ≡ value_of (get_or l (6952 + c * 2) 0) → Sees l (λ S. InTable (channel_at S c).message) (λ S. (channel_at S c).message) r
  message_seen c h e = record { sees = λ S rest held in_table. e ∙ ap value_of (message_word held c h) ∙ value_of_word (channel_at S c).message in_table }

-- no object has a fifth field
pub no_field_seen : (l : List ℕ) (o j : ℕ) → 4 ≤ j → Sees l (FieldIn o j) (λ S. slot_at (object_at S.objects o).fields j) Absent
unfolding slot_at
no_field_seen l o j h = record { sees = λ S rest held has. sym (get_or-eq_default (object_at S.objects o).fields Absent (omega (arith, has.few))) }

pub cap_seen : (l : List ℕ) (o : ℕ) (r : Cap) → o < 256 → r ≡ cap_of (get_or l (8 + o * 8) 0) → Sees l (λ S. o < length S.objects) (λ S. (object_at S.objects o).cap) r
unfolding object_words
cap_seen l o r h e = record { sees = λ S rest held there. e ∙ ap cap_of (object_word held o 0 (8 + o * 8) h (omega arith) (omega arith) there) ∙ cap_of_rank (object_at S.objects o).cap }

-- Slots written in the state table: a word that goes to a frame's next slot gives its value, and 0 makes a slot absent.
use Rattle.std.proofs.Common.{◌≡◌, ℕ, suc, ◌+◌, ◌*◌, ◌%◌, ◌<◌, List, length, get_or, set, sym, refl, ap, ◌∙◌, mod-eq_of_lt, arith, length-set}
use Rattle.rules.specs.declared.Value.{Value}
use Rattle.rules.specs.declared.Value.TheVariants.{Absent}
use Rattle.rules.specs.Mosts as Most
use Rattle.rules.specs.Lists.{pad}
use Rattle.rules.specs.State.{Frame, ready, State, thread_at}
use Rattle.rules.specs.Turn.{with_slots, filled}
use Rattle.rules.specs.Tables.{word, frame_words}
use Rattle.rules.proofs.ListLaws.{map_set, length_snoc, pad_snoc, set_pad}
use Rattle.table.specs.StateTable.{Counted, frame_at, on_frame, edit_frame, HasFrame, HasRoom, HasSlot, given, cleared}
use Rattle.table.proofs.StateTable.{splice, Part, part_get, part_set, frame_part, frame_put, sender_put}
use Rattle.table.proofs.StateEdits.{length_put, edit_at, edit_then_sender}

-- ---- The words of a frame

-- a frame with one slot more, at its next line; with another value in a slot
filled_words : (f : Frame) (v : Value) (n : ℕ) → length f.slots ≡ n → n < Most.slots
    → set (set (set (frame_words f) (suc (suc (suc n))) (word v)) 1 (f.line + 1)) 2 (n + 1) ≡ frame_words (filled f f.slots v)
unfolding frame_words filled
filled_words f v n e h =
    rw (length_snoc f.slots v, e, pad_snoc Most.slots Absent f.slots n v e h, map_set word (pad Most.slots Absent f.slots) n v)

slot_set_words : (f : Frame) (i : ℕ) (v : Value) → i < length f.slots → i < Most.slots
    → set (frame_words f) (suc (suc (suc i))) (word v) ≡ frame_words (with_slots f (set f.slots i v))
unfolding frame_words with_slots
slot_set_words f i v h l =
    rw (length-set f.slots i v, ← set_pad Most.slots Absent f.slots i v h l, map_set word (pad Most.slots Absent f.slots) i v)

line_kept : (f : Frame) (i w : ℕ) → get_or (set (frame_words f) (suc (suc (suc i))) w) 1 0 ≡ f.line
unfolding frame_words
line_kept f i w = refl

-- the three words of a frame that takes a value
frame_filled : {l : List ℕ} {at : ℕ} (f : Frame) → Part l at 19 (frame_words f) l → (v : Value) (n x : ℕ)
    → length f.slots ≡ n → n < Most.slots → f.line < Most.turns → x ≡ word v
    → (let l₁ = set l (at + 3 + n) x in
    set (set l₁ (at + 1) (get_or l₁ (at + 1) 0 % 32768 + 1)) (at + 2) (n + 1) ≡ splice l at (frame_words (filled f f.slots v)))
frame_filled {l} {at} f here v n x count room small same =
    let slot = part_set here (suc (suc (suc n))) (at + 3 + n) x (omega arith) (omega arith) in
    let line : get_or (set l (at + 3 + n) x) (at + 1) 0 ≡ f.line = part_get slot 1 (at + 1) refl (omega arith) ∙ line_kept f n x in
    let next : get_or (set l (at + 3 + n) x) (at + 1) 0 % 32768 + 1 ≡ f.line + 1 = ap (λ i. i % 32768 + 1) line ∙ ap (◌+ 1) (mod-eq_of_lt small) in
    rw next (
    (part_set (part_set slot 1 (at + 1) (f.line + 1) refl (omega arith)) 2 (at + 2) (n + 1) refl (omega arith)).is
    ∙ ap (splice l at) (rw same (filled_words f v n count room))
    )

-- ---- A frame whose words begin at `at`

module _ {l rest : List ℕ} {N : ℕ → ℕ} {S : State} (held : Counted l N S rest) (t k at : ℕ) (ht : t < 16) (hk : k < 16) (e : at ≡ 2058 + t * 306 + k * 19) where
  frame_here : Part l at 19 (frame_words (frame_at S t k)) l
  frame_here = rw e (frame_part held t k ht hk)

  frame_becomes : HasFrame t k S → (g : Frame → Frame) (m : List ℕ) → m ≡ splice l at (frame_words (g (frame_at S t k)))
      → Counted m N (edit_frame S t k g (thread_at S t).sender) rest
  frame_becomes has g m written =
      rw (written, e, ← edit_at has g (thread_at S t).sender) (frame_put held t k (g (frame_at S t k)) ht hk has)

  pub word_pushed : (v : Value) (x : ℕ) → x ≡ word v → HasRoom t k S
      → (let n = get_or l (at + 2) 0 % 16 in
      let l₁ = set l (at + 3 + n) x in
      Counted (set (set (set l₁ (at + 1) (get_or l₁ (at + 1) 0 % 32768 + 1)) (at + 2) (n + 1)) (2057 + t * 306) 0) N (given t k v S) rest)
  unfolding frame_words given edit_frame
  word_pushed v x same room =
      let f = frame_at S t k in
      let count : get_or l (at + 2) 0 % 16 ≡ length f.slots =
      ap (◌% 16) (part_get frame_here 2 (at + 2) refl (omega arith)) ∙ mod-eq_of_lt room.room in
      let g : Frame → Frame = λ f. filled f f.slots v in
      let d = (thread_at S t).sender in
      let framed = frame_becomes room.has g _ (frame_filled f frame_here v (get_or l (at + 2) 0 % 16) x (sym count) (omega arith) room.line same) in
      let there : t < length (edit_frame S t k g d).threads = rw (length_put S t (on_frame k g (thread_at S t).frames) d) room.has.thread in
      rw (edit_then_sender room.has g d ready) at (sender_put framed t ready ht there)

  pub slot_cleared : (i : ℕ) → i < 16 → HasSlot t k i S → Counted (set l (at + 3 + i) 0) N (cleared t k i S) rest
  unfolding cleared
  slot_cleared i h has =
      let f = frame_at S t k in
      frame_becomes has.has (λ f. with_slots f (set f.slots i Absent)) _
      ((part_set frame_here (suc (suc (suc i))) (at + 3 + i) 0 (omega arith) (omega arith)).is
      ∙ ap (splice l at) (slot_set_words f i Absent has.slot h))

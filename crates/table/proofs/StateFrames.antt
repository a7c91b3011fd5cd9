-- Frames pushed and dropped, the fresh table, and the line where a thread stands: what the words written make of the state.
use Rattle.std.proofs.Common.{◌≡◌, ℕ, suc, ◌+◌, ◌-◌, ◌*◌, ◌%◌, ◌<◌, ◌≤◌, List, length, get_or, take, drop, set, replicate, sym, refl, ap, ◌∙◌, append_assoc, append-nil, arith, length-drop, length-take-le}
use Rattle.std.proofs.Math.ListN.{get_or-eq_default}
use Rattle.std.proofs.Math.Seq.{paste}
use Rattle.rules.specs.Lists.{pad, cells}
use Rattle.rules.specs.declared.Value.{Value}
use Rattle.rules.specs.Script.{Program, lines_of, block_at}
use Rattle.rules.specs.State.{Frame, Sender, ready, State, thread_at, start}
use Rattle.rules.specs.Turn.{put_thread}
use Rattle.rules.specs.Tables.{word, no_frame, object_words, object_cells, frame_words, outermost_first, thread_words, channel_words, used_state_words, counted_words, state_words}
use Rattle.rules.specs.Holders.{total, in_slots, in_fields, in_message, holders}
use Rattle.rules.specs.Reach.{count, slots_of}
use Rattle.rules.proofs.TableWords.{length_outermost}
use Rattle.table.specs.StateTable.{Counted, Starts, OnLine, frame_at, Innermost, callee, called, left}
use Rattle.table.specs.ProgramTable.{fresh_table, Filled}
use Rattle.table.specs.declared.standing.Here.{Here}
use Rattle.table.proofs.ProgramLines.{blocks_of_lines, line_there, line_part_is}
use Rattle.table.proofs.StateTable.{splice, Part, part_set, frame_part, sender_put, frame_pushed, frame_dropped}
use Rattle.table.proofs.StateEdits.{thread_put, put_put, length_put}

-- ---- Zeros

-- shut: 8,192 of them are not to be written out
unfoldable pub zeros : ℕ → List ℕ
zeros n = replicate n 0

-- what is left of a part of k words that is filled with 0
pub filled_with_zeros : (l m : List ℕ) (at k : ℕ) → at + k ≤ length l → m ≡ replicate (length (take (at + k - at) (drop at l))) 0 → m ≡ zeros k
unfolding zeros
filled_with_zeros l m at k h e =
    let whole = length-take-le (at + k - at) (drop at l) (omega (arith, length-drop at l)) in e ∙ ap (λ n. replicate n 0) (omega (arith, whole))

-- the state at the start is zeros but for three words
start_words : set (set (set fresh_table 1 1) 2056 1) 2060 1 ≡ state_words start
unfolding fresh_table counted_words used_state_words start pad cells object_cells object_words thread_words frame_words channel_words outermost_first holders total in_slots in_fields in_message count slots_of
start_words = refl

pub all_zero_but_three : (l : List ℕ) → Starts l (set (set (set l 1 1) 2056 1) 2060 1)
all_zero_but_three l = record {
  starts = λ fresh. record { words = ap (λ (t : List ℕ). set (set (set t 1 1) 2056 1) 2060 1) fresh ∙ start_words ∙ sym (append-nil (state_words start)) };
}

-- ---- Frames

-- after its frames are written, the thread is made ready
made_ready : (S : State) (t : ℕ) (fs : List Frame) (d : Sender) {l rest : List ℕ} {N : ℕ → ℕ} → t < length S.threads → t < 16
    → Counted l N (put_thread S t fs d) rest → Counted (set l (2057 + t * 306) 0) N (put_thread S t fs ready) rest
made_ready S t fs d there few held =
    rw (thread_put S t fs d there, put_put S t fs fs d ready) at (sender_put held t ready few (rw (length_put S t fs d) there))

callee_words : (b : ℕ) (x y : Value) → set (set (set (set (frame_words no_frame) 0 b) 2 2) 3 (word x)) 4 (word y) ≡ frame_words (callee b x y)
unfolding frame_words pad
callee_words b x y = refl

zero_frame : (l : List ℕ) (at : ℕ) → paste l at (zeros 19) 19 ≡ splice l at (frame_words no_frame)
unfolding frame_words pad zeros splice
zero_frame l at = append_assoc (take at l) _ _

module _ {l rest : List ℕ} {N : ℕ → ℕ} {S : State} (held : Counted l N S rest) (t k : ℕ) (few : t < 16) where
  -- past the innermost frame there is none
  none_inside : Innermost t k S → frame_at S t (suc k) ≡ no_frame
  unfolding frame_at
  none_inside inner = get_or-eq_default (outermost_first (thread_at S t).frames) no_frame (omega (arith, length_outermost (thread_at S t).frames, inner.frames))

  -- the words of a frame that was not there: four are written, the others are zero
  callee_written : (b at : ℕ) (x y : Value) → k < 15 → Innermost t k S → at ≡ 2058 + t * 306 + suc k * 19
      → set (set (set (set l at b) (at + 2) 2) (at + 3) (word x)) (at + 4) (word y) ≡ splice l (2058 + t * 306 + suc k * 19) (frame_words (callee b x y))
  callee_written b at x y h inner e =
      let next : ℕ = 2058 + t * 306 + suc k * 19 in
      let none : Part l next 19 (frame_words no_frame) l = rw (none_inside inner) at (frame_part held t (suc k) few (omega arith)) in
      let head = part_set (part_set none 0 at b (omega arith) (omega arith)) 2 (at + 2) 2 (omega arith) (omega arith) in
      (part_set (part_set head 3 (at + 3) (word x) (omega arith) (omega arith)) 4 (at + 4) (word y) (omega arith) (omega arith)).is
      ∙ ap (splice l next) (callee_words b x y)

  -- a frame is pushed
  pub frame_called : (b at wx wy : ℕ) (x y : Value) → wx ≡ word x → wy ≡ word y → k < 15 → Innermost t k S → at ≡ 2058 + t * 306 + suc k * 19
      → Counted (set (set (set (set (set (set l at b) (at + 2) 2) (at + 3) wx) (at + 4) wy) (2056 + t * 306) (k + 2)) (2057 + t * 306) 0) N (called t (callee b x y) S) rest
  unfolding called
  frame_called b at wx wy x y first second h inner e =
      rw (first, second, callee_written b at x y h inner e) (made_ready S t _ _ inner.thread few (frame_pushed held t k (callee b x y) few h inner))

  -- the innermost frame's words are zero again
  pub frame_left : (at : ℕ) → k < 16 → Innermost t k S → at ≡ 2058 + t * 306 + k * 19
      → Counted (set (set (paste l at (zeros 19) 19) (2056 + t * 306) k) (2057 + t * 306) 0) N (left t S) rest
  unfolding left
  frame_left at h inner e = rw (zero_frame l at, e) (made_ready S t _ _ inner.thread few (frame_dropped held t k few h inner))

-- ---- The line where a thread stands

module _ (P : Program) {p counts rest : List ℕ} (filled : Filled p counts (lines_of P) rest) {b : ℕ} (there : b < length P.blocks) where
  small : b < 64
  small = omega (arith, filled.blocks, ap length (blocks_of_lines P))

  -- the words of line l stand in its place
  line_at : {l : ℕ} {h : Here} → l ≤ length (block_at P b).lets → h.row ≡ (72 + (get_or p (8 + b) 0 + l) * 8) % 8192 → OnLine p P b l h
  line_at {l} {h} few at =
      record {
        place = at;
        words = λ k c.
            let place : h.row + k ≡ (72 + (get_or p (8 + b) 0 + l) * 8 + k) % 8192 = omega arith in
            ap (λ i. get_or p i 0) place ∙ line_part_is P filled b l k small there few c;
      }

  -- the block b', the line l and the number of the block's first line as they are read: the remainder changes nothing
  pub on_its_line : {l b' l' first : ℕ} {h : Here} → b' ≡ b → l' ≡ l → first ≡ get_or p (8 + b' % 64) 0 → h.row ≡ (72 + (first + l') * 8) % 8192
      → l ≤ length (block_at P b).lets → OnLine p P b l h
  on_its_line {b' = b'} {l'} block line read at few =
      let same : b' % 64 ≡ b = omega (arith, small) in
      let is-first = read ∙ ap (λ x. get_or p (8 + x) 0) same in
      line_at few (at ∙ ap (λ x. (72 + (x + l') * 8) % 8192) is-first ∙ ap (λ x. (72 + (get_or p (8 + b) 0 + x) * 8) % 8192) line)

  -- the next line's place is eight words on
  pub next_on_line : {l : ℕ} {h r : Here} → OnLine p P b l h → r.row ≡ (h.row + 8) % 8192 → l < length (block_at P b).lets → OnLine p P b (l + 1) r
  next_on_line {l} on at more = let place = on.place in line_at (omega arith) (omega (arith, at, place))

  -- the lines come after the counts and the numbers of the blocks' first lines
  pub row_past_counts : {l : ℕ} {h : Here} → OnLine p P b l h → l ≤ length (block_at P b).lets → 72 ≤ h.row
  row_past_counts {l} on few = let place = on.place in omega (arith, place, line_there P filled b l small there few, filled.lines)

-- The rows of the state: fields, slots, objects, channels, threads, each one more than what is written so far.
use Rattle.std.proofs.Common.{ℕ, suc, ◌+◌, ◌-◌, ◌*◌, ◌%◌, ◌≤◌, ◌<◌, zero-add, mod-eq_of_lt, add-one, arith, ◌≡◌, refl, sym, ap, ◌∙◌, List, [], ◌∷◌, ◌++◌, append_assoc, length, take, drop, take_all}
use Rattle.rules.specs.declared.Value.{Value}
use Rattle.rules.specs.Mosts as Most
use Rattle.rules.specs.Mosts.{mosts}
use Rattle.rules.specs.Text.{bytes, space}
use Rattle.rules.specs.Script.{Program}
use Rattle.rules.specs.State.{Object, no_object, Frame, no_thread, State, object_at, thread_at, channel_at, slot_at}
use Rattle.rules.specs.Tables.{sender_word}
use Rattle.rules.specs.Fits.{Fits}
use Rattle.rules.specs.Listing.{value_text, channel_line, sender_text, thread_line, numbered}
use Rattle.rules.proofs.Keeps.{object_fits, thread_fits}
use Rattle.table.specs.StateTable.{InTable, Held, Sees, Any, FieldIn, frame_at}
use Rattle.table.proofs.StateEdits.{innermost_frame}
use Rattle.table.proofs.Places.{has_place, field_in, frame_slots_fit, slot_in_range}
use Rattle.buffer.specs.declared.Output.{Output}
use Rattle.buffer.specs.Outputs.{Wrote}
use Rattle.buffer.specs.Writing.{number_part}
use Rattle.listing.specs.StateWriting.{Writes, field_part, value_parts, frame_parts, Inner}
use Rattle.listing.proofs.StateTexts.{fixed, of_seen, ◌▹◌, same_texts, none_yet, under}
use Rattle.listing.proofs.LineTexts.{finished_line, running_line, ready_is, waiting_is, no_parts, slot_next, field_next, no_lines, line_next, none_past_first, channel_next}

-- ---- The innermost frame

-- the innermost frame of a thread that has frames
record Innermost (S : State) (t k : ℕ) : Type 0 where
  frame : Frame
  outer : List Frame
  is : (thread_at S t).frames ≡ frame ∷ outer
  there : frame_at S t k ≡ frame

innermost : (S : State) (t k : ℕ) → Inner t k S → Innermost S t k
innermost S t k count = go (thread_at S t).frames refl count
  where
    go : (fs : List Frame) → (thread_at S t).frames ≡ fs → length fs ≡ suc k → Innermost S t k
    go [] e c = absurd (omega (arith, c))
    go (f ∷ fs) e c = record { frame = f; outer = fs; is = e; there = innermost_frame S t e (omega (arith, c)) }

-- ---- Fields

module _ {s : List ℕ} {out : Output} (o : ℕ) where
  pub no_field_yet : out.at ≤ length out.buf.now → Writes (13 * 0) s out out (λ S. o < length S.objects) (λ S. value_parts (take 0 (object_at S.objects o).fields))
  no_field_yet there = none_yet (13 * 0) (λ S. value_parts []) (λ S. no_parts) there

  pub field_after : {out₁ out₂ : Output} {v : Value} (j : ℕ)
      → Writes (13 * j) s out out₁ (λ S. o < length S.objects) (λ S. value_parts (take j (object_at S.objects o).fields))
      → Sees s (FieldIn o j) (λ S. slot_at (object_at S.objects o).fields j) v → Wrote 13 out₁ out₂ (field_part v)
      → Writes (13 * (j + 1)) s out out₂ (λ S. o < length S.objects) (λ S. value_parts (take (j + 1) (object_at S.objects o).fields))
  field_after j a seen w =
      same_texts (13 * (j + 1))
      (λ P n S rest held fits made. field_next (length S.objects) (object_at S.objects o).fields j (object_fits fits o made).fields)
      (omega arith) (a ▹ of_seen {Q = λ S. o < length S.objects} field_part (λ P n S fits made. field_in fits o j made) seen w)

  pub all_fields : {out₁ : Output} (j : ℕ) → Most.fields ≤ j → j ≤ Most.fields
      → Writes (13 * j) s out out₁ (λ S. o < length S.objects) (λ S. value_parts (take j (object_at S.objects o).fields))
      → Writes 52 s out out₁ (λ S. o < length S.objects) (λ S. value_parts (object_at S.objects o).fields)
  all_fields j all few a =
      same_texts 52 (λ P n S rest held fits made. ap value_parts (take_all j (object_at S.objects o).fields (omega (arith, (object_fits fits o made).few)))) (omega arith) a

-- ---- Slots

module _ {s : List ℕ} (t k : ℕ) where
  pub no_slot_yet : {out : Output} → out.at ≤ length out.buf.now → Writes (13 * 0) s out out (Inner t k) (λ S. value_parts (take 0 (frame_at S t k).slots))
  no_slot_yet there = none_yet (13 * 0) (λ S. value_parts []) (λ S. no_parts) there

  module _ {d : ℕ} (counted : Sees s Any (λ S. length (frame_at S t k).slots) d) where
    slot_count : (P : Program) (n : ℕ) (S : State) (rest : List ℕ) → Held s S rest → Fits mosts P n S → Inner t k S → d % 17 ≡ length (frame_at S t k).slots
    slot_count P n S rest held fits inner =
        let same = counted.sees S rest held tt in
        rw same (mod-eq_of_lt (omega (arith, (frame_slots_fit fits t k).few)))

    pub slot_after : {out out₁ out₂ : Output} {v : Value} (i : ℕ) → i < d % 17
        → Writes (13 * i) s out out₁ (Inner t k) (λ S. value_parts (take i (frame_at S t k).slots))
        → Sees s (λ S. InTable (slot_at (frame_at S t k).slots i)) (λ S. slot_at (frame_at S t k).slots i) v → Wrote 13 out₁ out₂ (space ∷ value_text v)
        → Writes (13 * (i + 1)) s out out₂ (Inner t k) (λ S. value_parts (take (i + 1) (frame_at S t k).slots))
    slot_after i more a seen w =
        same_texts (13 * (i + 1))
        (λ P n S rest held fits inner. slot_next (frame_at S t k).slots i (rw (slot_count P n S rest held fits inner) at more))
        (omega arith)
        (a ▹ of_seen {Q = Inner t k} (λ v. space ∷ value_text v)
        (λ P n S fits inner. has_place fits (slot_at (frame_at S t k).slots i) (slot_in_range fits t k i)) seen w)

    pub all_slots : {out out₁ : Output} (i : ℕ) → i ≤ 16 → d % 17 ≤ i → Writes (13 * i) s out out₁ (Inner t k) (λ S. value_parts (take i (frame_at S t k).slots))
        → Writes 208 s out out₁ (Inner t k) (λ S. value_parts (frame_at S t k).slots)
    all_slots i few all a =
        same_texts 208 (λ P n S rest held fits inner. ap value_parts (take_all i (frame_at S t k).slots (rw (slot_count P n S rest held fits inner) at all))) (omega arith) a

-- ---- Objects

-- a line for each object, of whatever text
module _ {s : List ℕ} (line : ℕ → Object → List ℕ) where
  pub no_object_yet : {out : Output} → out.at ≤ length out.buf.now → Writes 0 s out out Any (λ S. numbered line 0 (take 0 S.objects))
  no_object_yet there = none_yet 0 (λ S. numbered line 0 []) (λ S. no_lines line 0) there

  module _ {d : ℕ} (counted : Sees s Any (λ S. length S.objects) d) where
    object_count : (P : Program) (n : ℕ) (S : State) (rest : List ℕ) → Held s S rest → Fits mosts P n S → d % 257 ≡ length S.objects
    object_count P n S rest held fits =
        let same = counted.sees S rest held tt in
        rw same (mod-eq_of_lt (omega (arith, fits.few_objects)))

    pub object_after : {i j k : ℕ} {out out₁ out₂ : Output} (o : ℕ) → o < d % 257 → i + j ≤ k
        → Writes i s out out₁ Any (λ S. numbered line 0 (take o S.objects))
        → Writes j s out₁ out₂ (λ S. o < length S.objects) (λ S. line o (object_at S.objects o))
        → Writes k s out out₂ Any (λ S. numbered line 0 (take (o + 1) S.objects))
    unfolding object_at
    object_after {k = k} o more wide a b =
        same_texts k
        (λ P n S rest held fits any. rw (add-one o) (line_next line 0 S.objects o o no_object (zero-add o) (there P n S rest held fits)))
        wide (a ▹ under (λ P n S rest held fits any. there P n S rest held fits) b)
      where
        there : (P : Program) (n : ℕ) (S : State) (rest : List ℕ) → Held s S rest → Fits mosts P n S → o < length S.objects
        there P n S rest held fits = rw (object_count P n S rest held fits) at more

    pub all_objects_lem : {i k : ℕ} {out out₁ : Output} (o : ℕ) → d % 257 ≤ o → i ≤ k → Writes i s out out₁ Any (λ S. numbered line 0 (take o S.objects))
        → Writes k s out out₁ Any (λ S. numbered line 0 S.objects)
    all_objects_lem {k = k} o all wide a =
        same_texts k (λ P n S rest held fits any. ap (numbered line 0) (take_all o S.objects (rw (object_count P n S rest held fits) at all))) wide a

-- ---- Channels and threads

module _ {s : List ℕ} {d : ℕ} (counted : Sees s Any (λ S. length S.threads) d) where
  thread_count : (P : Program) (n : ℕ) (S : State) (rest : List ℕ) → Held s S rest → Fits mosts P n S → d % 17 ≡ length S.threads
  thread_count P n S rest held fits =
      let same = counted.sees S rest held tt in
      rw same (mod-eq_of_lt (omega (arith, fits.few_threads)))

  -- there are as many channels
  channel_count : (P : Program) (n : ℕ) (S : State) (rest : List ℕ) → Held s S rest → Fits mosts P n S → d % 17 ≡ length S.channels
  channel_count P n S rest held fits = thread_count P n S rest held fits ∙ sym fits.channel_each

  module _ {out : Output} (c : ℕ) where
    pub channel_after : {out₁ out₂ : Output} → 1 ≤ c → c < d % 17 → Writes (29 * c) s out out₁ Any (λ S. numbered channel_line 1 (drop 1 (take c S.channels)))
        → Writes 29 s out₁ out₂ Any (λ S. channel_line c (channel_at S c))
        → Writes (29 * (c + 1)) s out out₂ Any (λ S. numbered channel_line 1 (drop 1 (take (c + 1) S.channels)))
    unfolding channel_at
    channel_after some more a b =
        same_texts (29 * (c + 1))
        (λ P n S rest held fits any. channel_next S.channels c some (rw (channel_count P n S rest held fits) at more))
        (omega arith) (a ▹ b)

    pub all_channels : {out₁ : Output} → c ≤ 16 → d % 17 ≤ c → Writes (29 * c) s out out₁ Any (λ S. numbered channel_line 1 (drop 1 (take c S.channels)))
        → Writes 464 s out out₁ Any (λ S. numbered channel_line 1 (drop 1 S.channels))
    all_channels few all a =
        same_texts 464 (λ P n S rest held fits any. ap (λ xs. numbered channel_line 1 (drop 1 xs)) (take_all c S.channels (rw (channel_count P n S rest held fits) at all))) (omega arith) a

  module _ {out : Output} (t : ℕ) where
    pub thread_after : {out₁ out₂ : Output} → t < d % 17 → Writes (243 * t) s out out₁ Any (λ S. numbered thread_line 0 (take t S.threads))
        → Writes 243 s out₁ out₂ Any (λ S. thread_line t (thread_at S t)) → Writes (243 * (t + 1)) s out out₂ Any (λ S. numbered thread_line 0 (take (t + 1) S.threads))
    unfolding thread_at
    thread_after more a b =
        same_texts (243 * (t + 1))
        (λ P n S rest held fits any. rw (add-one t) (line_next thread_line 0 S.threads t t no_thread (zero-add t) (rw (thread_count P n S rest held fits) at more)))
        (omega arith) (a ▹ b)

    pub all_threads : {out₁ : Output} → t ≤ 16 → d % 17 ≤ t → Writes (243 * t) s out out₁ Any (λ S. numbered thread_line 0 (take t S.threads))
        → Writes 3888 s out out₁ Any (λ S. numbered thread_line 0 S.threads)
    all_threads few all a =
        same_texts 3888 (λ P n S rest held fits any. ap (numbered thread_line 0) (take_all t S.threads (rw (thread_count P n S rest held fits) at all))) (omega arith) a

module _ {s : List ℕ} {out : Output} where
  pub no_channel_yet : out.at ≤ length out.buf.now → Writes (29 * 1) s out out Any (λ S. numbered channel_line 1 (drop 1 (take 1 S.channels)))
  no_channel_yet there =
      none_yet (29 * 1) (λ S. numbered channel_line 1 (drop 1 (take 1 S.channels))) (λ S. rw (none_past_first S.channels) (no_lines channel_line 1)) there

  pub no_thread_yet : out.at ≤ length out.buf.now → Writes (243 * 0) s out out Any (λ S. numbered thread_line 0 (take 0 S.threads))
  no_thread_yet there = none_yet (243 * 0) (λ S. numbered thread_line 0 []) (λ S. no_lines thread_line 0) there

-- ---- A thread

module _ {s : List ℕ} {out out₁ : Output} (t : ℕ) where
  pub ready_seen : {w : ℕ} → Sees s Any (λ S. sender_word (thread_at S t).sender) w → w ≡ 0 → Wrote 6 out out₁ (bytes " ready")
      → Writes 8 s out out₁ Any (λ S. space ∷ sender_text (thread_at S t).sender)
  ready_seen seen zero_word w =
      same_texts 8 (λ P n S rest held fits any. ready_is (thread_at S t).sender (sym (seen.sees S rest held tt) ∙ zero_word)) (omega arith) (fixed w)

  pub waiting_seen : {w : ℕ} → Sees s Any (λ S. sender_word (thread_at S t).sender) w → (w ≡ 0 → ⊥) → Wrote 8 out out₁ (bytes " waiting")
      → Writes 8 s out out₁ Any (λ S. space ∷ sender_text (thread_at S t).sender)
  waiting_seen seen other w =
      same_texts 8 (λ P n S rest held fits any. waiting_is (thread_at S t).sender (λ e. other (seen.sees S rest held tt ∙ e))) (omega arith) (fixed w)

  module _ {d : ℕ} (counted : Sees s Any (λ S. length (thread_at S t).frames) d) where
    pub finished_thread : {j : ℕ} → j ≤ 243 → d ≡ 0 → Writes j s out out₁ Any (λ S. bytes "(thread" ++ (number_part t ++ bytes " finished)\n"))
        → Writes 243 s out out₁ Any (λ S. thread_line t (thread_at S t))
    finished_thread wide none w =
        same_texts 243 (λ P n S rest held fits any. finished_line t (thread_at S t) (sym (counted.sees S rest held tt) ∙ none)) wide w

    pub running_thread : {out₂ out₃ : Output} (k : ℕ) → k ≡ (d - 1) % 16 → (d ≡ 0 → ⊥)
        → Writes 21 s out out₁ Any (λ S. bytes "(thread" ++ (number_part t ++ (space ∷ sender_text (thread_at S t).sender)))
        → Writes 220 s out₁ out₂ (Inner t k) (λ S. frame_parts (frame_at S t k)) → Wrote 2 out₂ out₃ (bytes ")\n")
        → Writes 243 s out out₃ Any (λ S. thread_line t (thread_at S t))
    running_thread k place some a b w =
        same_texts 243
        (λ P n S rest held fits any.
        let i = innermost S t k (inner P n S rest held fits) in
        rw (append_assoc (number_part t) (space ∷ sender_text (thread_at S t).sender) (frame_parts (frame_at S t k) ++ bytes ")\n"), i.there) (running_line t (thread_at S t) i.is))
        (omega arith) (a ▹ under (λ P n S rest held fits any. inner P n S rest held fits) b ▹ fixed w)
      where
        inner : (P : Program) (n : ℕ) (S : State) (rest : List ℕ) → Held s S rest → Fits mosts P n S → Inner t k S
        inner P n S rest held fits =
            let count : d ≡ length (thread_at S t).frames = counted.sees S rest held tt in
            let few = (thread_fits fits t).few in
            let last : (d - 1) % 16 ≡ d - 1 = mod-eq_of_lt (omega (arith, count, few)) in
            omega (arith, count, some, place, last)

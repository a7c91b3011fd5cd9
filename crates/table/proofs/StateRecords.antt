-- Fields, messages, objects and threads written word by word: each write falls into its record's part of the table, and the words that are left are those
-- of the new record.
use Rattle.std.proofs.Common.{◌≡◌, ℕ, ◌+◌, ◌*◌, ◌%◌, ◌<◌, List, [], ◌∷◌, map, length, get_or, set, sym, refl, ap, ◌∙◌, add-one, arith}
use Rattle.std.proofs.Math.ListN.{get_or-eq_default}
use Rattle.rules.specs.declared.Cap.{Cap}
use Rattle.rules.specs.declared.Value.{Value}
use Rattle.rules.specs.declared.Value.TheVariants.{Absent}
use Rattle.rules.specs.Mosts as Most
use Rattle.rules.specs.Lists.{pad, cells}
use Rattle.rules.specs.Script.{rank}
use Rattle.rules.specs.State.{Object, waiting, no_thread, State, object_at, channel_at}
use Rattle.rules.specs.Turn.{put_channel, set_field, started}
use Rattle.rules.specs.Tables.{word, unmade, object_words, frame_words, outermost_first, thread_words, channel_words}
use Rattle.rules.proofs.ListLaws.{map_set, set_past, set_pad}
use Rattle.rules.proofs.TableWords.{thread_words_length}
use Rattle.table.specs.StateTable.{Counted, HasField, stored, made, channelled, Puts, sending, Next}
use Rattle.table.proofs.StateTable.{Part, part_set, held_by, held_length, object_part, channel_part, object_put, object_made, sender_put, channel_put, thread_started, no_thread_at}
use Rattle.table.proofs.StateReads.{object_there, channel_word}

-- ---- Words of records

-- field j written among the words of its object
field_in_object_words : (n : ℕ) (o : Object) (j : ℕ) (v : Value) → j < length o.fields → j < 4 → set (object_words n o) (4 + j) (word v) ≡ object_words n (set_field o j v)
unfolding object_words set_field
field_in_object_words n o j v there few =
    set_past (rank o.cap ∷ o.kind ∷ o.creator ∷ n ∷ []) _ 4 j (word v) refl
    ∙ ap (λ ws. rank o.cap ∷ o.kind ∷ o.creator ∷ n ∷ ws)
    (sym (map_set word (pad Most.fields Absent o.fields) j v) ∙ ap (map word) (set_pad Most.fields Absent o.fields j v there few))

-- ---- Fields and channels

module _ {l rest : List ℕ} {N : ℕ → ℕ} {S : State} (held : Counted l N S rest) where
  pub field_stored : (o j x : ℕ) (v : Value) → o < 256 → j < 4 → x ≡ word v → HasField o j S → Counted (set l (12 + o * 8 + j) x) N (stored o j v S) rest
  unfolding stored
  field_stored o j x v o< j< x≡ has =
      let old = object_at S.objects o in
      let part : Part l (8 + o * 8) 8 (object_words (N o) old) l = rw (object_there S.objects o has.object) at (object_part held o o<) in
      held_by ((part_set part (4 + j) (12 + o * 8 + j) x (omega arith) (omega arith)).is ∙ rw (x≡, field_in_object_words (N o) old j v has.field j<)) (object_put held o (set_field old j v) o< has.object)

  pub channel_emptied : (c : ℕ) → c < 16 → c < length S.channels → Counted (set l (6952 + c * 2) 0) N (channelled c Absent (channel_at S c).number S) rest
  unfolding channelled channel_words
  channel_emptied c c< there = held_by (part_set (channel_part held c c<) 0 (6952 + c * 2) 0 (omega arith) (omega arith)).is (channel_put held c _ c< there)

  channel_written : (c x n : ℕ) (v : Value) → c < 16 → c < length S.channels → x ≡ word v
      → Counted (set (set l (6952 + c * 2) x) (6953 + c * 2) n) N (channelled c v n S) rest
  unfolding channelled channel_words
  channel_written c x n v c< there x≡ =
      let message = part_set (channel_part held c c<) 0 (6952 + c * 2) x (omega arith) (omega arith) in
      held_by ((part_set message 1 (6953 + c * 2) n (omega arith) (omega arith)).is ∙ rw x≡) (channel_put held c _ c< there)

  -- the next message, and the thread that waits as its sender
  pub message_put : (t c x : ℕ) (v : Value) → t < 16 → c < 16 → x ≡ word v → Puts t c S
      → (let n = get_or l (6953 + c * 2) 0 % 32768 + 1 in
      let i = (channel_at S c).number + 1 in
      Counted (set (set (set l (6952 + c * 2) x) (6953 + c * 2) n) (2057 + t * 306) (n + 1)) N (sending t i (channelled c v i S)) rest)
  unfolding sending channelled put_channel channel_words
  message_put t c x v t< c< x≡ puts =
      let i = (channel_at S c).number + 1 in
      let next : get_or l (6953 + c * 2) 0 % 32768 + 1 ≡ i = omega (arith, channel_word held c 1 (6953 + c * 2) c< (omega arith) (omega arith), puts.number) in
      rw next (sender_put (channel_written c x i v c< puts.channel x≡) t (waiting i) t< puts.thread)

  -- ---- Objects and threads

  -- object n, with these words as its fields
  pub object_added : (t n cap_word kind a b c d : ℕ) (k : Cap) (fields : List Value) → n < 256 → cap_word ≡ rank k
      → a ∷ b ∷ c ∷ d ∷ [] ≡ map word (pad 4 Absent fields) → n ≡ length S.objects
      → (let at = 8 + n * 8 in
      let new : Object = record { cap = k; kind = kind; creator = t; fields = fields } in
      Counted (set (set (set (set (set (set (set (set l at cap_word) (at + 1) kind) (at + 2) t) (at + 4) a) (at + 5) b) (at + 6) c) (at + 7) d) 0 (n + 1)) N (made new S) rest)
  unfolding made object_words pad
  object_added t n cap_word kind a b c d k fields n< cap≡ four next =
      let at : ℕ = 8 + n * 8 in
      let none : get_or S.objects n unmade ≡ unmade = get_or-eq_default S.objects unmade (omega arith) in
      let empty : Part l at 8 (object_words (N n) unmade) l = rw none at (object_part held n n<) in
      let head = part_set (part_set (part_set empty 0 at cap_word (omega arith) (omega arith)) 1 (at + 1) kind refl (omega arith)) 2 (at + 2) t refl (omega arith) in
      let half = part_set (part_set head 4 (at + 4) a refl (omega arith)) 5 (at + 5) b refl (omega arith) in
      let whole = part_set (part_set half 6 (at + 6) c refl (omega arith)) 7 (at + 7) d refl (omega arith) in
      held_by
      (ap (λ t. set t 0 (n + 1)) whole.is ∙ rw (add-one n, cap≡, four))
      (object_made held n _ n< next)

  -- thread n, with one frame and its channel in slot 0
  pub thread_added : (n b : ℕ) → n < 16 → Next n S
      → (let at = 2056 + n * 306 in Counted (set (set (set (set (set l at 1) (at + 2) b) (at + 4) 1) (at + 5) (n + 257)) 1 (n + 1)) N (started S b) rest)
  unfolding thread_words frame_words outermost_first pad cells
  thread_added n b n< next =
      let at : ℕ = 2056 + n * 306 in
      let empty : Part l at 306 (thread_words no_thread) l = record { is = no_thread_at held n n< next.next; long = thread_words_length no_thread; fits = omega (arith, held_length held) } in
      let half = part_set (part_set empty 0 at 1 (omega arith) (omega arith)) 2 (at + 2) b refl (omega arith) in
      let written = part_set (part_set half 4 (at + 4) 1 refl (omega arith)) 5 (at + 5) (n + 257) refl (omega arith) in
      held_by (ap (λ k. set k 1 (n + 1)) written.is ∙ rw (add-one n)) (thread_started held n b n< next.next next.channels)

-- Both tables are 8,192 words, since each part is made up to its length; and what is packed into one word is told by it.
use Prim.Native.Nat.{ℕ, suc, ◌+◌, ◌*◌, ◌/◌, ◌%◌}
use native.Mathlib.Omega.{arith}
use mathlib.Core.Path.{◌≡◌, refl, sym, ap, ◌∙◌}
use mathlib.Core.List.{List, [], ◌∷◌, ◌++◌, reverse, reverse-cons}
use lib.Dec.{eqb}
use lib.ListN.{length, length-append, length-map, length-reverse}
use Rattle.rules.specs.declared.Cap.{Cap}
use Rattle.rules.specs.declared.Cap.TheVariants.{Imm, Iso, Local, Unsafe}
use Rattle.rules.specs.Mosts as Most
use Rattle.rules.specs.Lists.{pad, Every}
use Rattle.rules.specs.Script.{Operand, reads, takes, Program, rank}
use Rattle.rules.specs.Reading.{slot_of}
use Rattle.rules.specs.State.{Object, Frame, Sender, ready, waiting, Thread, Channel, State}
use Rattle.rules.specs.Tables.{operand_word, operand_of, cap_of, used_program_words, program_words, no_frame, object_words, object_cells, frame_words, sender_word, outermost_first, thread_words, channel_words, used_state_words, counted_words, state_words}
use Rattle.rules.specs.Holders.{holders}
use Rattle.rules.proofs.ListLaws.{by_bool, every_snoc, length_pad, length_records}

-- ---- the length

pub program_words_length : (P : Program) → length (program_words P) ≡ Most.words
unfolding program_words
program_words_length P = length_pad Most.words 0 (used_program_words P)

pub object_words_length : (held : ℕ) (o : Object) → length (object_words held o) ≡ 8
unfolding object_words
object_words_length held o = simp (length-map, length_pad)

object_cells_length : (c : ℕ → ℕ) (n : ℕ) (os : List Object) → length (object_cells c n os) ≡ length os * 8
unfolding object_cells
object_cells_length c n [] = refl
object_cells_length c n (o ∷ os) =
    length-append (object_words (c n) o) (object_cells c (suc n) os) ∙ omega (arith, object_words_length (c n) o, object_cells_length c (suc n) os)

pub objects_length : (c : ℕ → ℕ) (n k : ℕ) (o : Object) (os : List Object) → length (object_cells c n (pad k o os)) ≡ k * 8
objects_length c n k o os = object_cells_length c n (pad k o os) ∙ ap (λ i. i * 8) (length_pad k o os)

pub frame_words_length : (f : Frame) → length (frame_words f) ≡ 19
unfolding frame_words
frame_words_length f = simp (length-map, length_pad)

pub thread_words_length : (t : Thread) → length (thread_words t) ≡ 306
unfolding thread_words
thread_words_length t = ap (λ k. suc (suc k)) (length_records frame_words _ frame_words_length _ no_frame (outermost_first t.frames))

pub channel_words_length : (c : Channel) → length (channel_words c) ≡ 2
unfolding channel_words
channel_words_length c = refl

pub counted_words_length : (c : ℕ → ℕ) (S : State) → length (counted_words c S) ≡ Most.words
unfolding counted_words
counted_words_length c S = length_pad Most.words 0 (used_state_words c S)

pub state_words_length : (S : State) → length (state_words S) ≡ Most.words
state_words_length S = counted_words_length (holders S) S

-- nothing of a state is cut off
pub used_state_words_length : (c : ℕ → ℕ) (S : State) → length (used_state_words c S) ≡ 6984
unfolding used_state_words
used_state_words_length c S =
    simp (
      length-append,
      length_pad,
      objects_length,
      length_records thread_words _ thread_words_length,
      length_records channel_words _ channel_words_length,
    )

pub every_outermost : (Q : Frame → Type 0) (fs : List Frame) → Every Q fs → Every Q (outermost_first fs)
unfolding outermost_first
every_outermost Q [] e = tt
every_outermost Q (f ∷ fs) e = every_snoc Q (outermost_first fs) f e.0 (every_outermost Q fs e.1)

-- ---- what a word tells

pub cap_of_rank : (k : Cap) → cap_of (rank k) ≡ k
cap_of_rank Imm = refl
cap_of_rank Iso = refl
cap_of_rank Local = refl
cap_of_rank Unsafe = refl

-- an operand's word is odd where it takes, and half of it is the slot
pub operand_of_word : (w : Operand) → operand_of (operand_word w) ≡ w
operand_of_word (reads s) =
    let even : s * 2 % 2 ≡ 0 = omega arith in
    let half : s * 2 / 2 ≡ s = omega arith in
    rw (even, half) refl
operand_of_word (takes s) =
    let odd : (s * 2 + 1) % 2 ≡ 1 = omega arith in
    let half : (s * 2 + 1) / 2 ≡ s = omega arith in
    rw (odd, half) refl

pub half_of_word : (w : Operand) → operand_word w / 2 ≡ slot_of w
half_of_word (reads s) = omega arith
half_of_word (takes s) = omega arith

pub slot_of_word : (w : ℕ) → slot_of (operand_of w) ≡ w / 2
slot_of_word w = by_bool (eqb (w % 2) 1) (λ t. rw t refl) (λ t. rw t refl)

pub sender_tells : (d d' : Sender) → sender_word d ≡ sender_word d' → d ≡ d'
sender_tells ready ready e = refl
sender_tells ready (waiting i) e = absurd (omega arith)
sender_tells (waiting i) ready e = absurd (omega arith)
sender_tells (waiting i) (waiting j) e = ap waiting (omega arith)

pub outermost_reverse : (fs : List Frame) → outermost_first fs ≡ reverse fs
unfolding outermost_first
outermost_reverse [] = refl
outermost_reverse (f ∷ fs) = ap (λ (gs : List Frame). gs ++ (f ∷ [])) (outermost_reverse fs) ∙ sym (reverse-cons f fs)

pub length_outermost : (fs : List Frame) → length (outermost_first fs) ≡ length fs
length_outermost fs = ap length (outermost_reverse fs) ∙ length-reverse fs

-- Both tables to the word: "8,192 words of 16 bits each", "unused words among the 8,192 are zero". docs/LAYOUT.md says the same in prose.
use Rattle.std.specs.Prelude.{ℕ, zero, suc, ◌+◌, ◌*◌, ◌/◌, ◌%◌, cond, List, [], ◌∷◌, ◌++◌, map, eqb, length}
use Rattle.rules.specs.declared.Cap.{Cap}
use Rattle.rules.specs.declared.Cap.TheVariants.{Imm, Iso, Local, Unsafe}
use Rattle.rules.specs.declared.Value.{Value}
use Rattle.rules.specs.declared.Value.TheVariants.{Absent, Obj, Chan}
use Rattle.rules.specs.Mosts as Most
use Rattle.rules.specs.Mosts.{mosts}
use Rattle.rules.specs.Lists.{pad, cells}
use Rattle.rules.specs.Script.{Operand, reads, takes, value, field, swap, call, new, cast, spawn, send, recv, copy, bind, give, thread, method, Form, kind, opens, line, Edition, edition1, edition2, Program, rank, lines_of}
use Rattle.rules.specs.declared.forms.Form.TheVariants as N
use Rattle.rules.specs.Forms.{form_number}
use Rattle.rules.specs.State.{Object, Frame, Sender, ready, waiting, Thread, no_thread, Channel, empty_channel, State}
use Rattle.rules.specs.Holders.{holders}

-- ---- The program table

-- an operand: twice its slot, and one more where it takes
abbrev pub operand_word : Operand → ℕ
operand_word (reads s) = s * 2
operand_word (takes s) = s * 2 + 1

-- an item of a list: one more, so that 0 stands after the last
abbrev pub operand_item : Operand → ℕ
operand_item w = suc (operand_word w)

-- and read back
abbrev pub operand_of : ℕ → Operand
operand_of w = cond (eqb (w % 2) 1) (takes (w / 2)) (reads (w / 2))

abbrev pub cap_of : ℕ → Cap
cap_of zero = Imm
cap_of (suc zero) = Iso
cap_of (suc (suc zero)) = Local
cap_of (suc (suc (suc n))) = Unsafe

-- a line: the number of its form, and its parts as they are written
unfoldable pub line_words : Form → List ℕ
line_words (kind K) = form_number N.Kind ∷ K.fields ∷ map suc K.methods
line_words (opens thread) = form_number N.Thread ∷ []
line_words (opens method) = form_number N.Method ∷ []
line_words (line (give w)) = form_number N.Give ∷ operand_word w ∷ []
line_words (line (bind (value w))) = form_number N.Value ∷ operand_word w ∷ []
line_words (line (bind (field s f))) = form_number N.Field ∷ s ∷ f ∷ []
line_words (line (bind (swap s f w))) = form_number N.Swap ∷ s ∷ f ∷ operand_word w ∷ []
line_words (line (bind (call s i w))) = form_number N.Call ∷ s ∷ i ∷ operand_word w ∷ []
line_words (line (bind (new k n ws))) = form_number N.New ∷ rank k ∷ n ∷ map operand_item ws
line_words (line (bind (cast k w))) = form_number N.Cast ∷ rank k ∷ operand_word w ∷ []
line_words (line (bind (spawn b))) = form_number N.Spawn ∷ b ∷ []
line_words (line (bind (send s w))) = form_number N.Send ∷ s ∷ operand_word w ∷ []
line_words (line (bind (recv s))) = form_number N.Recv ∷ s ∷ []
line_words (line (bind (copy k s))) = form_number N.Copy ∷ rank k ∷ s ∷ []

unfoldable pub row : Form → List ℕ
row F = pad 8 0 (line_words F)

-- for each block the number of the line after its opener; n is the first line's number
unfoldable pub first_lines : ℕ → List Form → List ℕ
first_lines n [] = []
first_lines n (kind K ∷ Fs) = first_lines (suc n) Fs
first_lines n (opens o ∷ Fs) = suc n ∷ first_lines (suc n) Fs
first_lines n (line x ∷ Fs) = first_lines (suc n) Fs

-- 2 where the text's first line names the edition; that line has no words of its own
abbrev pub edition_word : Edition → ℕ
edition_word edition1 = 0
edition_word edition2 = 2

-- words 0 to 2 count kinds, blocks and lines, word 3 is the edition; a first line for each block from 8; lines of 8 words from 72
unfoldable pub used_program_words : Program → List ℕ
used_program_words P =
    pad 8 0 (length P.kinds ∷ length P.blocks ∷ length (lines_of P) ∷ edition_word P.edition ∷ [])
    ++ (pad mosts.blocks 0 (first_lines 0 (lines_of P)) ++ cells row (lines_of P))

unfoldable pub program_words : Program → List ℕ
program_words P = pad Most.words 0 (used_program_words P)

-- ---- The state table

-- 0 absent, 1 + n an object, 257 + c a channel
abbrev pub word : Value → ℕ
word Absent = 0
word (Obj n) = n + 1
word (Chan c) = c + 257

-- what stands in places that are not used: its words are zero
abbrev pub unmade : Object
unmade = record { cap = Imm; kind = 0; creator = 0; fields = [] }

abbrev pub no_frame : Frame
no_frame = record { block = 0; line = 0; slots = [] }

-- capability, kind, creator, how many places hold the object, the fields
unfoldable pub object_words : ℕ → Object → List ℕ
object_words held o = rank o.cap ∷ o.kind ∷ o.creator ∷ held ∷ map word (pad Most.fields Absent o.fields)

-- objects one after the other, from number n, each with its count
unfoldable pub object_cells : (ℕ → ℕ) → ℕ → List Object → List ℕ
object_cells c n [] = []
object_cells c n (o ∷ os) = object_words (c n) o ++ object_cells c (suc n) os

-- block, line, the number of filled slots, the slots
unfoldable pub frame_words : Frame → List ℕ
frame_words f = f.block ∷ f.line ∷ length f.slots ∷ map word (pad Most.slots Absent f.slots)

-- 0 ready, 1 + i waiting as the sender of message i
abbrev pub sender_word : Sender → ℕ
sender_word ready = 0
sender_word (waiting i) = i + 1

unfoldable pub outermost_first : List Frame → List Frame
outermost_first [] = []
outermost_first (f ∷ fs) = outermost_first fs ++ (f ∷ [])

-- the number of frames, the sender, the frames
unfoldable pub thread_words : Thread → List ℕ
thread_words t = length t.frames ∷ sender_word t.sender ∷ cells frame_words (pad Most.frames no_frame (outermost_first t.frames))

-- message, message number
unfoldable pub channel_words : Channel → List ℕ
channel_words c = word c.message ∷ c.number ∷ []

-- words 0 and 1 count objects and threads; objects of 8 words from 8, with these counts of holders; threads of 306 from 2,056; channels of 2 from 6,952
unfoldable pub used_state_words : (ℕ → ℕ) → State → List ℕ
used_state_words c S =
    pad 8 0 (length S.objects ∷ length S.threads ∷ [])
    ++ (object_cells c 0 (pad mosts.objects unmade S.objects)
    ++ (cells thread_words (pad mosts.threads no_thread S.threads) ++ cells channel_words (pad mosts.threads empty_channel S.channels)))

unfoldable pub counted_words : (ℕ → ℕ) → State → List ℕ
counted_words c S = pad Most.words 0 (used_state_words c S)

-- with the state's own counts: an object that is not made has no holder
abbrev pub state_words : State → List ℕ
state_words S = counted_words (holders S) S

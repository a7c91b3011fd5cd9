-- The state table by its words, and what each accessor says of the abstract state.
use Rattle.std.specs.Prelude.{◌≡◌, ℕ, suc, ◌+◌, ◌-◌, ◌*◌, ◌%◌, ◌<◌, ◌≤◌, cond, List, [], ◌∷◌, ◌++◌, length, ◌==◌, nat_lt, slice_index, slice_index_or, slice_set}
use Rattle.rules.specs.declared.Cap.{Cap}
use Rattle.rules.specs.declared.Value.{Value}
use Rattle.rules.specs.declared.Value.TheVariants.{Absent, Obj, Chan}
use Rattle.rules.specs.Mosts as Most
use Rattle.rules.specs.Mosts.{mosts}
use Rattle.rules.specs.Lists.{pad, Every}
use Rattle.rules.specs.Script.{line, Program, rank, lines_of, block_at, line_at}
use Rattle.rules.specs.State.{Object, Frame, Sender, ready, waiting, State, object_at, thread_at, channel_at, slot_at, start}
use Rattle.rules.specs.Turn.{put_thread, put_objects, put_channel, set_field, with_slots, filled}
use Rattle.rules.specs.Tables.{row, outermost_first, no_frame, counted_words}
use Rattle.rules.specs.Holders.{holders}
use Rattle.rules.specs.Reach.{count_one}
use Rattle.table.specs.ProgramTable.{fresh_table, Filled}
use Rattle.table.specs.declared.standing.Here.{Here}

-- ---- Values

-- a word read back; channels stand in as many places as threads
abbrev pub value_of : ℕ → Value
value_of w = cond (w == 0) Absent (cond (nat_lt w 257) (Obj (w - 1)) (Chan ((w - 257) % mosts.threads)))

-- an object or a channel that has a place in the table
abbrev pub InTable : Value → Type 0
InTable Absent = Unit {0}
InTable (Obj n) = n < mosts.objects
InTable (Chan c) = c < mosts.threads

-- ---- The table

-- a table that holds the state, with N n as the holder count of object n; `rest` stands past its 8,192 words
pub record Counted (t : List ℕ) (N : ℕ → ℕ) (S : State) (rest : List ℕ) : Type 0 where
  pub words : t ≡ counted_words N S ++ rest

-- the same with the state's own counts: t ≡ state_words S ++ rest
abbrev pub Held : List ℕ → State → List ℕ → Type 0
Held t S rest = Counted t (holders S) S rest

-- a fresh table becomes that of the start of every run
pub record Starts (t t₁ : List ℕ) : Type 0 where
  pub starts : t ≡ fresh_table → Held t₁ start []

-- what is read of a table that holds a state of which P holds, whatever its counts
pub record Sees {A : Type 0} (t : List ℕ) (P : State → Type 0) (f : State → A) (r : A) : Type 0 where
  pub sees : {N : ℕ → ℕ} (S : State) (rest : List ℕ) → Counted t N S rest → P S → r ≡ f S

-- what a table that holds a state of which P holds becomes; its counts are kept
pub record Becomes (t : List ℕ) (P : State → Type 0) (f : State → State) (t₁ : List ℕ) : Type 0 where
  pub becomes : {N : ℕ → ℕ} (S : State) (rest : List ℕ) → Counted t N S rest → P S → Counted t₁ N (f S) rest

-- of any state
abbrev pub Any : State → Type 0
Any S = Unit {0}

-- ---- Where a thread stands

-- frame k of thread t, counted from the outermost
unfoldable pub frame_at : State → ℕ → ℕ → Frame
frame_at S t k = slice_index_or (outermost_first (thread_at S t).frames) k no_frame

-- and edited
unfoldable pub on_frame : ℕ → (Frame → Frame) → List Frame → List Frame
on_frame k g [] = []
on_frame k g (f ∷ fs) = cond (k == length fs) (g f ∷ fs) (f ∷ on_frame k g fs)

unfoldable pub edit_frame : State → ℕ → ℕ → (Frame → Frame) → Sender → State
edit_frame S t k g d = put_thread S t (on_frame k g (thread_at S t).frames) d

-- it is there; and it has room for one slot more, and the number of its next line is a word
pub record HasFrame (t k : ℕ) (S : State) : Type 0 where
  pub thread : t < length S.threads
  pub frame : k < length (thread_at S t).frames

pub record HasRoom (t k : ℕ) (S : State) : Type 0 where
  pub has : HasFrame t k S
  pub room : length (frame_at S t k).slots < Most.slots
  pub line : (frame_at S t k).line < Most.turns

-- "Each let fills the next slot.": the value goes there, the frame to its next line, and the thread is ready
unfoldable pub given : ℕ → ℕ → Value → State → State
given t k v S = edit_frame S t k (λ f. filled f f.slots v) ready

-- slot i is made absent
unfoldable pub cleared : ℕ → ℕ → ℕ → State → State
cleared t k i S = edit_frame S t k (λ f. with_slots f (slice_set f.slots i Absent)) (thread_at S t).sender

pub record HasSlot (t k i : ℕ) (S : State) : Type 0 where
  pub has : HasFrame t k S
  pub slot : i < length (frame_at S t k).slots

-- the place of line l of block b, where the thread stands, and the line's words in it
pub record OnLine (p : List ℕ) (P : Program) (b l : ℕ) (h : Here) : Type 0 where
  pub place : h.row ≡ (72 + (slice_index p (8 + b) + l) * 8) % Most.words
  pub words : (k : ℕ) → k < 8 → slice_index p (h.row + k) ≡ slice_index (row (line (line_at P b l))) k

-- ---- Objects, channels, threads

pub record HasField (o j : ℕ) (S : State) : Type 0 where
  pub object : o < length S.objects
  pub field : j < length (object_at S.objects o).fields

-- a field that can be read: it has a place in the table, or there is none
pub record FieldIn (o j : ℕ) (S : State) : Type 0 where
  pub few : length (object_at S.objects o).fields ≤ Most.fields
  pub in_table : InTable (slot_at (object_at S.objects o).fields j)

-- field j of object o holds v
unfoldable pub stored : ℕ → ℕ → Value → State → State
stored o j v S = put_objects S (slice_set S.objects o (set_field (object_at S.objects o) j v))

-- one object more
unfoldable pub made : Object → State → State
made o S = put_objects S (S.objects ++ (o ∷ []))

-- channel c holds v, with this number
unfoldable pub channelled : ℕ → Value → ℕ → State → State
channelled c v n S = put_channel S c (record { message = v; number = n })

-- the channel is there, the thread too, and the next number is a word
pub record Puts (t c : ℕ) (S : State) : Type 0 where
  pub thread : t < length S.threads
  pub channel : c < length S.channels
  pub number : (channel_at S c).number < Most.turns

-- thread t waits as the sender of message i
unfoldable pub sending : ℕ → ℕ → State → State
sending t i S = put_thread S t (thread_at S t).frames (waiting i)

-- k is the thread's innermost frame
pub record Innermost (t k : ℕ) (S : State) : Type 0 where
  pub thread : t < length S.threads
  pub frames : length (thread_at S t).frames ≡ suc k

-- the frame of a call; a frame more inside, a frame less
abbrev pub callee : ℕ → Value → Value → Frame
callee b target v = record { block = b; line = 0; slots = target ∷ v ∷ [] }

unfoldable pub called : ℕ → Frame → State → State
called t f S = put_thread S t (f ∷ (thread_at S t).frames) ready

unfoldable pub inner_less : List Frame → List Frame
inner_less [] = []
inner_less (f ∷ fs) = fs

unfoldable pub left : ℕ → State → State
left t S = put_thread S t (inner_less (thread_at S t).frames) ready

-- n is the next thread
pub record Next (n : ℕ) (S : State) : Type 0 where
  pub next : n ≡ length S.threads
  pub channels : length S.channels ≡ length S.threads

-- n is the next object, made of these values
pub record Makes (t n cap kind : ℕ) (fields : List Value) (e e₁ : List ℕ) : Type 0 where
  pub makes : (c : Cap) (vs : List Value) → cap ≡ rank c → fields ≡ pad Most.fields Absent vs
      → Becomes e (λ S. n ≡ length S.objects) (made (record { cap = c; kind = kind; creator = t; fields = vs })) e₁

-- ---- Holder counts

-- d is added to the count of a value, in words of 16 bits: it gets a holder more, or one less
unfoldable pub recount : ℕ → Value → (ℕ → ℕ) → ℕ → ℕ
recount d v N n = cond (count_one n v == 0) (N n) ((N n + d) % 65536)

abbrev pub raised : Value → (ℕ → ℕ) → ℕ → ℕ
raised v N = recount 1 v N

abbrev pub lowered : Value → (ℕ → ℕ) → ℕ → ℕ
lowered v N = recount 65535 v N

unfoldable pub all_raised : List Value → (ℕ → ℕ) → ℕ → ℕ
all_raised [] N = N
all_raised (v ∷ vs) N = all_raised vs (raised v N)

unfoldable pub all_lowered : List Value → (ℕ → ℕ) → ℕ → ℕ
all_lowered [] N = N
all_lowered (v ∷ vs) N = all_lowered vs (lowered v N)

-- and on the words of any table
unfoldable pub counted_by : ℕ → Value → List ℕ → List ℕ
counted_by d Absent t = t
counted_by d (Obj n) t = slice_set t (11 + n * 8) ((slice_index t (11 + n * 8) + d) % 65536)
counted_by d (Chan c) t = t

-- the state is kept, and its counts become these
pub record Counts (g : (ℕ → ℕ) → ℕ → ℕ) (t t₁ : List ℕ) : Type 0 where
  pub counts : {N : ℕ → ℕ} (S : State) (rest : List ℕ) → Counted t N S rest → Counted t₁ (g N) S rest

-- the stored count of object n
pub record Stores (t : List ℕ) (n r : ℕ) : Type 0 where
  pub stores : {N : ℕ → ℕ} (S : State) (rest : List ℕ) → Counted t N S rest → r ≡ N n

-- each value in the slots of frame k of thread t gets a holder less
pub record Releases (t k : ℕ) (e e₁ : List ℕ) : Type 0 where
  pub releases : {N : ℕ → ℕ} (S : State) (rest : List ℕ) → Counted e N S rest → length (frame_at S t k).slots ≤ Most.slots
      → Every InTable (frame_at S t k).slots → Counted e₁ (all_lowered (frame_at S t k).slots N) S rest

-- the same, and the frame, the innermost, ends
pub record Drops (t k : ℕ) (e e₁ : List ℕ) : Type 0 where
  pub drops : {N : ℕ → ℕ} (S : State) (rest : List ℕ) → Counted e N S rest → Innermost t k S → length (frame_at S t k).slots ≤ Most.slots
      → Every InTable (frame_at S t k).slots → Counted e₁ (all_lowered (frame_at S t k).slots N) (left t S) rest

-- ---- The line where a thread stands

-- of any program and state that the tables hold: the innermost of d frames, and the place of its line
pub record Stands (p s : List ℕ) (d : ℕ) (h : Here) : Type 0 where
  pub depth : {N : ℕ → ℕ} (S : State) (rest : List ℕ) → Counted s N S rest → length (thread_at S h.thread).frames ≡ d → d ≤ Most.frames → d ≡ suc h.depth
  pub row : {N : ℕ → ℕ} (P : Program) (S : State) (counts rest₁ rest₂ : List ℕ) → Filled p counts (lines_of P) rest₁ → Counted s N S rest₂
      → (let f = frame_at S h.thread h.depth in f.block < length P.blocks → f.line ≤ length (block_at P f.block).lets → OnLine p P f.block f.line h)

-- What every state that a run of an accepted script reaches is like: each count within its most, each number in its range.
use Rattle.std.specs.Prelude.{ℕ, ◌+◌, ◌≤◌, ◌<◌, ◌≡◌, List, [], ◌∷◌, length}
use Rattle.rules.specs.declared.Value.{Value}
use Rattle.rules.specs.declared.Value.TheVariants.{Absent, Obj, Chan}
use Rattle.rules.specs.declared.Mosts.{Mosts}
use Rattle.rules.specs.Mosts as Most
use Rattle.rules.specs.Lists.{Every}
use Rattle.rules.specs.Script.{Program, kind_at, block_at}
use Rattle.rules.specs.Reading.{first_slots}
use Rattle.rules.specs.State.{Object, Frame, Sender, ready, waiting, Thread, Channel, State}

-- of o objects and c channels
abbrev pub InRange : ℕ → ℕ → Value → Type 0
InRange o c Absent = Unit {0}
InRange o c (Obj n) = n < o
InRange o c (Chan k) = k < c

-- an object of o
abbrev pub IsObject : ℕ → Value → Type 0
IsObject o Absent = ⊥
IsObject o (Obj n) = n < o
IsObject o (Chan k) = ⊥

-- as many fields as the kind has, each an object
pub record ObjectFits (P : Program) (o c : ℕ) (x : Object) : Type 0 where
  pub kind : x.kind < length P.kinds
  pub creator : x.creator < c
  pub count : length x.fields ≡ (kind_at P x.kind).fields
  pub few : length x.fields ≤ Most.fields
  pub fields : Every (IsObject o) x.fields

-- a line of its block, with the slots filled that the lines before it fill
pub record FrameFits (P : Program) (o c : ℕ) (f : Frame) : Type 0 where
  pub block : f.block < length P.blocks
  pub line : f.line ≤ length (block_at P f.block).lets
  pub count : length f.slots ≡ first_slots (block_at P f.block).sort + f.line
  pub few : length f.slots ≤ Most.slots
  pub slots : Every (InRange o c) f.slots

-- a frame that waits for a call stands at a let
pub record CallerFits (P : Program) (o c : ℕ) (f : Frame) : Type 0 where
  pub frame : FrameFits P o c f
  pub at_let : f.line < length (block_at P f.block).lets

abbrev pub FramesFit : Program → ℕ → ℕ → List Frame → Type 0
FramesFit P o c [] = Unit {0}
FramesFit P o c (f ∷ fs) = FrameFits P o c f × Every (CallerFits P o c) fs

-- the number of the message that a sender waits for is at most n
abbrev pub SenderFits : ℕ → Sender → Type 0
SenderFits n ready = Unit {0}
SenderFits n (waiting i) = i ≤ n

pub record ThreadFits (P : Program) (n o c : ℕ) (t : Thread) : Type 0 where
  pub few : length t.frames ≤ Most.frames
  pub frames : FramesFit P o c t.frames
  pub sender : SenderFits n t.sender

pub record ChannelFits (n o c : ℕ) (x : Channel) : Type 0 where
  pub message : InRange o c x.message
  pub number : x.number ≤ n

-- S is a state of a run of P that has made at most n moves
pub record Fits (m : Mosts) (P : Program) (n : ℕ) (S : State) : Type 0 where
  pub few_objects : length S.objects ≤ m.objects
  pub few_threads : length S.threads ≤ m.threads
  pub channel_each : length S.channels ≡ length S.threads
  pub objects : Every (ObjectFits P (length S.objects) (length S.threads)) S.objects
  pub threads : Every (ThreadFits P n (length S.objects) (length S.threads)) S.threads
  pub channels : Every (ChannelFits n (length S.objects) (length S.threads)) S.channels

-- The state of a run: "its objects, threads, frames with block, line and slots, waiting senders, channels, messages and message numbers".
use Rattle.std.specs.Prelude.{ℕ, List, [], ◌∷◌, get_or}
use Rattle.rules.specs.declared.Cap.{Cap}
use Rattle.rules.specs.declared.Cap.TheVariants.{Unsafe}
use Rattle.rules.specs.declared.Value.{Value}
use Rattle.rules.specs.declared.Value.TheVariants.{Absent}

-- "An object has a capability, a kind, its creator thread and its fields."
pub record Object : Type 0 where
  pub cap : Cap
  pub kind : ℕ
  pub creator : ℕ
  pub fields : List Value

-- the block, the line in it, and the slots filled so far
pub record Frame : Type 0 where
  pub block : ℕ
  pub line : ℕ
  pub slots : List Value

-- a thread is ready, or waits as the sender of the message with this number
pub data Sender : Type 0 where
  ready : Sender
  waiting : (number : ℕ) → Sender

-- the innermost frame first; a finished thread has none
pub record Thread : Type 0 where
  pub frames : List Frame
  pub sender : Sender

-- an empty channel holds Absent
pub record Channel : Type 0 where
  pub message : Value
  pub number : ℕ

-- Channel n stands at place n, beside the thread of its number. Thread 0 has none: nothing names place 0.
pub record State : Type 0 where
  pub objects : List Object
  pub threads : List Thread
  pub channels : List Channel

-- what stands past the end of a list
abbrev pub no_object : Object
no_object = record { cap = Unsafe; kind = 0; creator = 0; fields = [] }

abbrev pub no_thread : Thread
no_thread = record { frames = []; sender = ready }

abbrev pub empty_channel : Channel
empty_channel = record { message = Absent; number = 0 }

unfoldable pub object_at : List Object → ℕ → Object
object_at os n = get_or os n no_object

unfoldable pub thread_at : State → ℕ → Thread
thread_at S t = get_or S.threads t no_thread

unfoldable pub channel_at : State → ℕ → Channel
channel_at S c = get_or S.channels c empty_channel

unfoldable pub slot_at : List Value → ℕ → Value
slot_at vs s = get_or vs s Absent

-- "no object, no channel, no move, and thread 0 alone, before the first line of block 0, its slot 0 absent"
unfoldable pub start : State
start =
    record {
      objects = [];
      threads = record { frames = record { block = 0; line = 0; slots = Absent ∷ [] } ∷ []; sender = ready } ∷ [];
      channels = empty_channel ∷ [];
    }

-- Document 02, L1: "a parcel is the sender's until it is taken". What holds of the messages of a run, and of the reports on their senders.
use Rattle.std.specs.Prelude.{ℕ, suc, ◌≤◌, ◌<◌, ◌≡◌, Bool, true, false, not, List, [], ◌∷◌, length, get_or, take}
use Rattle.rules.specs.declared.Value.TheVariants.{Chan}
use Rattle.rules.specs.declared.Mosts.{Mosts}
use Rattle.rules.specs.Script.{Program, Operand, send, recv, bind, line_at}
use Rattle.rules.specs.State.{Frame, waiting, State, thread_at, channel_at, slot_at}
use Rattle.rules.specs.Turn.{is_absent, filled}
use Rattle.rules.specs.Run.{run}
use Rattle.rules.specs.Reach.{ReachedFrom, slots_of, message_of, roots}

-- the state after k turns of the list
unfoldable pub state_at : Mosts → Program → List ℕ → ℕ → State
state_at m P ts k = (run m P (take k ts)).state

-- whether channel c still holds its message i
unfoldable pub holds : State → (c i : ℕ) → Bool
holds S c i = not (is_absent (message_of (channel_at S c) i))

-- thread t waits, as the sender of message i, at a send on channel c
pub record WaitsOn (P : Program) (S : State) (t c i : ℕ) : Type 0 where
  pub sender : (thread_at S t).sender ≡ waiting i
  pub frame : Frame
  pub callers : List Frame
  pub frames : (thread_at S t).frames ≡ frame ∷ callers
  pub slot : ℕ
  pub operand : Operand
  pub line : line_at P frame.block frame.line ≡ bind (send slot operand)
  pub target : slot_at frame.slots slot ≡ Chan c

-- a thread that waits on what channel c holds
pub record HasSender (P : Program) (S : State) (c : ℕ) : Type 0 where
  pub thread : ℕ
  pub waits : WaitsOn P S thread c (channel_at S c).number

-- the turn of thread t from S to S₁ is a recv on channel c, which gives its message
pub record Received (P : Program) (S S₁ : State) (t c : ℕ) : Type 0 where
  pub frame : Frame
  pub callers : List Frame
  pub frames : (thread_at S t).frames ≡ frame ∷ callers
  pub slot : ℕ
  pub line : line_at P frame.block frame.line ≡ bind (recv slot)
  pub target : slot_at frame.slots slot ≡ Chan c
  pub gives : (thread_at S₁ t).frames ≡ filled frame frame.slots (channel_at S c).message ∷ callers

-- after any number of turns of any list
module _ (m : Mosts) (P : Program) (ts : List ℕ) where
  abbrev after : ℕ → State
  after k = state_at m P ts k

  pub record SendersKeep : Type 0 where
    -- "a parcel is the sender's": on each message in a channel a thread waits as its sender, and no other thread does
    pub has_sender : (k c : ℕ) → is_absent (channel_at (after k) c).message ≡ false → HasSender P (after k) c
    pub one_sender : (k t u c i : ℕ) → WaitsOn P (after k) t c i → WaitsOn P (after k) u c i → t ≡ u
    -- (it is the thread whose turn put the message)
    pub put_by_waits : (k c i : ℕ) → k < length ts → holds (after k) c i ≡ false → holds (after (suc k)) c i ≡ true → WaitsOn P (after (suc k)) (get_or ts k 0) c i
    -- "So the report for a waiting sender also starts from the message that it put": it lists all that the message reaches,
    pub reported : (k t c i : ℕ) → WaitsOn P (after k) t c i → holds (after k) c i ≡ true
        → (x : ℕ) → ReachedFrom (after k).objects ((channel_at (after k) c).message ∷ []) x → ReachedFrom (after k).objects (roots P (after k) t) x
    -- "as long as the channel still holds that message": the same message and the same sender at every turn until then,
    pub until : (k l t c i : ℕ) → k ≤ l → WaitsOn P (after k) t c i → holds (after k) c i ≡ true → holds (after l) c i ≡ true
        → WaitsOn P (after l) t c i × ((channel_at (after l) c).message ≡ (channel_at (after k) c).message)
    -- which is the turn of a thread that receives it;
    pub received : (k c i : ℕ) → k < length ts → holds (after k) c i ≡ true → holds (after (suc k)) c i ≡ false
        → Received P (after k) (after (suc k)) (get_or ts k 0) c
    -- once it is received the channel never holds it again,
    pub never_again : (k l n c i : ℕ) → k ≤ l → l ≤ n → holds (after k) c i ≡ true → holds (after l) c i ≡ false → holds (after n) c i ≡ false
    -- and the report on its sender starts from the sender's slots alone
    pub released : (k t c i : ℕ) → WaitsOn P (after k) t c i → holds (after k) c i ≡ false
        → (x : ℕ) → ReachedFrom (after k).objects (roots P (after k) t) x → ReachedFrom (after k).objects (slots_of (thread_at (after k) t).frames) x

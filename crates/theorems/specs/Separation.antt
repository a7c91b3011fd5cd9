-- Why a script without unsafe has no race (document 02, L9): what a thread holds in its slots, or a channel as its message, leads to no object that
-- another one leads to, imm objects aside.
use Rattle.std.specs.Prelude.{ℕ, ◌≡◌, false, List, [], ◌∷◌}
use Rattle.rules.specs.declared.Value.{Value}
use Rattle.rules.specs.State.{State, object_at, thread_at, channel_at}
use Rattle.rules.specs.Turn.{is_imm}
use Rattle.rules.specs.Reach.{ReachedFrom, slots_of}

-- where what is reached starts
pub data Root : Type 0 where
  aThread aChannel : ℕ → Root

-- the values that a root holds: a thread's slots in all frames, self slots too; a channel's message
unfoldable pub held_in : State → Root → List Value
held_in S (aThread t) = slots_of (thread_at S t).frames
held_in S (aChannel c) = (channel_at S c).message ∷ []

abbrev pub ReachedBy : State → Root → ℕ → Type 0
ReachedBy S r x = ReachedFrom S.objects (held_in S r) x

-- two roots never both reach an object that is not imm
pub record Separate (S : State) : Type 0 where
  pub apart : (r q : Root) (x : ℕ) → is_imm (object_at S.objects x).cap ≡ false → ReachedBy S r x → ReachedBy S q x → r ≡ q

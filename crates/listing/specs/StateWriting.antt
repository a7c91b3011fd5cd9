-- What it is to write a text of the state that a table holds.
use Rattle.std.specs.Prelude.{ℕ, suc, ◌+◌, ◌≤◌, ◌≡◌, List, [], ◌∷◌, map, length}
use Rattle.rules.specs.declared.Value.{Value}
use Rattle.rules.specs.declared.Value.TheVariants.{Absent, Obj, Chan}
use Rattle.rules.specs.Mosts.{mosts}
use Rattle.rules.specs.Text.{space}
use Rattle.rules.specs.Templates.{decimal, cap_word, print_many}
use Rattle.rules.specs.Script.{Program}
use Rattle.rules.specs.State.{Object, Frame, State, thread_at}
use Rattle.rules.specs.Fits.{Fits}
use Rattle.rules.specs.Listing.{value_text}
use Rattle.buffer.specs.declared.Output.{Output}
use Rattle.buffer.specs.Outputs.{Wrote}
use Rattle.table.specs.StateTable.{Held}

-- the text of any state of a run of which Q holds is written; the bound holds whatever the table is, and it is the same buffer, as long as it was
pub record Writes (k : ℕ) (s : List ℕ) (o o₁ : Output) (Q : State → Type 0) (text : State → List ℕ) : Type 0 where
  pub writes : (P : Program) (n : ℕ) (S : State) (rest : List ℕ) → Held s S rest → Fits mosts P n S → Q S → Wrote k o o₁ (text S)
  pub most : o₁.at ≤ o.at + k
  pub length_same : length o₁.buf.now ≡ length o.buf.now
  pub buffer_same : o₁.buf.ghost_name ≡ o.buf.ghost_name

-- ---- Parts of a line, each after a space

-- a field that is not there is not printed
unfoldable pub field_part : Value → List ℕ
field_part Absent = []
field_part (Obj n) = space ∷ value_text (Obj n)
field_part (Chan c) = space ∷ value_text (Chan c)

unfoldable pub value_parts : List Value → List ℕ
value_parts vs = print_many (λ p. p) (map value_text vs)

unfoldable pub object_parts : Object → List ℕ
object_parts o = print_many (λ p. p) (cap_word o.cap ∷ decimal o.kind ∷ decimal o.creator ∷ map value_text o.fields)

unfoldable pub frame_parts : Frame → List ℕ
frame_parts f = print_many (λ p. p) (decimal f.block ∷ decimal f.line ∷ map value_text f.slots)

-- frame k is the innermost of thread t
abbrev pub Inner : ℕ → ℕ → State → Type 0
Inner t k S = length (thread_at S t).frames ≡ suc k

-- What the parts of a sheet do with a program table.
use Rattle.std.specs.Prelude.{ℕ, ◌+◌, ◌≤◌, ◌≡◌, List, length}
use Rattle.rules.specs.Mosts.{mosts}
use Rattle.rules.specs.Script.{Program}
use Rattle.rules.specs.Valid.{Valid}
use Rattle.rules.specs.Reading.{lines_before}
use Rattle.rules.specs.Tables.{program_words}
use Rattle.buffer.specs.declared.Output.{Output}
use Rattle.buffer.specs.Outputs.{Wrote}

-- the text of the program whose words the table has; the other facts hold whatever the table is
pub record WritesProgram (k : ℕ) (p : List ℕ) (o o₁ : Output) (text : Program → List ℕ) : Type 0 where
  pub writes : (P : Program) → Valid mosts P → p ≡ program_words P → Wrote k o o₁ (text P)
  pub most : o₁.at ≤ o.at + k
  pub length_same : length o₁.buf.now ≡ length o.buf.now
  pub buffer_same : o₁.buf.ghost_name ≡ o.buf.ghost_name

pub record FirstNumber (p : List ℕ) (r : ℕ) : Type 0 where
  pub is : (P : Program) → Valid mosts P → p ≡ program_words P → r ≡ lines_before P.edition
  pub few : r ≤ 1

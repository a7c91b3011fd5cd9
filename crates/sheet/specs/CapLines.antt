-- What is told of the lines that a program table holds.
use Rattle.std.specs.Prelude.{ℕ, suc, ◌+◌, ◌≤◌, ◌<◌, ◌≡◌, cond, Option, Some, None, List, [], eqb, length, get_or}
use Rattle.rules.specs.declared.Cap.{Cap}
use Rattle.rules.specs.Templates.{decimal, print_many}
use Rattle.rules.specs.Script.{Form, rank}
use Rattle.buffer.specs.declared.Output.{Output}
use Rattle.buffer.specs.Outputs.{Wrote}
use Rattle.buffer.specs.Writing.{number_part}
use Rattle.table.specs.ProgramTable.{Filled, no_form}
use Rattle.sheet.specs.Ticks.{cap_named, making, naming}

-- a capability as 1 and its rank; 0 for none
abbrev pub cap_number : Option Cap → ℕ
cap_number (Some c) = suc (rank c)
cap_number None = 0

-- of line n
pub record TellsLine (t : List ℕ) (n : ℕ) (f : Form → ℕ) (r : ℕ) : Type 0 where
  pub is : (counts rest : List ℕ) (Fs : List Form) → Filled t counts Fs rest → n < length Fs → r ≡ f (get_or Fs n no_form)

-- how many lines make records of a capability
pub record CountsMaking (t : List ℕ) (k r : ℕ) : Type 0 where
  pub is : (counts rest : List ℕ) (Fs : List Form) → Filled t counts Fs rest → get_or counts 2 0 ≡ length Fs → r ≡ making k Fs
  pub few : r ≤ 672

-- the number of line n after a space, where it names unsafe; the first line has the number first
pub record WritesName (t : List ℕ) (first n : ℕ) (o o₁ : Output) : Type 0 where
  pub writes : (counts rest : List ℕ) (Fs : List Form) → Filled t counts Fs rest → n < length Fs
      → Wrote 6 o o₁ (cond (eqb (cap_named (get_or Fs n no_form)) 4) (number_part (first + n)) [])
  pub most : o₁.at ≤ o.at + 6
  pub length_same : length o₁.buf.now ≡ length o.buf.now
  pub buffer_same : o₁.buf.ghost_name ≡ o.buf.ghost_name

-- the numbers of all that do
pub record WritesNaming (t : List ℕ) (first : ℕ) (o o₁ : Output) : Type 0 where
  pub writes : (counts rest : List ℕ) (Fs : List Form) → Filled t counts Fs rest → get_or counts 2 0 ≡ length Fs → Wrote 4032 o o₁ (print_many decimal (naming 4 first Fs))
  pub most : o₁.at ≤ o.at + 4032
  pub length_same : length o₁.buf.now ≡ length o.buf.now
  pub buffer_same : o₁.buf.ghost_name ≡ o.buf.ghost_name

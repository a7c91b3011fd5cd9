-- What the sheets come to.
use Rattle.std.specs.Prelude.{ℕ, ◌+◌, ◌≤◌, ◌≡◌, Bool, Ok, List, length}
use Rattle.rules.specs.Script.{Program}
use Rattle.rules.specs.Reading.{accepted}
use Rattle.buffer.specs.declared.Output.{Output}
use Rattle.buffer.specs.Outputs.{Wrote}
use Rattle.run.specs.declared.Outcome.{Outcome}
use Rattle.run.specs.Made.{Holds}
use Rattle.stripping.specs.StrippedRuns.{guards_change_nothing}
use Rattle.sheet.specs.SheetText.{filed_sheet}
use Rattle.sheet.specs.Examined.{ReadsAs}

-- of a run that was made of an accepted script; the other facts hold whatever the tables are
pub record WritesRan (text turns p s : List ℕ) (guarded : Outcome) (o o₁ : Output) (holds : Bool) : Type 0 where
  pub writes : (P : Program) → ReadsAs text turns P → Holds P turns (Ok guarded) p s → Wrote 6256 o o₁ (filed_sheet (accepted P) text turns)
  pub verdict : (P : Program) → ReadsAs text turns P → Holds P turns (Ok guarded) p s → holds ≡ guards_change_nothing P turns
  pub most : o₁.at ≤ o.at + 6256
  pub length_same : length o₁.buf.now ≡ length o.buf.now
  pub buffer_same : o₁.buf.ghost_name ≡ o.buf.ghost_name

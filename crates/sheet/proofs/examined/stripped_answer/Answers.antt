-- A stripped run that was made answers as the rules do.
use mathlib.Core.Path.{refl}
use Rattle.table.specs.ProgramTable.{fresh_table}
use Rattle.sheet.proofs.ExaminedLaws.{stripped_answers}
use Rattle.sheet.proofs.examined.stripped_answer.Goals as goal

pub returns : goal.returns
unfolding fresh_table
returns c = stripped_answers c.make_stripped.ensures refl refl

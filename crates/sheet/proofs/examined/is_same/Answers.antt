-- The stripped run's table and the guarded one's with every object unsafe, compared word for word.
use mathlib.Core.Path.{refl}
use Rattle.table.specs.ProgramTable.{fresh_table}
use Rattle.sheet.proofs.ExaminedLaws.{runs_compared}
use Rattle.sheet.proofs.examined.is_same.Goals as goal

pub returns : goal.returns
unfolding fresh_table
returns c =
    runs_compared c.make_stripped.ensures refl refl c.erase_state.ensures c.same_table.ensures

-- `host::box_run` meets its contract: the run is made and stored, and its answer told by its numbers.
use Rattle.std.proofs.Common.{refl}
use Rattle.table.specs.ProgramTable.{fresh_table}
use Rattle.host.proofs.Crossing.{has_run}
use Rattle.host.proofs.box_run.Goals as goal

pub make-answer-requires : goal.make-answer-requires
unfolding fresh_table
make-answer-requires c = (refl, refl)

pub returns : goal.returns
returns c =
    let a = c.args in
    has_run a.text.now a.turns.now a.program.now a.state.now c.make-answer.ensures c.tell.ensures

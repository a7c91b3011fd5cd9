-- `host::draw` meets its contract: the run is made and stored; its own state table is drawn into the buffer, which is long enough.
use Rattle.std.proofs.Common.{refl}
use Rattle.std.proofs.lemmas.Result.{err_from_is_err_and}
use Rattle.table.specs.ProgramTable.{fresh_table}
use Rattle.host.proofs.DrawsCross.{drawing_away, drawing_done}
use Rattle.host.proofs.draw.Goals as goal

pub make-requires : goal.make-requires
unfolding fresh_table
make-requires c = (refl, refl)

pub returns-in_err-make : goal.returns-in_err-make
returns-in_err-make c =
    let a = c.args in
    let away = err_from_is_err_and c.from_residual.result c.from_residual.ensures.1 in
    rw (away.1, away.2) (drawing_away a.text.now a.turns.now a.program.now a.state.now a.graph.now c.make.ensures c.in_err-make.was)

pub returns : goal.returns
returns c =
    let a = c.args in
    drawing_done a.text.now a.turns.now a.program.now a.state.now a.graph.now c.make.ensures c.in_ok-make.was c.draw_on.ensures

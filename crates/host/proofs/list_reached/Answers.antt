-- `host::list_reached` meets its contract: the run is made and stored; the report on it is 17, or its list is stored.
use Rattle.std.proofs.Common.{arith, refl}
use Rattle.std.proofs.lemmas.Result.{err_from_is_err_and}
use Rattle.table.specs.ProgramTable.{fresh_table}
use Rattle.host.proofs.Crossing.{reach_refused, list_room, reach_no_thread, reach_done}
use Rattle.host.proofs.list_reached.Goals as goal

pub make-requires : goal.make-requires
unfolding fresh_table
make-requires c = (refl, refl)

pub returns-in_err-make : goal.returns-in_err-make
returns-in_err-make c =
    let a = c.args in
    let away = err_from_is_err_and c.from_residual.result c.from_residual.ensures.1 in
    rw (away.1, away.2) (reach_refused a.text.now a.turns.now a.program.now a.state.now a.list.now a.thread c.make.ensures c.in_err-make.was)

pub returns-in_err-reached : goal.returns-in_err-reached
returns-in_err-reached c =
    let a = c.args in
    let away = err_from_is_err_and c.from_residual-in_err-reached.result c.from_residual-in_err-reached.ensures.1 in
    rw (away.1, away.2)
    (reach_no_thread a.text.now a.turns.now a.program.now a.state.now a.list.now a.thread c.make.ensures c.in_ok-make.was c.report_on.ensures c.in_err-reached.was)

pub store-requires : goal.store-requires
store-requires c =
    let a = c.args in
    omega (arith, list_room a.text.now a.turns.now a.program.now a.state.now a.list.now a.thread c.make.ensures c.in_ok-make.was)

pub returns : goal.returns
returns c =
    let a = c.args in
    reach_done a.text.now a.turns.now a.program.now a.state.now a.list.now a.thread c.make.ensures c.in_ok-make.was c.report_on.ensures c.in_ok-reached.was c.store.ensures

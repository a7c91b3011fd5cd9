-- `host::count_places` meets its contract: the run is made and stored; its own state table is asked, and that is 21 or the count.
use Rattle.std.proofs.Common.{refl}
use Rattle.std.proofs.lemmas.Result.{err_from_is_err_and}
use Rattle.table.specs.ProgramTable.{fresh_table}
use Rattle.host.proofs.CountsCross.{holders_away, holders_told}
use Rattle.host.proofs.count_places.Goals as goal

pub make-requires : goal.make-requires
unfolding fresh_table
make-requires c = (refl, refl)

pub returns-in_err-make : goal.returns-in_err-make
returns-in_err-make c =
    let a = c.args in
    let away = err_from_is_err_and c.from_residual.result c.from_residual.ensures.1 in
    rw (away.1, away.2) (holders_away a.text.now a.turns.now a.program.now a.state.now a.object c.make.ensures c.in_err-make.was)

pub returns-in_err-places : goal.returns-in_err-places
returns-in_err-places c =
    let a = c.args in
    let away = err_from_is_err_and c.from_residual-in_err-places.result c.from_residual-in_err-places.ensures.1 in
    rw (away.1, away.2) (holders_told a.text.now a.turns.now a.program.now a.state.now a.object c.make.ensures c.in_ok-make.was c.count_on.ensures c.in_err-places.was)

pub returns : goal.returns
returns c =
    let a = c.args in
    holders_told a.text.now a.turns.now a.program.now a.state.now a.object c.make.ensures c.in_ok-make.was c.count_on.ensures c.in_ok-places.was

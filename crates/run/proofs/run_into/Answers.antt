-- What was made in fresh tables is copied to the lent ones, and a refusal copies nothing.
use Rattle.std.proofs.lemmas.Result.{err_from_is_err_and}
use Rattle.run.proofs.Answering.{ran_away, room, ran_on}
use Rattle.run.proofs.run_into.Goals as goal

pub returns-in_err-outcome : goal.returns-in_err-outcome
returns-in_err-outcome c =
    let a = c.args in
    let away = err_from_is_err_and c.from_residual.result c.from_residual.ensures.1 in
    rw (away.1, away.2) (ran_away a.text.now a.turns.now a.program.now a.state.now a.short c.make.ensures c.in_err-outcome.was)

pub copy_table-requires : goal.copy_table-requires
copy_table-requires c =
    let a = c.args in
    let r = room a.text.now a.turns.now a.program.now a.state.now a.short c.make.ensures c.in_ok-outcome.was in
    (r.0, r.2)

pub copy_table-requires-2 : goal.copy_table-requires-2
copy_table-requires-2 c =
    let a = c.args in
    let r = room a.text.now a.turns.now a.program.now a.state.now a.short c.make.ensures c.in_ok-outcome.was in
    (r.1, r.3)

pub returns : goal.returns
returns c =
    let a = c.args in
    ran_on a.text.now a.turns.now a.program.now a.state.now a.short c.make.ensures c.in_ok-outcome.was c.copy_table.ensures c.copy_table-2.ensures

-- `reach::reach` meets its contract: what turns the run away comes first; a run that was made is reported on.
use Rattle.std.proofs.lemmas.Result.{err_from_is_err_and}
use Rattle.reach.proofs.Reporting.{reach_away, reach_told}
use Rattle.reach.proofs.reach.Goals as goal

pub returns-in_err-run_into : goal.returns-in_err-run_into
returns-in_err-run_into c =
    let a = c.args in
    let away = err_from_is_err_and c.from_residual.result c.from_residual.ensures.1 in
    rw (away.1, away.2) (reach_away a.text.now a.turns.now a.program.now a.state.now a.list.now a.t c.run_into.ensures c.in_err-run_into.was)

pub returns : goal.returns
returns c =
    let a = c.args in
    reach_told a.text.now a.turns.now a.program.now a.state.now a.list.now a.t c.run_into.ensures c.in_ok-run_into.was c.report_on.ensures

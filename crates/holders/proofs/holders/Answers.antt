-- `holders::holders` meets its contract: what turns the run away comes first; of a run that was made the state table is asked.
use Rattle.std.proofs.lemmas.Result.{err_from_is_err_and}
use Rattle.holders.proofs.Asked.{count_away, count_told}
use Rattle.holders.proofs.holders.Goals as goal

pub returns-in_err-run : goal.returns-in_err-run
returns-in_err-run c =
    let a = c.args in
    let away = err_from_is_err_and c.from_residual.result c.from_residual.ensures.1 in
    rw (away.1, away.2) (count_away a.text.now a.turns.now a.program.now a.state.now a.object c.run.ensures c.in_err-run.was)

pub returns : goal.returns
returns c =
    let a = c.args in
    count_told a.text.now a.turns.now a.program.now a.state.now a.object c.run.ensures c.in_ok-run.was c.count_on.ensures

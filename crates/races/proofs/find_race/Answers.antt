-- `races::find_race` meets its contract: what turns the run away comes first; a run that was made is judged by its program.
use Rattle.std.proofs.lemmas.Result.{err_from_is_err_and}
use Rattle.std.proofs.Common.{arith, refl, ap}
use Rattle.rules.specs.Numbers.{number}
use Rattle.races.proofs.RacesFound.{overlong_found, away_found, made_found}
use Rattle.races.proofs.find_race.Goals as goal

pub returns-then-turns-gt1024 : goal.returns-then-turns-gt1024
returns-then-turns-gt1024 c =
    let a = c.args in
    overlong_found a.text.now a.turns.now a.program.now a.state.now c.if-turns-gt1024.true
    (record { refusal = c.at.result; is = refl; number_is = ap number c.at.ensures.fault; line_is = c.at.ensures.line })

pub returns-in_err-run_into : goal.returns-in_err-run_into
returns-in_err-run_into c =
    let a = c.args in
    let away = err_from_is_err_and c.from_residual.result c.from_residual.ensures.1 in
    rw (away.1, away.2) (away_found a.text.now a.turns.now a.program.now a.state.now (omega (arith, c.if-turns-gt1024.false)) c.run_into.ensures c.in_err-run_into.was)

pub returns : goal.returns
returns c =
    let a = c.args in
    made_found a.text.now a.turns.now a.program.now a.state.now (omega (arith, c.if-turns-gt1024.false)) c.run_into.ensures c.in_ok-run_into.was c.judge.ensures

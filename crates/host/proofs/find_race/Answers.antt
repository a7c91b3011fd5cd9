-- `host::find_race` meets its contract: more turns are refused before all else; a run that was made and stored is judged by its own program table.
use Rattle.std.proofs.Common.{arith, refl, ap}
use Rattle.std.proofs.lemmas.Result.{err_from_is_err_and}
use Rattle.rules.specs.Numbers.{number}
use Rattle.table.specs.ProgramTable.{fresh_table}
use Rattle.host.proofs.RacesCross.{race_overlong, race_away, race_judged}
use Rattle.host.proofs.find_race.Goals as goal

pub returns-then-turns-gt-RACE_TURNS : goal.returns-then-turns-gt-RACE_TURNS
returns-then-turns-gt-RACE_TURNS c =
    let a = c.args in
    race_overlong a.text.now a.turns.now a.program.now a.state.now c.if-turns-gt-RACE_TURNS.true
    (record { refusal = c.at.result; is = refl; number_is = ap number c.at.ensures.fault; line_is = c.at.ensures.line })

pub make-requires : goal.make-requires
unfolding fresh_table
make-requires c = (refl, refl)

pub returns-in_err-make : goal.returns-in_err-make
returns-in_err-make c =
    let a = c.args in
    let away = err_from_is_err_and c.from_residual.result c.from_residual.ensures.1 in
    rw (away.1, away.2) (race_away a.text.now a.turns.now a.program.now a.state.now (omega (arith, c.if-turns-gt-RACE_TURNS.false)) c.make.ensures c.in_err-make.was)

pub returns : goal.returns
returns c =
    let a = c.args in
    race_judged a.text.now a.turns.now a.program.now a.state.now (omega (arith, c.if-turns-gt-RACE_TURNS.false)) c.make.ensures c.in_ok-make.was c.judge.ensures

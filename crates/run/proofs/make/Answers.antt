-- 1 for the turns comes first, then the reader's refusals; a script that was read is run from a fresh start.
use Rattle.std.proofs.lemmas.Result.{err_from_is_err_and}
use Rattle.run.proofs.Answering.{makes_long, makes_unfit, makes_away, makes_run}
use Rattle.run.proofs.make.Goals as goal

pub returns-then-turns-gt32768 : goal.returns-then-turns-gt32768
returns-then-turns-gt32768 c = makes_long c.args.text.now c.args.turns.now c.args.short c.if-turns-gt32768.true c.at.ensures.fault c.at.ensures.line

pub returns-then-p-lt8192 : goal.returns-then-p-lt8192
returns-then-p-lt8192 c = makes_unfit c.args.text.now c.args.turns.now c.args.short c.then-p-lt8192.either

pub returns-in_err-make : goal.returns-in_err-make
returns-in_err-make c =
    let away = err_from_is_err_and c.from_residual.result c.from_residual.ensures.1 in
    rw (away.1, away.2) (makes_away c.args.text.now c.args.turns.now c.args.short c.if-turns-gt32768.false c.make.ensures c.in_err-make.was)

pub returns : goal.returns
returns c = makes_run c.args.text.now c.args.turns.now c.args.short c.if-turns-gt32768.false c.make.ensures c.in_ok-make.was c.run_program.ensures

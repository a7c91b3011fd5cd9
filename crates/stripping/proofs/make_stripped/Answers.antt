-- The refusals come as those of a run; what is read is stripped, and run from a fresh start.
use Rattle.std.proofs.lemmas.Result.{err_from_is_err_and}
use Rattle.run.proofs.Answering.{makes_unfit, makes_away}
use Rattle.stripping.proofs.StrippedMade.{refused_long, refused_too, run_stripped}
use mathlib.Core.Bool.{false}
use Rattle.stripping.proofs.make_stripped.Goals as goal

pub returns-then-turns-gt32768 : goal.returns-then-turns-gt32768
returns-then-turns-gt32768 c = refused_long c.args.text.now c.args.turns.now c.at.ensures.fault c.at.ensures.line c.if-turns-gt32768.true

pub returns-then-p-lt8192 : goal.returns-then-p-lt8192
returns-then-p-lt8192 c = refused_too c.args.text.now c.args.turns.now (makes_unfit c.args.text.now c.args.turns.now false c.then-p-lt8192.either)

pub returns-in_err-make : goal.returns-in_err-make
returns-in_err-make c =
    let away = err_from_is_err_and c.from_residual.result c.from_residual.ensures.1 in
    rw (away.1, away.2)
    (refused_too c.args.text.now c.args.turns.now (makes_away c.args.text.now c.args.turns.now false c.if-turns-gt32768.false c.make.ensures c.in_err-make.was))

pub returns : goal.returns
returns c =
    run_stripped c.args.text.now c.args.turns.now c.if-turns-gt32768.false c.make.ensures c.in_ok-make.was c.strip_program.ensures c.run_program.ensures

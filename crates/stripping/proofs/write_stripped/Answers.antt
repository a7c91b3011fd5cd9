-- 1 for the turns comes first, then the reader's refusals; what is read is stripped, and written.
use mathlib.Core.Path.{refl}
use Rattle.std.proofs.lemmas.Result.{err_from_is_err_and}
use Rattle.table.specs.ProgramTable.{fresh_table}
use Rattle.stripping.proofs.StrippedOutcomes.{says_long, says_away, says_script}
use Rattle.stripping.proofs.write_stripped.Goals as goal

pub returns-then-turns-gt32768 : goal.returns-then-turns-gt32768
returns-then-turns-gt32768 c = says_long c.args.text.now c.args.turns.now c.args.last.now c.if-turns-gt32768.true c.at.ensures.fault c.at.ensures.line refl

pub returns-in_err-make : goal.returns-in_err-make
unfolding fresh_table
returns-in_err-make c =
    let away = err_from_is_err_and c.from_residual.result c.from_residual.ensures.1 in
    rw (away.1, away.2) (says_away c.args.text.now c.args.turns.now c.args.last.now c.if-turns-gt32768.false refl c.make.ensures c.in_err-make.was refl)

pub returns : goal.returns
unfolding fresh_table
returns c =
    says_script c.args.text.now c.args.turns.now c.args.last.now c.if-turns-gt32768.false refl c.make.ensures c.in_ok-make.was c.strip_program.ensures c.write_table.ensures

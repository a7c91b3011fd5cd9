-- A script that was read comes back from its table, with what follows it; else its refusal is answered.
use native.Mathlib.Omega.{arith}
use mathlib.Core.Path.{refl}
use Rattle.std.proofs.Common.{rules}
use Rattle.std.proofs.lemmas.Result.{err_from_is_err_and}
use Rattle.save.proofs.Saves.{refusal_line, script_written, count_written, rest_written, never_refused}
use Rattle.save.proofs.save_script.Goals as goal

pub returns-in_err-read : goal.returns-in_err-read
returns-in_err-read c =
    let away = err_from_is_err_and c.from_residual.result c.from_residual.ensures.1 in
    rw (away.1, away.2) (refusal_line c.args.text.now _ (search rules) c.args.last.now c.read.ensures.value c.in_err-read.was, refl)

pub returns-in-Err : goal.returns-in-Err
returns-in-Err c =
    let written = script_written c.args.text.now _ (search rules) c.args.last.now c.read.ensures.value c.in_ok-read.was c.read.ensures.table_after c.requires.1 c.write.ensures in
    absurd (never_refused c.args.text.now c.args.last.now c.args.output.now written c.in-Err.is)

pub put_text-requires : goal.put_text-requires
put_text-requires c =
    let written = script_written c.args.text.now _ (search rules) c.args.last.now c.read.ensures.value c.in_ok-read.was c.read.ensures.table_after c.requires.1 c.write.ensures in
    omega (arith, count_written c.args.text.now c.args.last.now c.args.output.now written c.in-Ok.is, c.requires.0, c.requires.1, c.write.auto.buffer)

pub returns : goal.returns
returns c =
    let written = script_written c.args.text.now _ (search rules) c.args.last.now c.read.ensures.value c.in_ok-read.was c.read.ensures.table_after c.requires.1 c.write.ensures in
    rest_written c.args.text.now c.args.last.now c.args.output.now written c.in-Ok.is c.put_text.ensures.writes (search (rules, c.put_text.ensures.buffer_same))

-- What the two tests and the last line's reading come to decides what the input comes to.
use mathlib.Core.Path.{◌∙◌}
use Rattle.replay.proofs.GivenLaws.{splits_overlong, splits_short, splits_fault, splits_turns}
use Rattle.replay.proofs.split.Goals as goal

pub returns-then-input-gt65536 : goal.returns-then-input-gt65536
returns-then-input-gt65536 c =
    let away = c.whole.ensures in
    splits_overlong c.args.input.now c.args.turns.now away.fault away.line away.script c.if-input-gt65536.true

pub returns-then-turns-lt32768 : goal.returns-then-turns-lt32768
returns-then-turns-lt32768 c =
    let away = c.whole-then-turns-lt32768.ensures in
    splits_short c.args.input.now c.args.turns.now c.if-input-gt65536.false away.fault away.line away.script c.if-turns-lt32768.true

pub returns-in-Ok : goal.returns-in-Ok
returns-in-Ok c =
    let start = c.last_start-script.ensures in
    splits_turns c.args.input.now c.args.turns.now c.if-input-gt65536.false c.if-turns-lt32768.false c.turns_line.auto.turns start.0 start.1 start.2
    c.in-Ok.ensures.s_value c.in-Ok.ensures.result_bound

pub returns-in-Err : goal.returns-in-Err
returns-in-Err c =
    let start = c.last_start-script.ensures in
    splits_fault c.args.input.now c.args.turns.now c.if-input-gt65536.false c.if-turns-lt32768.false c.turns_line.auto.turns start.0 start.1 start.2
    c.in-Err.ensures.s_value c.at.ensures.fault (c.at.ensures.line ∙ c.lines_before.ensures)

-- A thread without frames idles; any other turn does what the rule says, and its answer tells which.
use native.Mathlib.Omega.{arith}
use mathlib.Core.Path.{ap, ◌∙◌}
use Rattle.std.specs.Prelude.{Err}
use Rattle.tally.proofs.FateLaws.{past_one, idle_one, moves_one, waits_one, halts_one}
use Rattle.tally.proofs.take_turn.Goals as goal

pub returns-then-t-ge16 : goal.returns-then-t-ge16
returns-then-t-ge16 c = past_one (omega (arith, c.if-t-ge16.true))

pub returns-then-frame_count-eq0 : goal.returns-then-frame_count-eq0
returns-then-frame_count-eq0 c = idle_one c.frame_count.ensures.sees c.if-frame_count-eq0.true

pub returns-in-Ok : goal.returns-in-Ok
returns-in-Ok c = moves_one c.frame_count.ensures.sees c.if-frame_count-eq0.false c.turn.ensures c.in-Ok.is

pub returns-in-Err-Waits : goal.returns-in-Err-Waits
returns-in-Err-Waits c = waits_one c.frame_count.ensures.sees c.if-frame_count-eq0.false c.turn.ensures (c.in-Err-Waits.is ∙ ap Err c.in-Err-Waits.field-0-is)

pub returns-in-Err-Stops : goal.returns-in-Err-Stops
returns-in-Err-Stops c = halts_one c.frame_count.ensures.sees c.if-frame_count-eq0.false c.turn.ensures (c.in-Err-Stops.is ∙ ap Err c.in-Err-Stops.field-0-is)

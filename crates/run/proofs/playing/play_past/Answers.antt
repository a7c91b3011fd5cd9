-- The line that is called is the thread's turn; the stretch that follows goes on from the state that it leaves.
use mathlib.Core.Path.{ap, ◌∙◌}
use Rattle.std.specs.Prelude.{Err}
use Rattle.run.proofs.TurnByTurn.{moves_past, waits_past, stops_past}
use Rattle.run.proofs.playing.play_past.Goals as goal

pub returns-in-Ok : goal.returns-in-Ok
returns-in-Ok c = moves_past c.requires.3 c.requires.2 c.perform_copy.ensures c.in-Ok.is c.play_from.ensures

pub returns-in-Err-Waits : goal.returns-in-Err-Waits
returns-in-Err-Waits c =
    waits_past c.requires.3 c.requires.2 c.perform_copy.ensures (c.in-Err-Waits.is ∙ ap Err c.in-Err-Waits.field-0-is) c.play_from-in-Err-Waits.ensures

pub returns-in-Err-Stops : goal.returns-in-Err-Stops
returns-in-Err-Stops c =
    stops_past c.requires.3 c.requires.2 c.perform_copy.ensures (c.in-Err-Stops.is ∙ ap Err c.in-Err-Stops.field-0-is) c.stop_at.ensures

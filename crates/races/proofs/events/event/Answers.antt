-- `races::events::event` meets its contract: a thread without a frame is quiet; any other does what its line does where it stands.
use Rattle.turn.proofs.Located.{locates}
use Rattle.races.proofs.EventLines.{past_quiet, frameless_quiet, found_tells}
use Rattle.races.proofs.events.event.Goals as goal

pub returns-then-t-ge16 : goal.returns-then-t-ge16
returns-then-t-ge16 c = record { object_below = tt; turn_tells = past_quiet c.if-t-ge16.true }

pub returns-then-d-eq0 : goal.returns-then-d-eq0
returns-then-d-eq0 c = record { object_below = tt; turn_tells = frameless_quiet c.frame_count-d.ensures.sees c.if-d-eq0.true }

pub returns : goal.returns
returns c =
    let place = locates c.frame_count-d.ensures.sees c.if-d-eq0.false c.locate-h.ensures.thread c.locate-h.ensures.stands in
    record { object_below = c.line_event.ensures.object_below; turn_tells = found_tells c.locate-h.ensures.thread place c.line_event.ensures.line_tells }

-- `races::judging::play` meets its contract: what the turn does is told before it is taken, and noted if it moves.
use Rattle.std.proofs.Common.{refl}
use Rattle.races.proofs.TurnsJudged.{halted_plays, waiting_plays, moving_plays}
use Rattle.races.proofs.judging.play.Goals as goal

pub returns-in-Halted : goal.returns-in-Halted
returns-in-Halted c = halted_plays _ _ c.take_turn.ensures c.in-Halted.is

pub returns-in-Moved : goal.returns-in-Moved
returns-in-Moved c = moving_plays _ _ c.take_turn.ensures c.event-e.ensures.turn_tells c.meet-count.ensures.meets c.in-Moved.is c.note.ensures.roomy c.note.ensures.notes

pub returns-in-Waited : goal.returns-in-Waited
returns-in-Waited c = waiting_plays _ _ c.take_turn.ensures c.in-Waited.is refl

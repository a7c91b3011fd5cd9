-- `turn::form_moves::leave` meets its contract: an odd word takes, and its slot is cleared; an even one reads, and the value is held once more.
use Rattle.turn.proofs.SlotLines.{leaves_taken, leaves_read}
use Rattle.turn.proofs.form_moves.leave.Goals as goal

pub returns-then-w-eq1 : goal.returns-then-w-eq1
returns-then-w-eq1 c =
    leaves_taken _ _ _ c.if-w-eq1.true c.slot_of.ensures.0 c.clear_slot.ensures.becomes

pub returns : goal.returns
returns c =
    leaves_read _ _ _ c.if-w-eq1.false c.hold.ensures.counts

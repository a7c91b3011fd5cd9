-- `turn::form_moves::leave_item` meets its contract: 0 is no item and nothing is written; any other is one more than the word of the operand that is left.
use Rattle.turn.proofs.NewLines.{no_item_left, item_left}
use Rattle.turn.proofs.form_moves.leave_item.Goals as goal

pub returns-then-e-ne0 : goal.returns-then-e-ne0
returns-then-e-ne0 c = item_left _ _ _ c.if-e-ne0.true c.leave.ensures

pub returns-else-e-ne0 : goal.returns-else-e-ne0
returns-else-e-ne0 c = no_item_left _ _ c.if-e-ne0.false

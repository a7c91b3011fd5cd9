-- `checks::items::takes_slot` meets its contract: the word of an item is one less, and twice its slot and one more where it takes.
use Rattle.checks.proofs.ItemChecks.{takes_its_slot}
use Rattle.checks.proofs.items.takes_slot.Goals as goal

pub returns : goal.returns
returns c = takes_its_slot _ _ c.if-e-eq0.false

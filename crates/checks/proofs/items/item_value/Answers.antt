-- `checks::items::item_value` meets its contract: the slot of an item is half of its word, and a filled slot is one of 16.
use mathlib.Core.Path.{refl}
use Rattle.checks.proofs.NewChecks.{no_item_seen, item_seen}
use Rattle.checks.proofs.items.item_value.Goals as goal

pub returns-then-e-eq0 : goal.returns-then-e-eq0
returns-then-e-eq0 c = record { in_table = tt; sees = no_item_seen _ c.args.h c.if-e-eq0.true }

pub returns : goal.returns
returns c = record { in_table = c.operand.ensures.in_table; sees = item_seen c.args.h _ c.if-e-eq0.false refl c.operand.ensures.sees }

-- `checks::form_checks::seen` meets its contract: a taken slot is absent, any other is as it stands in the table.
use mathlib.Core.Path.{refl}
use Rattle.checks.proofs.OperandChecks.{taken_seen, left_seen}
use Rattle.checks.proofs.form_checks.seen.Goals as goal

pub returns-then-w-i : goal.returns-then-w-i
returns-then-w-i c = record { in_table = tt; sees = taken_seen _ c.args.h _ _ c.if-w-i.true }

pub returns : goal.returns
returns c = record { in_table = c.slot.ensures.value.1; sees = left_seen _ c.args.h _ _ _ _ refl c.slot.ensures.sees c.if-w-i.false }

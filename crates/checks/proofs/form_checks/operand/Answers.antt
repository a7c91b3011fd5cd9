-- `checks::form_checks::operand` meets its contract: an operand's slot is half of its word.
use Rattle.checks.proofs.OperandChecks.{seen_at_half}
use Rattle.checks.proofs.form_checks.operand.Goals as goal

pub returns : goal.returns
returns c = record { in_table = c.slot.ensures.value.1; sees = seen_at_half c.args.h _ c.slot_of.ensures.0 c.slot.ensures.sees }

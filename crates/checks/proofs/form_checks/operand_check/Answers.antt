-- `checks::form_checks::operand_check` meets its contract: each way out is one of the rule's, with the slot's value as read.
use Rattle.std.proofs.Common.{refl, ◌∙◌}
use Rattle.rules.proofs.Equal.{equals_iso}
use Rattle.checks.proofs.OperandChecks.{operand_absent, operand_channel, operand_taken, operand_read}
use Rattle.checks.proofs.form_checks.operand_check.Goals as goal

pub returns-then-w-eq1 : goal.returns-then-w-eq1
returns-then-w-eq1 c = operand_taken _ refl c.operand-v.ensures.sees c.in-Obj.is c.if-w-eq1.true

pub returns-in-Absent : goal.returns-in-Absent
returns-in-Absent c = operand_absent _ refl c.operand-v.ensures.sees c.in-Absent.is

pub returns-in-Chan : goal.returns-in-Chan
returns-in-Chan c = operand_channel _ refl c.operand-v.ensures.sees c.in-Chan.is

pub returns-else-w-eq1 : goal.returns-else-w-eq1
returns-else-w-eq1 c =
    operand_read _ refl c.operand-v.ensures.sees c.in-Obj.is
    c.if-w-eq1.false c.cap.ensures.sees (c.eq.ensures ∙ equals_iso _) c.permission_check.ensures

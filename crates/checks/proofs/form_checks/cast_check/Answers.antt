-- `checks::form_checks::cast_check` meets its contract: an operand that does not pass ends the rule; past it, each way out is one of the rule's, with the slot's value as read.
use Rattle.std.proofs.Common.{sym, ◌∙◌, refl}
use Rattle.checks.proofs.CheckLaws.{fault_handed, object_is}
use Rattle.checks.proofs.Equal.{equals_cap}
use Rattle.checks.proofs.OperandChecks.{cast_no_operand, cast_no_object, cast_same, cast_other}
use Rattle.checks.proofs.form_checks.cast_check.Goals as goal

pub returns-in_err-operand_check : goal.returns-in_err-operand_check
returns-in_err-operand_check c =
    rw (fault_handed c.in_err-operand_check.field-0.0 c.from_residual.result c.from_residual.ensures.1) (cast_no_operand _ c.args.k c.in_err-operand_check.ensures refl)

pub returns-in_err-n : goal.returns-in_err-n
returns-in_err-n c =
    rw (fault_handed c.in_err-n.field-0.0 c.from_residual-in_err-n.result c.from_residual-in_err-n.ensures.1)
    (cast_no_object _ c.args.k c.in_ok-operand_check.ensures refl refl c.operand.ensures.sees c.in_err-n.ensures)

pub returns-then-eq : goal.returns-then-eq
returns-then-eq c =
    cast_same _ c.args.k c.in_ok-operand_check.ensures refl refl c.operand.ensures.sees (object_is c.in_ok-n.ensures) c.cap.ensures.sees
    (sym (equals_cap _ _) ∙ sym c.eq.ensures ∙ c.if-eq.true)

pub returns : goal.returns
returns c =
    cast_other _ c.args.k c.in_ok-operand_check.ensures refl refl c.operand.ensures.sees (object_is c.in_ok-n.ensures) c.cap.ensures.sees
    (sym (equals_cap _ _) ∙ sym c.eq.ensures ∙ c.if-eq.false)

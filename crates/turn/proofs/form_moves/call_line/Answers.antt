-- `turn::form_moves::call_line` meets its contract: past its operand and its target the method, the permission and the room are looked at in turn; a frame is pushed, its target is held, then the
-- operand's slot is left.
use Rattle.std.proofs.Common.{refl, sym}
use Rattle.checks.specs.declared.form_checks.Halt.TheVariants.{Stops}
use Rattle.checks.proofs.CheckLaws.{object_is}
use Rattle.checks.proofs.CallChecks.{call_no_operand, call_no_object, call_no_method, call_forbidden, call_used_up, call_passes}
use Rattle.turn.proofs.TurnSteps.{line_halts, line_hands_on, line_moves}
use Rattle.turn.proofs.CallLines.{call_answers, call_writes}
use Rattle.turn.proofs.form_moves.call_line.Goals as goal

pub returns-in_err-operand_check : goal.returns-in_err-operand_check
returns-in_err-operand_check c =
    line_hands_on (Stops c.in_err-operand_check.field-0.0) c.from_residual.ensures.1
    (call_answers _ _ _ (call_no_operand _ _ _ c.in_err-operand_check.ensures refl))

pub returns-in_err-n : goal.returns-in_err-n
returns-in_err-n c =
    line_hands_on (Stops c.in_err-n.field-0.0) c.from_residual-in_err-n.ensures.1
    (call_answers _ _ _ (call_no_object _ _ _ c.in_ok-operand_check.ensures refl c.seen.ensures.sees c.in_err-n.ensures))

pub returns-in_default : goal.returns-in_default
returns-in_default c =
    line_halts (call_answers _ _ _ (call_no_method _ _ _ c.in_ok-operand_check.ensures refl c.seen.ensures.sees (object_is c.in_ok-n.ensures) c.method_block.ensures c.in_default.is))

pub returns-in_err-permission_check : goal.returns-in_err-permission_check
returns-in_err-permission_check c =
    line_hands_on (Stops c.in_err-permission_check.field-0.0) c.from_residual-in_err-permission_check.ensures.1
    (call_answers _ _ _ (call_forbidden _ _ _ c.in_ok-operand_check.ensures refl c.seen.ensures.sees (object_is c.in_ok-n.ensures)
    c.method_block.ensures c.in-Some.is c.is_foreign.ensures c.in_err-permission_check.ensures refl))

pub returns-then-h-ge15 : goal.returns-then-h-ge15
returns-then-h-ge15 c =
    line_halts (call_answers _ _ _ (call_used_up _ _ _ c.in_ok-operand_check.ensures refl c.seen.ensures.sees (object_is c.in_ok-n.ensures)
    c.method_block.ensures c.in-Some.is c.is_foreign.ensures (sym c.in_ok-permission_check.ensures) c.if-h-ge15.true))

pub returns : goal.returns
returns c =
    line_moves (call_answers _ _ _ (call_passes _ _ _ c.in_ok-operand_check.ensures refl c.seen.ensures.sees (object_is c.in_ok-n.ensures)
    c.method_block.ensures c.in-Some.is c.is_foreign.ensures (sym c.in_ok-permission_check.ensures) c.if-h-ge15.false))
    (call_writes _ _ _ c.seen.ensures.sees (object_is c.in_ok-n.ensures) c.in-Some.ensures c.operand-v.ensures.sees c.push_frame.ensures c.hold.ensures.counts
    c.leave.ensures)

-- `checks::items::items_check` meets its contract: the first item that does not pass ends the rule; where all pass, so do the operands.
use Rattle.std.proofs.Common.{arith}
use Rattle.checks.proofs.CheckLaws.{fault_handed}
use Rattle.checks.proofs.ItemChecks.{items_for_operands, none_yet, one_passes, one_ends, all_pass}
use Rattle.checks.proofs.items.items_check.Goals as goal

pub loop-i-init : goal.loop-i-init
loop-i-init c = none_yet _ c.args.h c.args.items

pub returns-in_err-item_check : goal.returns-in_err-item_check
returns-in_err-item_check c =
    rw (fault_handed c.in_err-item_check.field-0.0 c.from_residual.result c.from_residual.ensures.1)
    (items_for_operands (one_ends c.args.items c.loop-i.i (omega arith) c.loop-i.invariant c.in_err-item_check.ensures))

pub loop-i-preserved : goal.loop-i-preserved
loop-i-preserved c = one_passes c.args.items c.loop-i.i (omega arith) c.loop-i.invariant c.in_ok-item_check.ensures

pub returns : goal.returns
returns c = items_for_operands (all_pass c.args.items c.loop-i.i (omega arith) c.loop-i.invariant)

-- `turn::copies::copy_line` meets its contract: each way out is one of the rule's, by what the slot holds and by what the copies answer.
use Rattle.std.proofs.Common.{refl}
use Rattle.checks.specs.declared.form_checks.Halt.TheVariants.{Stops}
use Rattle.checks.proofs.CheckLaws.{object_is}
use Rattle.turn.proofs.CopyLines.{copy_no_object, copy_hands_on, copy_moves}
use Rattle.turn.proofs.copies.copy_line.Goals as goal

pub returns-in_err-n : goal.returns-in_err-n
returns-in_err-n c = copy_no_object _ _ c.slot.ensures.sees c.in_err-n.field-0.0 c.from_residual.ensures.1 c.in_err-n.ensures

pub returns-in_err-copy_from : goal.returns-in_err-copy_from
returns-in_err-copy_from c =
    copy_hands_on _ _ c.slot.ensures.sees (Stops c.in_err-copy_from.field-0.0) (object_is c.in_ok-n.ensures) c.from_residual-in_err-copy_from.ensures.1
    c.in_err-copy_from.ensures refl

pub returns : goal.returns
returns c =
    copy_moves _ _ c.slot.ensures.sees (object_is c.in_ok-n.ensures) c.in_ok-copy_from.ensures c.rank.ensures.value
    c.object_count-first.ensures.sees refl c.give_value.ensures c.hold.ensures.counts

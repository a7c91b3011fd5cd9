-- `races::marks::mark_fields` meets its contract: after each step the fields of the first objects are marked.
use Rattle.std.proofs.Common.{arith}
use Rattle.races.proofs.MarkSteps.{four, one_marked}
use Rattle.races.proofs.marks.mark_fields.Goals as goal

pub loop-n-preserved : goal.loop-n-preserved
unfolding four
loop-n-preserved c =
    let a = c.args in one_marked a.objects.now a.t a.mark c.requires c.loop-n.n-index (omega arith) (omega arith) c.loop-n.invariant

-- `races::marks::mark_met` meets its contract: after each step the first objects are marked.
use Rattle.std.proofs.Common.{arith}
use Rattle.races.proofs.MarkSteps.{one_met}
use Rattle.races.proofs.marks.mark_met.Goals as goal

pub loop-n-preserved : goal.loop-n-preserved
loop-n-preserved c =
    let a = c.args in one_met a.objects.now a.t a.mark c.requires c.loop-n.n-index (omega arith) (omega arith) c.loop-n.invariant

-- `races::marks::over_objects` meets its contract: what is found on the first objects is carried on.
use Rattle.std.proofs.Common.{refl, arith}
use Rattle.races.specs.Marks.{over_objects}
use Rattle.races.proofs.MarkSteps.{objects_found_next}
use Rattle.races.proofs.marks.over_objects.Goals as goal

pub loop-n-init : goal.loop-n-init
unfolding over_objects
loop-n-init c = refl

pub loop-n-preserved : goal.loop-n-preserved
loop-n-preserved c =
    let a = c.args in
    objects_found_next a.swaps.now.last a.swaps.now.puts a.receives.now a.t a.objects.now c.loop-n.n-index (omega arith) c.loop-n.invariant c.over_fields-found.ensures

-- `races::marks::mark_first` meets its contract: after each step the first puts of the first objects are noted.
use Rattle.std.proofs.Common.{arith, subst, ◌+◌, ◌*◌, ◌%◌, get_or, take}
use Rattle.races.specs.Marks.{objects_in, MarksFirst}
use Rattle.races.proofs.MarkSteps.{four_steps, one_first}
use Rattle.races.proofs.marks.mark_first.Goals as goal

pub loop-n-preserved : goal.loop-n-preserved
loop-n-preserved c =
    let a = c.args in
    subst (MarksFirst (objects_in (take (c.loop-n.n-index + 1) a.objects.now)) a.t a.mark a.puts.now)
    (four_steps a.mark c.loop-n.puts (get_or a.objects.now c.loop-n.n-index 0 % 256 * 64 + a.t)
    c.first_of.ensures c.first_of-in-loop-n.ensures c.first_of-in-loop-n-2.ensures c.first_of-in-loop-n-3.ensures)
    (one_first a.objects.now a.t a.mark c.requires c.loop-n.n-index (omega arith) (omega arith) c.loop-n.invariant)

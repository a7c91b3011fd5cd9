-- `races::marks::mark_met` meets its contract: after each step the first objects are marked.
use Rattle.std.proofs.Common.{take}
use Rattle.races.specs.Marks.{objects_in, MarksMet}
use Rattle.races.proofs.marks.mark_met.Given as goal

abbrev pub invariant-loop-n : goal.invariant-loop-n
invariant-loop-n l = MarksMet (objects_in (take l.n-index l.objects)) l.t l.mark l.initial.receives l.receives

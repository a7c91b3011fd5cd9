-- `races::marks::over_objects` meets its contract: what is found on the first objects is carried on.
use Rattle.std.proofs.Common.{◌≡◌, None, take}
use Rattle.races.specs.Marks.{objects_in, over_objects}
use Rattle.races.proofs.marks.over_objects.Given as goal

abbrev pub invariant-loop-n : goal.invariant-loop-n
invariant-loop-n l = l.found ≡ over_objects l.swaps.last l.swaps.puts l.receives l.t None (objects_in (take l.n-index l.objects))

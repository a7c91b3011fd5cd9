-- `races::marks::mark_first` meets its contract: after each step the first puts of the first objects are noted.
use Rattle.std.proofs.Common.{take}
use Rattle.races.specs.Marks.{objects_in, MarksFirst}
use Rattle.races.proofs.marks.mark_first.Given as goal

abbrev pub invariant-loop-n : goal.invariant-loop-n
invariant-loop-n l = MarksFirst (objects_in (take l.n-index l.objects)) l.t l.mark l.initial.puts l.puts

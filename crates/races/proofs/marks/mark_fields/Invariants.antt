-- `races::marks::mark_fields` meets its contract: after each step the fields of the first objects are marked.
use Rattle.std.proofs.Common.{take}
use Rattle.races.specs.Marks.{objects_in, MarksFields}
use Rattle.races.proofs.marks.mark_fields.Given as goal

abbrev pub invariant-loop-n : goal.invariant-loop-n
invariant-loop-n l = MarksFields (objects_in (take l.n-index l.objects)) l.t l.mark l.initial.reads l.reads

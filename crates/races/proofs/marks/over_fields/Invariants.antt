-- `races::marks::over_fields` meets its contract: what is found on the first f fields is carried on.
use Rattle.std.proofs.Common.{◌≡◌}
use Rattle.races.specs.Marks.{over_fields}
use Rattle.races.proofs.marks.over_fields.Given as goal

abbrev pub invariant-loop-f : goal.invariant-loop-f
invariant-loop-f l = l.found ≡ over_fields l.swaps.last l.swaps.puts l.receives l.t l.n l.initial.found l.f

-- `races::marks::latest` meets its contract: what is kept is the latest of the threads so far.
use Rattle.std.proofs.Common.{◌≡◌}
use Rattle.races.specs.Marks.{latest_in}
use Rattle.races.proofs.marks.latest.Given as goal

abbrev pub invariant-loop-u : goal.invariant-loop-u
invariant-loop-u l = l.last ≡ latest_in l.rows.last l.rows.puts l.a l.q l.t l.u

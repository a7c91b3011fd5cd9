-- `drawing::graph::put_edges` meets its contract: before turn o the lines of the objects below o are written.
use Rattle.std.proofs.Common.{◌*◌, take}
use Rattle.rules.specs.Listing.{numbered}
use Rattle.rules.specs.Drawing.{edge_lines}
use Rattle.table.specs.StateTable.{Any}
use Rattle.listing.specs.StateWriting.{Writes}
use Rattle.drawing.proofs.graph.put_edges.Given as goal

abbrev pub invariant-loop-o : goal.invariant-loop-o
invariant-loop-o l = Writes (136 * l.o) l.s l.initial.out l.out Any (λ S. numbered edge_lines 0 (take l.o S.objects))

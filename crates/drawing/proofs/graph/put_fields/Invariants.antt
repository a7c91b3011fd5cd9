-- `drawing::graph::put_fields` meets its contract: before turn j the edges of the first j fields are written.
use Rattle.std.proofs.Common.{◌*◌, ◌<◌, length, take}
use Rattle.rules.specs.State.{object_at}
use Rattle.rules.specs.Listing.{numbered}
use Rattle.rules.specs.Drawing.{edge_line}
use Rattle.listing.specs.StateWriting.{Writes}
use Rattle.drawing.proofs.graph.put_fields.Given as goal

abbrev pub invariant-loop-j : goal.invariant-loop-j
invariant-loop-j l =
    Writes (34 * l.j) l.s l.initial.out l.out (λ S. l.o < length S.objects)
    (λ S. numbered (edge_line l.o) 0 (take l.j (object_at S.objects l.o).fields))

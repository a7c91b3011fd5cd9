-- `drawing::graph::put_fields` meets its contract: before turn j the edges of the first j fields are written.
use Rattle.std.proofs.Common.{rules}
use Rattle.drawing.proofs.GraphLines.{no_edge_yet, edge_after, all_edges}
use Rattle.drawing.proofs.graph.put_fields.Goals as goal

pub loop-j-init : goal.loop-j-init
loop-j-init c = no_edge_yet c.args.o (search rules)

pub loop-j-preserved : goal.loop-j-preserved
loop-j-preserved c = edge_after c.args.o c.loop-j.j c.loop-j.invariant c.field.ensures.sees c.put_edge.ensures

pub returns : goal.returns
returns c = all_edges c.args.o c.loop-j.j c.loop-j-test.false (search rules) c.loop-j.invariant

-- `drawing::graph::put_nodes` meets its contract: before turn o the lines of the objects below o are written.
use Rattle.std.proofs.Common.{arith, rules}
use Rattle.rules.specs.Drawing.{node_line}
use Rattle.listing.proofs.StateRows.{no_object_yet, object_after, all_objects_lem}
use Rattle.drawing.proofs.graph.put_nodes.Goals as goal

pub loop-o-init : goal.loop-o-init
loop-o-init c = no_object_yet node_line (search rules)

pub loop-o-preserved : goal.loop-o-preserved
loop-o-preserved c = object_after node_line c.object_count-o-end.ensures.sees c.loop-o.o c.loop-o-test.true (omega arith) c.loop-o.invariant c.put_node.ensures

pub returns : goal.returns
returns c = all_objects_lem node_line c.object_count-o-end.ensures.sees c.loop-o.o c.loop-o-test.false (search rules) c.loop-o.invariant

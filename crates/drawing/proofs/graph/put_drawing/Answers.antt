-- `drawing::graph::put_drawing` meets its contract: the first lines, nodes, edges and the last line, one after the other.
use Rattle.rules.specs.Drawing.{drawing}
use Rattle.listing.proofs.StateTexts.{fixed, ◌▹◌}
use Rattle.drawing.proofs.graph.put_drawing.Goals as goal

pub returns : goal.returns
unfolding drawing
returns c =
    fixed c.put_text.ensures ▹ c.put_nodes.ensures ▹ c.put_edges.ensures ▹ fixed c.put_text-2.ensures

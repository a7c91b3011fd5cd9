-- `drawing::graph::put_node` meets its contract: the label and the look, both of the capability that was read.
use Rattle.rules.specs.Drawing.{node_line}
use Rattle.buffer.proofs.Outputs.{◌▹◌}
use Rattle.listing.proofs.StateTexts.{of_seen}
use Rattle.drawing.proofs.GraphLines.{node_text}
use Rattle.drawing.proofs.graph.put_node.Goals as goal

pub returns : goal.returns
unfolding node_line
returns c =
    of_seen (node_text c.args.o) (λ P n S fits made. made) c.cap-cap.ensures.sees (c.put_label.ensures ▹ c.put_look.ensures ▹ c.put_text.ensures)

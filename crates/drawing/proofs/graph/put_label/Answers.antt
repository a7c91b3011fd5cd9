-- `drawing::graph::put_label` meets its contract: the parts of the label, one after the other.
use Rattle.rules.specs.Templates.{print}
use Rattle.buffer.proofs.Outputs.{◌▹◌}
use Rattle.drawing.proofs.graph.put_label.Goals as goal

pub returns : goal.returns
unfolding print
returns c =
    c.put_text.ensures ▹ c.put_decimal.ensures ▹ c.put_text-2.ensures ▹ c.put_decimal-2.ensures ▹ c.put_cap.ensures ▹ c.put_text-3.ensures

-- `drawing::graph::put_edge` meets its contract: an object has its line, anything else none.
use Rattle.std.proofs.Common.{arith, rules}
use Rattle.rules.specs.Templates.{print}
use Rattle.rules.specs.Drawing.{edge_line}
use Rattle.buffer.proofs.Outputs.{nothing, same_text, ◌▹◌}
use Rattle.drawing.proofs.GraphLines.{no_edge}
use Rattle.drawing.proofs.graph.put_edge.Goals as goal

pub returns-in-Obj : goal.returns-in-Obj
unfolding edge_line print
returns-in-Obj c =
    rw c.in-Obj.is
    (c.put_text.ensures ▹ c.put_decimal.ensures ▹ c.put_text-in-Obj.ensures ▹ c.put_decimal-in-Obj.ensures ▹ c.put_text-in-Obj-2.ensures
    ▹ c.put_decimal-in-Obj-2.ensures ▹ c.put_text-in-Obj-3.ensures)

pub returns-in_default : goal.returns-in_default
returns-in_default c = same_text 34 (no_edge c.args.o c.args.j c.args.v c.in_default.not-Obj) (omega arith) (nothing 0 (search rules))

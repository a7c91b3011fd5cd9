-- Its own tables are long enough, and so is the output.
use Rattle.std.proofs.Common.{rules}
use Rattle.reports.proofs.DrawnOutcomes.{graph_told}
use Rattle.reports.proofs.drawn.write_graph.Goals as goal

pub returns : goal.returns
returns c = graph_told c.args.text.now c.args.turns.now c.draw.ensures (search rules) (search rules) c.requires

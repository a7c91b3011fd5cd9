-- `host::box_draw` meets its contract: what is drawn is told by its numbers.
use Rattle.host.proofs.DrawsCross.{has_drawn}
use Rattle.host.proofs.box_draw.Goals as goal

pub returns : goal.returns
returns c = has_drawn c.draw-drawn.ensures c.tell_count.ensures

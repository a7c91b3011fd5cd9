-- `host::box_reach` meets its contract: what is listed is told by its numbers.
use Rattle.host.proofs.Crossing.{has_reported}
use Rattle.host.proofs.box_reach.Goals as goal

pub returns : goal.returns
returns c = has_reported c.list_reached-reached.ensures c.tell_count.ensures

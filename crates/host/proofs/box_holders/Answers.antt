-- `host::box_holders` meets its contract: the count is told by its numbers.
use Rattle.host.proofs.CountsCross.{has_counted}
use Rattle.host.proofs.box_holders.Goals as goal

pub returns : goal.returns
returns c = has_counted c.count_places-places.ensures c.tell_count.ensures

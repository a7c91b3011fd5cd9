-- `reach::walking::walk_roots` meets its contract: the slots of all frames are walked, then the message that the thread put.
use Rattle.reach.proofs.ReportSteps.{roots_walked}
use Rattle.reach.proofs.walking.walk_roots.Goals as goal

pub returns-clause-walks_roots : goal.returns-clause-walks_roots
returns-clause-walks_roots c = roots_walked c.walk_thread.ensures.walks_thread c.in_flight.ensures.sees_in_flight c.walk.ensures.walks

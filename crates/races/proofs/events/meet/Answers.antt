-- `races::events::meet` meets its contract: the walk starts from no object met, so its list is the rule's.
use Rattle.std.proofs.Common.{arith, rules}
use lib.ListN.{replicate}
use Rattle.walk.proofs.Numbers.{few_unmet}
use Rattle.walk.proofs.FromNothing.{met_few}
use Rattle.races.proofs.EventLines.{walk_meets}
use Rattle.races.proofs.events.meet.Goals as goal

pub walk-requires : goal.walk-requires
walk-requires c = (search rules, search rules, search rules, search rules, omega (arith, few_unmet 256 (replicate 256 0)))

pub returns-in-Puts : goal.returns-in-Puts
returns-in-Puts c = record { few = met_few c.walk.ensures.grows; meets = walk_meets c.in-Puts.n c.in-Puts.is c.walk.ensures.walks }

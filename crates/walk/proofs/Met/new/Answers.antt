-- Where no object is met, all that there are may be to come.
use Rattle.std.proofs.Common.{arith}
use Rattle.walk.proofs.Numbers.{few_unmet}
use Rattle.walk.proofs.Met.new.Goals as goal

pub invariant_of-result-clause-room : goal.invariant_of-result-clause-room
invariant_of-result-clause-room c = omega (arith, few_unmet 256 c.args.places.now)

-- It lends nothing but the two tables.
use Rattle.rules.specs.Calls.{run_call}
use Rattle.run.proofs.run.Goals as goal

pub returns : goal.returns
unfolding run_call
returns c = c.run_into.ensures

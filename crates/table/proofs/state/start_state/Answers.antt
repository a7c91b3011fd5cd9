-- `table::state::start_state` meets its contract: in a table of zeros the three words make the fresh start.
use Rattle.table.proofs.StateFrames.{all_zero_but_three}
use Rattle.table.proofs.state.start_state.Goals as goal

pub returns-clause-starts : goal.returns-clause-starts
returns-clause-starts c = all_zero_but_three c.args.s.now

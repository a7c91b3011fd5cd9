-- `table::state::sender` meets its contract: it is the second of the thread's words.
use Rattle.table.proofs.StateReads.{sender_seen}
use Rattle.table.proofs.state.sender.Goals as goal

pub returns-clause-sees : goal.returns-clause-sees
returns-clause-sees c = sender_seen _ _ c.requires.1

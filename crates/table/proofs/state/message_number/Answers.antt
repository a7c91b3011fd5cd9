-- `table::state::message_number` meets its contract: it is the second of the channel's words.
use Rattle.table.proofs.StateReads.{number_seen}
use Rattle.table.proofs.state.message_number.Goals as goal

pub returns-clause-sees : goal.returns-clause-sees
returns-clause-sees c = number_seen _ _ c.requires.1

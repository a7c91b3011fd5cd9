-- `table::state::message` meets its contract: it is the first of the channel's words.
use Rattle.table.proofs.StateReads.{message_seen}
use Rattle.table.proofs.state.message.Goals as goal

pub returns-clause-sees : goal.returns-clause-sees
returns-clause-sees c = message_seen _ c.requires.1 c.unpack.ensures.0

-- `table::state::slot_count` meets its contract: it is the third of the frame's words.
use Rattle.table.proofs.StateReads.{slots_seen}
use Rattle.table.proofs.state.slot_count.Goals as goal

pub returns-clause-sees : goal.returns-clause-sees
returns-clause-sees c = slots_seen _ _ _ c.requires.1 c.requires.2

-- `table::state::cap` meets its contract: it is told by the first of the object's words.
use Rattle.table.proofs.StateReads.{cap_seen}
use Rattle.table.proofs.state.cap.Goals as goal

pub returns-clause-sees : goal.returns-clause-sees
returns-clause-sees c = cap_seen _ _ _ c.requires.1 c.from.ensures

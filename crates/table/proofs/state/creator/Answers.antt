-- `table::state::creator` meets its contract: it is the third of the object's words.
use Rattle.table.proofs.StateReads.{creator_seen}
use Rattle.table.proofs.state.creator.Goals as goal

pub returns-clause-sees : goal.returns-clause-sees
returns-clause-sees c = creator_seen _ _ c.requires.1

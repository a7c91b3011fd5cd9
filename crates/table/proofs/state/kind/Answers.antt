-- `table::state::kind` meets its contract: it is the second of the object's words.
use Rattle.table.proofs.StateReads.{kind_seen}
use Rattle.table.proofs.state.kind.Goals as goal

pub returns-clause-sees : goal.returns-clause-sees
returns-clause-sees c = kind_seen _ _ c.requires.1

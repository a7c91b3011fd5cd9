-- `table::state::frame_count` meets its contract: it is the first of the thread's words.
use Rattle.table.proofs.StateReads.{frames_seen}
use Rattle.table.proofs.state.frame_count.Goals as goal

pub returns-clause-sees : goal.returns-clause-sees
returns-clause-sees c = frames_seen _ _ c.requires.1

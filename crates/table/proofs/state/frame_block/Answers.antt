-- `table::state::frame_block` meets its contract: it is the first of the frame's words.
use Rattle.table.proofs.StateReads.{block_seen}
use Rattle.table.proofs.state.frame_block.Goals as goal

pub returns-clause-sees : goal.returns-clause-sees
returns-clause-sees c = block_seen _ _ _ c.requires.1 c.requires.2

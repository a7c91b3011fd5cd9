-- `table::state::frame_line` meets its contract: it is the second of the frame's words.
use Rattle.table.proofs.StateReads.{line_seen}
use Rattle.table.proofs.state.frame_line.Goals as goal

pub returns-clause-sees : goal.returns-clause-sees
returns-clause-sees c = line_seen _ _ _ c.requires.1 c.requires.2

-- `table::state::frame_slot` meets its contract: slot i is word 3 + i of the frame's.
use Rattle.std.proofs.Common.{arith}
use Rattle.table.proofs.StateReads.{slot_seen}
use Rattle.table.proofs.state.frame_slot.Goals as goal

pub returns-clause-sees : goal.returns-clause-sees
returns-clause-sees c = slot_seen _ _ _ _ c.requires.1 c.requires.2 c.requires.3 c.unpack.ensures.0 (omega arith)

-- `table::state::slot` meets its contract: slot i is word 3 + i of the frame's.
use Rattle.std.proofs.Common.{arith}
use Rattle.table.proofs.StateReads.{slot_seen}
use Rattle.table.proofs.state.slot.Goals as goal

pub returns-clause-sees : goal.returns-clause-sees
returns-clause-sees c = let h = c.args.h in slot_seen _ _ _ _ h.placed.thread h.placed.depth c.requires.1 c.unpack.ensures.0 (omega arith)

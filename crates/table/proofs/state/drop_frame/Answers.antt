-- `table::state::drop_frame` meets its contract: the values of its slots are let go, then its words are zero.
use Rattle.table.proofs.HolderCounts.{frame_dropped}
use Rattle.table.proofs.state.drop_frame.Goals as goal

pub returns : goal.returns
returns c = frame_dropped c.release_slots.ensures c.clear_frame.ensures

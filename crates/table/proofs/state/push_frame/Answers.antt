-- `table::state::push_frame` meets its contract: the words past the innermost frame are zero, so the four written make the callee's frame.
use Rattle.std.proofs.Common.{◌+◌, arith}
use Rattle.table.proofs.StateFrames.{frame_called}
use Rattle.table.proofs.state.push_frame.Goals as goal

pub returns : goal.returns
returns c =
    let h = c.args.h in
    record {
      becomes = λ S rest held inner.
          frame_called held h.thread h.depth h.placed.thread c.args.b (h.frame + 19) _ _ _ _ c.pack.ensures c.pack-2.ensures (omega arith) inner (omega arith);
    }

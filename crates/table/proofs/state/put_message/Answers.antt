-- `table::state::put_message` meets its contract: both words of the channel are written, then the sender's; below 32,768 a number is its own remainder.
use Rattle.std.proofs.Common.{arith}
use Rattle.table.proofs.StateRecords.{message_put}
use Rattle.table.proofs.state.put_message.Goals as goal

pub returns : goal.returns
returns c =
    record { becomes = λ S rest held puts. message_put held c.args.h.thread c.args.c _ _ c.args.h.placed.thread (omega arith) c.pack.ensures puts }

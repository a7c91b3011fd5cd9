-- `table::state::start_thread` meets its contract: the words of a thread that is not there are zero; what is written over them is its only frame.
use Rattle.table.proofs.StateRecords.{thread_added}
use Rattle.table.proofs.state.start_thread.Goals as goal

pub returns : goal.returns
returns c = record { becomes = λ S rest held next. thread_added held c.args.n c.args.b c.requires.1 next }

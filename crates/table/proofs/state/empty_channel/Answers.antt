-- `table::state::empty_channel` meets its contract: the channel's first word is its message, and 0 is absent.
use Rattle.table.proofs.StateRecords.{channel_emptied}
use Rattle.table.proofs.state.empty_channel.Goals as goal

pub returns-clause-becomes : goal.returns-clause-becomes
returns-clause-becomes c = record { becomes = λ S rest held there. channel_emptied held c.args.c c.requires.1 there }

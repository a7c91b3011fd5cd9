-- `races::events::message_in` meets its contract: only a channel has a message, and it is read of the table.
use Rattle.std.proofs.Common.{refl, rules}
use Rattle.table.proofs.StateReads.{channel_in_table}
use Rattle.races.proofs.EventLines.{message_seen}
use Rattle.races.proofs.events.message_in.Goals as goal

pub message-requires : goal.message-requires
message-requires c = (search rules, channel_in_table _ _ c.in-Chan.is c.requires.1)

pub returns-in-Absent : goal.returns-in-Absent
returns-in-Absent c = record { in_table = tt; sees = record { sees = λ S rest held there. rw c.in-Absent.is refl } }

pub returns-in-Obj : goal.returns-in-Obj
returns-in-Obj c = record { in_table = tt; sees = record { sees = λ S rest held there. rw c.in-Obj.is refl } }

pub returns-in-Chan : goal.returns-in-Chan
returns-in-Chan c = record { in_table = c.message.ensures.value.1; sees = message_seen c.in-Chan.is c.message.ensures.sees }

-- `listing::values::put_message` meets its contract: an empty channel, or its message as a value.
use Rattle.std.proofs.Common.{arith, refl}
use Rattle.buffer.proofs.Outputs.{same_text}
use Rattle.rules.specs.Listing.{message_text}
use Rattle.listing.proofs.LineTexts.{some_message}
use Rattle.listing.proofs.values.put_message.Goals as goal

pub returns-in-Absent : goal.returns-in-Absent
unfolding message_text
returns-in-Absent c = rw c.in-Absent.is (same_text 13 refl (omega arith) c.put_text.ensures)

pub returns-in_default : goal.returns-in_default
returns-in_default c = same_text 13 (some_message c.args.v c.in_default.not-Absent) (omega arith) c.put_value.ensures

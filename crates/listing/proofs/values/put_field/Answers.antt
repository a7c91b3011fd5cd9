-- `listing::values::put_field` meets its contract: a field that is not there writes nothing.
use Rattle.std.proofs.Common.{arith, rules}
use Rattle.buffer.proofs.Outputs.{nothing, same_text}
use Rattle.listing.specs.StateWriting.{field_part}
use Rattle.listing.proofs.LineTexts.{some_field}
use Rattle.listing.proofs.values.put_field.Goals as goal

pub returns-in-Absent : goal.returns-in-Absent
unfolding field_part
returns-in-Absent c = rw c.in-Absent.is (nothing 13 (search rules))

pub returns-in_default : goal.returns-in_default
returns-in_default c = same_text 13 (some_field c.args.v c.in_default.not-Absent) (omega arith) c.put_value.ensures

-- `table::state::store_field` meets its contract: the value's word goes into the field's place among the object's words.
use Rattle.std.proofs.Common.{arith}
use Rattle.table.proofs.StateRecords.{field_stored}
use Rattle.table.proofs.state.store_field.Goals as goal

pub returns-clause-becomes : goal.returns-clause-becomes
returns-clause-becomes c =
    record { becomes = λ S rest held has. field_stored held c.args.o c.args.j _ _ (omega arith) (omega arith) c.pack.ensures has }

-- `table::state::field` meets its contract: field j is word 4 + j of the object's; no object has a fifth.
use Rattle.std.proofs.Common.{arith}
use Rattle.table.proofs.StateReads.{field_seen, no_field_seen}
use Rattle.table.proofs.state.field.Goals as goal

pub returns-then-j-ge4-clause-sees : goal.returns-then-j-ge4-clause-sees
returns-then-j-ge4-clause-sees c = no_field_seen _ _ _ c.if-j-ge4.true

pub returns-clause-sees : goal.returns-clause-sees
returns-clause-sees c = field_seen c.args.o c.args.j c.requires.1 (omega arith) c.unpack.ensures.0

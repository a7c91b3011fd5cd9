-- `listing::state_lines::put_fields` meets its contract: before turn j the first j fields are written.
use Rattle.std.proofs.Common.{◌*◌, ◌<◌, length, take}
use Rattle.rules.specs.State.{object_at}
use Rattle.listing.specs.StateWriting.{Writes, value_parts}
use Rattle.listing.proofs.state_lines.put_fields.Given as goal

abbrev pub invariant-loop-j : goal.invariant-loop-j
invariant-loop-j l = Writes (13 * l.j) l.s l.initial.out l.out (λ S. l.o < length S.objects) (λ S. value_parts (take l.j (object_at S.objects l.o).fields))

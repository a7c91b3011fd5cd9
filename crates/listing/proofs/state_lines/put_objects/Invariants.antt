-- `listing::state_lines::put_objects` meets its contract: before turn o the lines of the objects below o are written.
use Rattle.std.proofs.Common.{◌*◌, take}
use Rattle.rules.specs.Listing.{object_line, numbered}
use Rattle.table.specs.StateTable.{Any}
use Rattle.listing.specs.StateWriting.{Writes}
use Rattle.listing.proofs.state_lines.put_objects.Given as goal

abbrev pub invariant-loop-o : goal.invariant-loop-o
invariant-loop-o l = Writes (86 * l.o) l.s l.initial.out l.out Any (λ S. numbered object_line 0 (take l.o S.objects))

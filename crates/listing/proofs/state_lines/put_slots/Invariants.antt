-- `listing::state_lines::put_slots` meets its contract: before turn i the first i slots are written.
use Rattle.std.proofs.Common.{◌*◌, take}
use Rattle.table.specs.StateTable.{frame_at}
use Rattle.listing.specs.StateWriting.{Writes, value_parts, Inner}
use Rattle.listing.proofs.state_lines.put_slots.Given as goal

abbrev pub invariant-loop-i : goal.invariant-loop-i
invariant-loop-i l = Writes (13 * l.i) l.s l.initial.out l.out (Inner l.t l.k) (λ S. value_parts (take l.i (frame_at S l.t l.k).slots))

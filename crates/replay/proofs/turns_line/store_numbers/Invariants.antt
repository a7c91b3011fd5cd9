-- The numbers read so far are stored, and put before what the list still gives at the place reached they are the whole list. The measure is what
-- is left of the input: the loop goes on at a space only, which lies inside the input, and each number ends past it.
use Prim.Native.Nat.{◌-◌}
use mathlib.Core.Path.{◌≡◌}
use lib.ListN.{length}
use Rattle.replay.proofs.TurnsLine.{StoredTo}
use Rattle.replay.proofs.turns_line.store_numbers.Given as goal

abbrev pub invariant-loop-l : goal.invariant-loop-l
invariant-loop-l l = StoredTo l.s l.at l.l l.turns × (length l.turns ≡ length l.initial.turns)

abbrev pub decreases-loop-l : goal.decreases-loop-l
decreases-loop-l l = length l.s - l.l.end

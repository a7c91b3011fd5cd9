-- The values before this turn are held.
use Rattle.std.specs.Prelude.{take}
use Rattle.table.specs.StateTable.{all_raised, Counts}
use Rattle.turn.proofs.copies.hold_all.Given as goal

abbrev pub invariant-loop-v : goal.invariant-loop-v
invariant-loop-v l = Counts (all_raised (take l.v-index l.v-items)) l.initial.s l.s

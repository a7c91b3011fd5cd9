-- The turns after the stop that were gone over are counted.
use Prim.Native.Nat.{◌+◌}
use mathlib.Core.Path.{◌≡◌}
use lib.ListN.{length, drop}
use Rattle.tally.specs.Counted.{Low, unplayed_from}
use Rattle.tally.proofs.count_unplayed.Given as goal

abbrev pub invariant-loop-turn : goal.invariant-loop-turn
invariant-loop-turn l = record {
  low : Low (l.from + 1 + l.turn-index) l.counts;
  wide : length l.counts ≡ 85;
  counted : unplayed_from l.initial.counts l.rest ≡ unplayed_from l.counts (drop l.turn-index l.rest);
}

-- The items before this turn have left their slots.
use Rattle.std.proofs.Common.{◌≤◌, length}
use Rattle.std.specs.Prelude.{take}
use Rattle.turn.proofs.NewLines.{ItemsLeft}
use Rattle.turn.proofs.form_moves.new_line.Given as goal

abbrev pub invariant-loop-i : goal.invariant-loop-i
invariant-loop-i l = record {
  long : 8192 ≤ length l.s;
  left : ItemsLeft l.h.thread l.h.depth (take l.i l.items) (take l.i l.values) l.initial.s l.s;
}

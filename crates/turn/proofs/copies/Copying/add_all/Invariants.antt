-- The objects before this turn are copied.
use Rattle.std.specs.Prelude.{take}
use Rattle.turn.specs.Copied.{CopiesAll}
use Rattle.turn.proofs.copies.Copying.add_all.Given as goal

abbrev pub invariant-loop-i : goal.invariant-loop-i
invariant-loop-i l = CopiesAll l.self.creator l.self.cap l.self.places.now l.self.first (take l.i l.order) l.initial.s l.s

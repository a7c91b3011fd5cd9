-- The items before this turn pass.
use Rattle.checks.proofs.ItemChecks.{ItemsGo}
use Rattle.checks.proofs.items.items_check.Given as goal

abbrev pub invariant-loop-i : goal.invariant-loop-i
invariant-loop-i l = ItemsGo l.s l.h l.items l.i

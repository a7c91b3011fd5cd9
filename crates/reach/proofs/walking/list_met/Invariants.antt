-- `reach::walking::list_met` meets its contract: before turn i the objects below i that are met stand in the list.
use Rattle.reach.proofs.Listed.{Listing}
use Rattle.reach.proofs.walking.list_met.Given as goal

abbrev pub invariant-loop-i : goal.invariant-loop-i
invariant-loop-i l = Listing l.places l.initial.list l.i l.n l.list

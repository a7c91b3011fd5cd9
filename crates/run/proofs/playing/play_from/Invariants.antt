-- Before each turn the run so far is the rule's; where a thread's place is kept, it is the one where the thread stands.
use Rattle.run.proofs.TurnByTurn.{Playing}
use Rattle.run.proofs.playing.play_from.Given as goal

abbrev pub invariant-loop-i : goal.invariant-loop-i
invariant-loop-i l = Playing l.p l.initial.s l.turns l.moved l.from l.s l.places l.moves l.i

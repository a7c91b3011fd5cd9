-- Before turn i the counts are those of the turns before it, and the rules' own tally goes on from them.
use Rattle.tally.proofs.CountLaws.{Counting}
use Rattle.tally.proofs.count_played.Given as goal

abbrev pub invariant-loop-i : goal.invariant-loop-i
invariant-loop-i l = Counting l.p l.initial.s l.turns l.s l.counts l.i

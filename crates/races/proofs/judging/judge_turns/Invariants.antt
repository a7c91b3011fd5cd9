-- `races::judging::judge_turns` meets its contract: before each turn the marks are those of the turns so far, of which none raced.
use Rattle.races.proofs.TurnsJudged.{Judging}
use Rattle.races.proofs.judging.judge_turns.Given as goal

abbrev pub invariant-loop-k : goal.invariant-loop-k
invariant-loop-k l = Judging l.p l.turns l.initial.s l.s l.marks l.k

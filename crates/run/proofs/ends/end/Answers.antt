-- The two answers are the two tests of the end.
use Rattle.run.proofs.EndLaws.{ends_finished, ends_stuck, ends_open}
use Rattle.run.proofs.ends.end.Goals as goal

pub returns-then-all_finished : goal.returns-then-all_finished
returns-then-all_finished c = ends_finished _ _ c.all_finished.ensures _ c.if-all_finished.true

pub returns-then-all_wait : goal.returns-then-all_wait
returns-then-all_wait c = ends_stuck _ _ c.all_finished.ensures _ c.all_wait.ensures c.if-all_finished.false c.if-all_wait.true

pub returns : goal.returns
returns c = ends_open _ _ c.all_finished.ensures _ c.all_wait.ensures c.if-all_finished.false c.if-all_wait.false

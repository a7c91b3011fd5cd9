-- `reach::report_on` meets its contract: the thread is not started; or its slots and the message that it put are walked from no object met, and
-- what is met is listed. What is too short is refused.
use Rattle.std.proofs.Common.{arith}
use Rattle.reach.proofs.Reporting.{reported}
use Rattle.reach.proofs.report_on.Goals as goal

pub returns : goal.returns
returns c =
    reported (omega arith) (omega arith) (omega arith) c.thread_count.ensures.sees c.if-thread_count-t.false
    (rw c.new-met.ensures.none at c.walk_roots.ensures.walks_roots) c.list_met.ensures.value c.list_met.ensures.list_after

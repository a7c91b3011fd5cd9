-- `reach::walking::walk_thread` meets its contract: before turn k the slots of the k outermost frames are walked.
use Rattle.walk.proofs.Numbers.{same_lists, lists_then}
use Rattle.reach.proofs.ReportSteps.{no_frame_yet, frame_next, thread_walked}
use Rattle.reach.proofs.walking.walk_thread.Goals as goal

pub loop-k-init : goal.loop-k-init
loop-k-init c = record { walks = no_frame_yet c.args.t; same_lists = same_lists }

pub loop-k-preserved : goal.loop-k-preserved
loop-k-preserved c =
    record {
      walks = frame_next c.args.t c.frame_count-k-end.ensures.sees c.loop-k.k c.loop-k-test.true c.loop-k.invariant.walks c.walk_frame.ensures.walks;
      same_lists = lists_then c.loop-k.invariant.same_lists c.walk_frame.ensures.same_lists;
    }

pub returns-clause-walks_thread : goal.returns-clause-walks_thread
returns-clause-walks_thread c = thread_walked c.args.t c.frame_count-k-end.ensures.sees c.loop-k.k c.loop-k-test.false c.loop-k.invariant.walks

-- `reach::walking::walk_frame` meets its contract: before turn i the first i slots are walked.
use Rattle.table.specs.StateTable.{frame_at}
use Rattle.walk.proofs.Numbers.{same_lists, lists_then}
use Rattle.walk.proofs.WalkSteps.{row_begins, row_next}
use Rattle.reach.proofs.ReportSteps.{slot_seen, frame_walked}
use Rattle.reach.proofs.walking.walk_frame.Goals as goal

pub loop-i-init : goal.loop-i-init
loop-i-init c = let a = c.args in record { walks = row_begins (λ S. (frame_at S a.t a.k).slots); same_lists = same_lists }

pub loop-i-preserved : goal.loop-i-preserved
loop-i-preserved c =
    let a = c.args in
    record {
      walks = row_next (λ S. (frame_at S a.t a.k).slots) c.loop-i.i (slot_seen a.t a.k c.loop-i.i c.frame_slot.ensures.sees) c.loop-i.invariant.walks c.walk.ensures.walks;
      same_lists = lists_then c.loop-i.invariant.same_lists c.walk.ensures.same_lists;
    }

pub returns-clause-walks : goal.returns-clause-walks
returns-clause-walks c = let a = c.args in frame_walked a.t a.k c.loop-i.i c.loop-i-test.false c.loop-i.invariant.walks

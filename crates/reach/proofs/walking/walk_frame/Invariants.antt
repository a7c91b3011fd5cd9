-- `reach::walking::walk_frame` meets its contract: before turn i the first i slots are walked.
use Rattle.std.proofs.Common.{take}
use Rattle.table.specs.StateTable.{Any, frame_at}
use Rattle.walk.specs.Walking.{Walks}
use Rattle.walk.specs.Walked.{tally_of, SameLists}
use Rattle.reach.proofs.walking.walk_frame.Given as goal

abbrev pub invariant-loop-i : goal.invariant-loop-i
invariant-loop-i l =
    record {
      walks : Walks l.s (tally_of l.initial.met) Any (λ S. take l.i (frame_at S l.t l.k).slots) (tally_of l.met);
      same_lists : SameLists l.initial.met l.met;
    }

-- `reach::walking::walk_thread` meets its contract: before turn k the slots of the k outermost frames are walked.
use Rattle.table.specs.StateTable.{Any}
use Rattle.walk.specs.Walking.{Walks}
use Rattle.walk.specs.Walked.{tally_of, SameLists}
use Rattle.reach.proofs.ReportSteps.{slots_to}
use Rattle.reach.proofs.walking.walk_thread.Given as goal

abbrev pub invariant-loop-k : goal.invariant-loop-k
invariant-loop-k l =
    record {
      walks : Walks l.s (tally_of l.initial.met) Any (slots_to l.t l.k) (tally_of l.met);
      same_lists : SameLists l.initial.met l.met;
    }

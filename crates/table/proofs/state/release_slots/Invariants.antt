-- `table::state::release_slots` meets its contract: before turn i the values of the first i slots are let go.
use Rattle.table.proofs.HolderCounts.{ReleasesFirst}
use Rattle.table.proofs.state.release_slots.Given as goal

abbrev pub invariant-loop-i : goal.invariant-loop-i
invariant-loop-i l = ReleasesFirst l.h.thread l.h.depth l.n l.i l.initial.s l.s

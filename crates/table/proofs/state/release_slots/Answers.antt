-- `table::state::release_slots` meets its contract: before turn i the values of the first i slots are let go.
use Rattle.std.proofs.Common.{◌≡◌, ◌%◌, refl, add-one, arith}
use Rattle.table.proofs.HolderCounts.{none_released, one_more_released, all_released}
use Rattle.table.proofs.state.release_slots.Goals as goal

pub loop-i-init : goal.loop-i-init
loop-i-init c = none_released _ _ _ _

pub release-requires : goal.release-requires
release-requires c = (omega arith, c.slot-v.ensures.value.1)

pub loop-i-preserved : goal.loop-i-preserved
loop-i-preserved c = rw (add-one c.loop-i.i) (one_more_released (omega arith) c.loop-i.invariant c.slot-v.ensures.sees c.release.ensures.counts)

pub returns : goal.returns
returns c =
    let all : c.loop-i.i ≡ c.slot_count.result % 17 = omega arith in all_released (rw all at c.loop-i.invariant) c.slot_count.ensures.sees refl

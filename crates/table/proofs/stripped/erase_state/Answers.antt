-- `table::stripped::erase_state` meets its contract: before turn o the first o objects are unsafe, and a run makes no more than 256.
use Rattle.std.proofs.Common.{◌≡◌, add-one, arith}
use Rattle.table.proofs.StrippedWords.{none_erased, one_object_more, all_erased}
use Rattle.table.proofs.stripped.erase_state.Goals as goal

pub loop-o-init : goal.loop-o-init
loop-o-init c = none_erased _

pub loop-o-preserved : goal.loop-o-preserved
loop-o-preserved c = rw (add-one c.loop-o.o) (one_object_more c.loop-o.invariant c.erase_object.ensures)

pub returns : goal.returns
returns c =
    let all : c.loop-o.o ≡ 256 = omega arith in all_erased (rw all at c.loop-o.invariant)

-- `table::stripped::erase_object` meets its contract: an object below the count has its capability in its first word.
use Rattle.std.proofs.Common.{refl, arith, rules}
use Rattle.table.proofs.StrippedWords.{object_erased, object_kept}
use Rattle.table.proofs.stripped.erase_object.Goals as goal

pub returns-then-o-object_count : goal.returns-then-o-object_count
returns-then-o-object_count c =
    let a = c.args in
    rw c.rank.ensures.value
    (record { becomes = λ S rest held any. object_erased held a.o _ (search rules) refl (omega (arith, c.object_count.ensures.sees.sees S rest held tt, c.if-o-object_count.true)) })

pub returns-else-o-object_count : goal.returns-else-o-object_count
returns-else-o-object_count c =
    let a = c.args in
    record { becomes = λ S rest held any. object_kept held a.o (omega (arith, c.object_count.ensures.sees.sees S rest held tt, c.if-o-object_count.false)) }

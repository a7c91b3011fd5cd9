-- `turn::copies::copy_from` meets its contract: what is met is numbered and checked as the rule does; where it passes each is copied.
use Rattle.std.proofs.Common.{◌≤◌, length, arith}
use lib.ListN.{replicate}
use lib.Seq.{length-take-le}
use Rattle.walk.proofs.Numbers.{few_unmet}
use Rattle.walk.proofs.FromNothing.{met_few}
use Rattle.turn.proofs.CopyLines.{from_foreign, from_used_up, from_copied}
use Rattle.std.proofs.Common.{rules}
use Rattle.turn.proofs.copies.copy_from.Goals as goal

pub walk-count-requires : goal.walk-count-requires
walk-count-requires c = (search rules, search rules, search rules, c.requires.2, omega (arith, few_unmet 256 (replicate 256 0)))

pub slice_bounds-order-end : goal.slice_bounds-order-end
slice_bounds-order-end c = omega (arith, met_few c.walk-count.ensures.grows)

pub slice_bounds-any_foreign_met-end : goal.slice_bounds-any_foreign_met-end
slice_bounds-any_foreign_met-end c =
    let few : c.walk-count.result ≤ length c.walk-count.new.order = omega (arith, met_few c.walk-count.ensures.grows) in
    omega (arith, length-take-le c.walk-count.result c.walk-count.new.order few)

pub overflow_add-used_up : goal.overflow_add-used_up
overflow_add-used_up c =
    omega (arith, met_few c.walk-count.ensures.grows)

pub returns-then-foreign : goal.returns-then-foreign
returns-then-foreign c =
    rw c.from.ensures (from_foreign c.walk-count.ensures.walks _ _ c.any_foreign_met-foreign.ensures c.object_count-first.ensures.sees c.if-foreign.true)

pub returns-then-used_up : goal.returns-then-used_up
returns-then-used_up c =
    from_used_up c.walk-count.ensures.walks _ _ c.any_foreign_met-foreign.ensures c.object_count-first.ensures.sees c.if-foreign.false
    c.if-used_up.true

pub returns : goal.returns
returns c =
    from_copied c.walk-count.ensures.walks _ _ c.any_foreign_met-foreign.ensures c.object_count-first.ensures.sees c.if-foreign.false
    c.if-used_up.false c.add_all.ensures

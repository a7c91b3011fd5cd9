-- Before turn n the lines before n are counted.
use Rattle.std.proofs.Common.{arith}
use Rattle.sheet.proofs.CapLaws.{is_cap, is_no_cap, counted_none, counted_one, counted_other, counted_all}
use Rattle.sheet.proofs.cap_lines.count_making.Goals.{then-eq, else-eq}
use Rattle.sheet.proofs.cap_lines.count_making.Goals as goal

pub loop-n-init : goal.loop-n-init
loop-n-init c = counted_none _ _

pub loop-n-preserved : goal.loop-n-preserved
loop-n-preserved c =
    elim c.if-eq.branch [
      | then-eq w ↦ rw w.count-is (counted_one c.cap_made.ensures c.loop-n.invariant (is_cap _ _ c.eq.ensures w.if-eq.true))
      | else-eq w ↦ rw w.count-is (counted_other c.cap_made.ensures c.loop-n.invariant (is_no_cap _ _ c.eq.ensures w.if-eq.false))
    ]

pub overflow_add-count : goal.overflow_add-count
overflow_add-count c = omega (arith, c.loop-n.invariant.few, c.loop-n-test.true, c.min-n-end.ensures)

pub returns : goal.returns
returns c = counted_all c.loop-n.invariant c.line_count.ensures.line_count (omega (arith, c.loop-n.auto.n-end, c.loop-n-test.false, c.min-n-end.ensures))

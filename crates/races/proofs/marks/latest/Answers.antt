-- `races::marks::latest` meets its contract: what is kept is the latest of the threads so far.
use Rattle.std.proofs.Common.{refl, ◌∙◌}
use Rattle.races.specs.Marks.{latest_in}
use Rattle.races.proofs.MarkSteps.{latest_skips, latest_next}
use Rattle.races.proofs.marks.latest.Goals as goal
use Rattle.races.proofs.marks.latest.Goals.{then-u-t, else-u-t}

pub loop-u-init : goal.loop-u-init
unfolding latest_in
loop-u-init c = refl

pub loop-u-preserved : goal.loop-u-preserved
loop-u-preserved c =
    let a = c.args in
    elim c.if-u-t.branch [
      | then-u-t w ↦ w.last-is ∙ latest_next a.rows.now.last a.rows.now.puts a.a a.q a.t c.loop-u.u w.if-u-t.true c.loop-u.invariant w.unhanded.ensures w.max-last.ensures
      | else-u-t w ↦ w.last-is ∙ latest_skips a.rows.now.last a.rows.now.puts a.a a.q a.t c.loop-u.u w.if-u-t.false c.loop-u.invariant
    ]

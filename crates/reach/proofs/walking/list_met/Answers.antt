-- `reach::walking::list_met` meets its contract: before turn i the objects below i that are met stand in the list.
use Rattle.reach.proofs.Listed.{all_cleared, none_listed, number_met, number_not_met, all_listed}
use Rattle.reach.proofs.walking.list_met.Goals as goal
use Rattle.reach.proofs.walking.list_met.Goals.{then-places-i-ne0, else-places-i-ne0}

pub loop-i-init : goal.loop-i-init
loop-i-init c = none_listed c.args.list.now (all_cleared c.args.list.now c.fill.new.self c.requires.1 (c.fill.ensures.after (λ y e. e)))

pub loop-i-preserved : goal.loop-i-preserved
loop-i-preserved c =
    elim c.if-places-i-ne0.branch [
      | then-places-i-ne0 w ↦ number_met c.loop-i.invariant c.loop-i-test.true w.if-places-i-ne0.true w.n-is w.list-is
      | else-places-i-ne0 w ↦ number_not_met c.loop-i.invariant c.loop-i-test.true w.if-places-i-ne0.false w.n-is w.list-is
    ]

pub returns-clause-list_after : goal.returns-clause-list_after
returns-clause-list_after c =
    (all_listed c.args.list.now (all_cleared c.args.list.now c.fill.new.self c.requires.1 (c.fill.ensures.after (λ y e. e))) c.loop-i-test.false c.loop-i.auto.i-end c.loop-i.invariant).1

-- Before turn i the counts are those of the turns before it, and the rules' own tally goes on from them.
use native.Mathlib.Omega.{arith}
use mathlib.Core.Path.{refl, sym, ◌∙◌}
use Rattle.tally.proofs.CountLaws.{low_most, none_counted_lem, counts_one, counts_stop, all_counted, equals_halted}
use Rattle.tally.proofs.count_played.Goals as goal

pub loop-i-init : goal.loop-i-init
loop-i-init c = none_counted_lem c.args.p.now c.args.s.now c.args.turns.now c.args.counts.now c.requires.3

pub count-requires : goal.count-requires
count-requires c =
    (c.loop-i.invariant.wide, low_most c.loop-i.i c.loop-i.counts (omega (arith, c.loop-i.invariant.within, c.requires.2)) c.loop-i.invariant.low)

pub returns-then-eq : goal.returns-then-eq
returns-then-eq c =
    rw c.count.ensures
    (counts_stop c.loop-i.invariant c.loop-i-test.true c.requires.2 refl c.take_turn-fate.ensures (sym (equals_halted c.take_turn-fate.result) ∙ sym c.eq.ensures ∙ c.if-eq.true))

pub loop-i-preserved : goal.loop-i-preserved
loop-i-preserved c =
    rw c.count.ensures
    (counts_one c.loop-i.invariant c.loop-i-test.true c.requires.2 refl c.take_turn-fate.ensures c.take_turn-fate.auto.s (sym (equals_halted c.take_turn-fate.result) ∙ sym c.eq.ensures ∙ c.if-eq.false))

pub returns : goal.returns
returns c = all_counted c.loop-i.invariant (omega (arith, c.loop-i-test.false)) (omega (arith, c.loop-i.invariant.within, c.loop-i-test.false))

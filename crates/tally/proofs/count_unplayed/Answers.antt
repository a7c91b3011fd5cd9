-- The turns after the stop that were gone over are counted.
use Prim.Native.Nat.{ℕ, ◌+◌, ◌-◌}
use native.Mathlib.Omega.{arith}
use mathlib.Core.Path.{◌≡◌, refl, sym, ap, ◌∙◌, subst}
use lib.ListN.{length, take, drop, get_or}
use Rattle.tally.specs.declared.Fate.TheVariants.{Unplayed}
use Rattle.tally.specs.Fates.{count_at, raise}
use Rattle.tally.specs.Counted.{Low, unplayed_from}
use Rattle.tally.proofs.CountLaws.{raise_low, raise_length, unplayed_one, unplayed_none, turns_behind}
use Rattle.tally.proofs.count_unplayed.Goals as goal

pub loop-turn-preserved : goal.loop-turn-preserved
loop-turn-preserved c =
    let so_far = c.loop-turn.invariant in
    let i = c.loop-turn.turn-index in
    let n = c.args.from + 1 + i in
    let rest = take (length c.args.turns.now - c.min.result) (drop c.min.result c.args.turns.now) in
    let t = get_or rest i 0 in
    let at = count_at t Unplayed in
    let one_more : n + 1 ≡ c.args.from + 1 + (i + 1) = omega arith in
    rw c.count.ensures (record {
      low = subst (λ (k : ℕ). Low k (raise c.loop-turn.counts at)) one_more (raise_low c.loop-turn.counts at n so_far.low);
      wide = raise_length c.loop-turn.counts at ∙ so_far.wide;
      counted = so_far.counted ∙ unplayed_one rest c.loop-turn.counts i t c.loop-turn-test.true refl;
    })

pub returns : goal.returns
returns c =
    let so_far = c.loop-turn.invariant in
    let rest = take (length c.args.turns.now - c.min.result) (drop c.min.result c.args.turns.now) in
    sym (ap (unplayed_from c.args.counts.now) (sym (turns_behind c.args.turns.now (c.args.from + 1) c.min.result c.min.ensures)) ∙ so_far.counted
    ∙ unplayed_none rest c.loop-turn.counts c.loop-turn.turn-index (omega (arith, c.loop-turn-test.false)))

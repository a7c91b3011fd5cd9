-- `turn::copies::hold_all` meets its contract: each value is held, one after the other.
use Rattle.std.proofs.Common.{arith}
use Rattle.turn.proofs.CopiesMade.{none_held, one_more_held, all_held}
use Rattle.turn.proofs.copies.hold_all.Goals as goal

pub loop-v-init : goal.loop-v-init
loop-v-init c = none_held _ c.args.values

pub loop-v-preserved : goal.loop-v-preserved
loop-v-preserved c = one_more_held c.args.values c.loop-v.v-index (omega arith) c.loop-v.invariant c.hold.ensures.counts

pub returns : goal.returns
returns c = all_held c.args.values c.loop-v.v-index (omega arith) c.loop-v.invariant

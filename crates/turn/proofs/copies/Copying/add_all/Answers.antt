-- `turn::copies::Copying::add_all` meets its contract: each turn adds the copy of one object to those of the objects before.
use Rattle.std.proofs.Common.{arith}
use Rattle.turn.proofs.CopiesMade.{none_copied, one_more_copied, all_are_copied}
use Rattle.turn.proofs.copies.Copying.add_all.Goals as goal

pub loop-i-init : goal.loop-i-init
loop-i-init c =
    let self = c.args.self.now in
    none_copied _ self.creator self.cap self.first self.places.now c.args.order.now

pub loop-i-preserved : goal.loop-i-preserved
loop-i-preserved c =
    let self = c.args.self.now in
    one_more_copied c.args.order.now c.loop-i.i (omega arith) self.creator self.places.now self.first (omega arith) c.loop-i.invariant c.add_one.ensures

pub returns : goal.returns
returns c = all_are_copied c.args.order.now c.loop-i.i (omega arith) c.loop-i.invariant

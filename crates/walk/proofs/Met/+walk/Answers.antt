-- A value that is no object, or one that is met, adds nothing; an object that is not gets the next number, and its fields are walked in order.
use Rattle.std.proofs.Common.{◌+◌, length-set, arith}
use Rattle.rules.specs.State.{object_at}
use Rattle.walk.proofs.Numbers.{unmet_fits, same_tally, one_met, grows_then, same_lists, lists_then}
use Rattle.walk.proofs.WalkSteps.{field_seen, row_begins, row_next, other_stays, met_stays, object_walked}
use Rattle.walk.proofs.Met.+walk.Goals as goal

pub invariant_of-self : goal.invariant_of-self
invariant_of-self t c =
    let m = c.args.self.now in
    let met = one_met (unmet_fits m c.in-Obj.is c.requires.1 c.if-self-o-eq0.true) c.if-self-o-eq0.true in
    record { places_long = omega (arith, length-set m.places.now c.in-Obj.o (m.count + 1)); order_long = m.order_long; room = omega (arith, met.room) }

pub bounds-self-self : goal.bounds-self-self
bounds-self-self t c = (unmet_fits c.args.self.now c.in-Obj.is c.requires.1 c.if-self-o-eq0.true).room

pub invariant_of-self-then-self-o-eq0 : goal.invariant_of-self-then-self-o-eq0
invariant_of-self-then-self-o-eq0 t c =
    let m = c.args.self.now in
    let met = one_met (unmet_fits m c.in-Obj.is c.requires.1 c.if-self-o-eq0.true) c.if-self-o-eq0.true in
    record {
      places_long = omega (arith, length-set m.places.now c.in-Obj.o (m.count + 1));
      order_long = omega (arith, length-set m.order.now m.count c.in-Obj.o);
      room = omega (arith, met.room);
    }

pub loop-j-init : goal.loop-j-init
loop-j-init t c = record { walked = row_begins (λ S. (object_at S.objects c.in-Obj.o).fields); grown = same_tally; same_lists = same_lists }

pub walk-requires : goal.walk-requires
walk-requires t c =
    let met = one_met (unmet_fits c.args.self.now c.in-Obj.is c.requires.1 c.if-self-o-eq0.true) c.if-self-o-eq0.true in
    let grown = c.loop-j.invariant.grown in (omega (arith, met.room, grown.more, grown.room, c.decreases), (c.requires.0, c.field.ensures.in_table))

pub loop-j-preserved : goal.loop-j-preserved
loop-j-preserved t c = record {
  walked = row_next (λ S. (object_at S.objects c.in-Obj.o).fields) c.loop-j.j (field_seen c.in-Obj.o c.loop-j.j c.field.ensures.sees) c.loop-j.invariant.walked c.walk.ensures.walks;
  grown = grows_then c.loop-j.invariant.grown c.walk.ensures.grows;
  same_lists = lists_then c.loop-j.invariant.same_lists c.walk.ensures.same_lists;
}

pub returns-after-loop-j-clause-walks : goal.returns-after-loop-j-clause-walks
returns-after-loop-j-clause-walks t c =
    object_walked c.in-Obj.o c.loop-j.j c.in-Obj.is (unmet_fits c.args.self.now c.in-Obj.is c.requires.1 c.if-self-o-eq0.true) c.if-self-o-eq0.true (omega arith) c.loop-j.invariant.walked

pub returns-after-loop-j-clause-grows : goal.returns-after-loop-j-clause-grows
returns-after-loop-j-clause-grows t c =
    grows_then (one_met (unmet_fits c.args.self.now c.in-Obj.is c.requires.1 c.if-self-o-eq0.true) c.if-self-o-eq0.true) c.loop-j.invariant.grown

pub returns-else-self-o-eq0-clause-walks : goal.returns-else-self-o-eq0-clause-walks
returns-else-self-o-eq0-clause-walks t c = met_stays _ c.in-Obj.is c.if-self-o-eq0.false

pub returns-in_default : goal.returns-in_default
returns-in_default t c = record { walks = other_stays c.in_default.not-Obj; grows = same_tally; same_lists = same_lists }

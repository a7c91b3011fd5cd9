-- `listing::state_lines::put_slots` meets its contract: before turn i the first i slots are written.
use Rattle.std.proofs.Common.{rules}
use Rattle.listing.proofs.StateRows.{no_slot_yet, slot_after, all_slots}
use Rattle.listing.proofs.state_lines.put_slots.Goals as goal

pub loop-i-init : goal.loop-i-init
loop-i-init c = no_slot_yet c.args.t c.args.k (search rules)

pub loop-i-preserved : goal.loop-i-preserved
loop-i-preserved c =
    slot_after c.args.t c.args.k c.slot_count.ensures.sees c.loop-i.i c.loop-i-test.true c.loop-i.invariant c.frame_slot.ensures.sees
    c.put_value.ensures

pub returns : goal.returns
returns c = all_slots c.args.t c.args.k c.slot_count.ensures.sees c.loop-i.i (search rules) c.loop-i-test.false c.loop-i.invariant

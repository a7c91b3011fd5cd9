-- `listing::state_lines::put_channels` meets its contract: before turn c the lines of the channels below c are written.
use Rattle.std.proofs.Common.{arith, rules}
use Rattle.listing.proofs.StateRows.{no_channel_yet, channel_after, all_channels}
use Rattle.listing.proofs.state_lines.put_channels.Goals as goal

pub loop-c-init : goal.loop-c-init
loop-c-init c = record { few = search rules; written = no_channel_yet (search rules) }

pub loop-c-preserved : goal.loop-c-preserved
loop-c-preserved c =
    record {
      few = omega arith;
      written = channel_after c.thread_count-c-end.ensures.sees c.loop-c.c (search rules) c.loop-c-test.true c.loop-c.invariant.written c.put_channel.ensures;
    }

pub returns : goal.returns
returns c = all_channels c.thread_count-c-end.ensures.sees c.loop-c.c c.loop-c.invariant.few c.loop-c-test.false c.loop-c.invariant.written

-- `listing::state_lines::put_threads` meets its contract: before turn t the lines of the threads below t are written.
use Rattle.std.proofs.Common.{rules}
use Rattle.listing.proofs.StateRows.{no_thread_yet, thread_after, all_threads}
use Rattle.listing.proofs.state_lines.put_threads.Goals as goal

pub loop-t-init : goal.loop-t-init
loop-t-init c = no_thread_yet (search rules)

pub loop-t-preserved : goal.loop-t-preserved
loop-t-preserved c = thread_after c.thread_count.ensures.sees c.loop-t.t c.loop-t-test.true c.loop-t.invariant c.put_thread.ensures

pub returns : goal.returns
returns c = all_threads c.thread_count.ensures.sees c.loop-t.t (search rules) c.loop-t-test.false c.loop-t.invariant

-- `listing::state_lines::put_thread` meets its contract: a thread without frames is finished; otherwise the last frame is its innermost.
use Rattle.std.proofs.Common.{arith, refl}
use Rattle.listing.proofs.StateTexts.{fixed, ◌▹◌}
use Rattle.listing.proofs.StateRows.{finished_thread, running_thread}
use Rattle.listing.proofs.state_lines.put_thread.Goals as goal

pub returns-then-n-eq0 : goal.returns-then-n-eq0
returns-then-n-eq0 c =
    finished_thread c.args.t
    c.frame_count-n.ensures.sees (omega arith) c.if-n-eq0.true
    (fixed c.put_text.ensures ▹ fixed c.put_number.ensures ▹ fixed c.put_text-then-n-eq0.ensures)

pub returns : goal.returns
returns c =
    running_thread c.args.t c.frame_count-n.ensures.sees _ refl c.if-n-eq0.false
    (fixed c.put_text.ensures ▹ fixed c.put_number.ensures ▹ c.put_sender.ensures) c.put_frame.ensures c.put_text-2.ensures

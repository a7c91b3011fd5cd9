-- `listing::state_lines::put_sender` meets its contract: the word 0 is ready, any other a message waited for.
use Rattle.listing.proofs.StateRows.{ready_seen, waiting_seen}
use Rattle.listing.proofs.state_lines.put_sender.Goals as goal

pub returns-then-sender-eq0 : goal.returns-then-sender-eq0
returns-then-sender-eq0 c =
    ready_seen c.args.t c.sender.ensures.sees c.if-sender-eq0.true c.put_text.ensures

pub returns-else-sender-eq0 : goal.returns-else-sender-eq0
returns-else-sender-eq0 c =
    waiting_seen c.args.t c.sender.ensures.sees c.if-sender-eq0.false c.put_text-else-sender-eq0.ensures

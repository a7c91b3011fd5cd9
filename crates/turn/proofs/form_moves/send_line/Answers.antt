-- `turn::form_moves::send_line` meets its contract: the sender's word says whether the thread puts the message or has put it.
use Rattle.turn.proofs.SendLines.{send_ready, send_waiting}
use Rattle.turn.proofs.form_moves.send_line.Goals as goal

pub returns-then-d-eq0 : goal.returns-then-d-eq0
returns-then-d-eq0 c = send_ready c.sender-d.ensures.sees c.if-d-eq0.true c.put_line.ensures

pub returns : goal.returns
returns c = send_waiting c.sender-d.ensures.sees (c.sent_line.ensures.performs _)

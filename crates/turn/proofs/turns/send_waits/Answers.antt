-- `turn::turns::send_waits` meets its contract: the sender's word says which check is the line's; it waits where the check does.
use Rattle.turn.proofs.Waiting.{put_waits, sent_waits}
use Rattle.turn.proofs.turns.send_waits.Goals as goal

pub returns-then-d-eq0 : goal.returns-then-d-eq0
returns-then-d-eq0 c = put_waits c.put_check.result c.eq.ensures c.sender-d.ensures.sees _ _ c.if-d-eq0.true c.put_check.ensures

pub returns : goal.returns
returns c =
    sent_waits c.sent_check.result c.eq-2.ensures c.sender-d.ensures.sees _ c.args.w c.if-d-eq0.false c.sent_check.ensures

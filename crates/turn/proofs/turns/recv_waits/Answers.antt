-- `turn::turns::recv_waits` meets its contract: the check is the line's; it waits where the check does.
use Rattle.turn.proofs.Waiting.{recv_waits}
use Rattle.turn.proofs.turns.recv_waits.Goals as goal

pub returns : goal.returns
returns c = recv_waits c.recv_check.result c.eq.ensures _ c.recv_check.ensures

-- `listing::answers::put_answer` meets its contract: each answer has its own line.
use Rattle.std.proofs.Common.{arith}
use Rattle.buffer.proofs.Outputs.{same_text}
use Rattle.listing.proofs.LineTexts.{finished_end, stuck_end, open_end_lem}
use Rattle.listing.proofs.answers.put_answer.Goals as goal

pub returns-in-Finished : goal.returns-in-Finished
returns-in-Finished c = rw c.in-Finished.is (same_text 40 (finished_end c.in-Finished.moves) (omega arith) c.put_ended.ensures)

pub returns-in-Stuck : goal.returns-in-Stuck
returns-in-Stuck c = rw c.in-Stuck.is (same_text 40 (stuck_end c.in-Stuck.moves) (omega arith) c.put_ended-in-Stuck.ensures)

pub returns-in-Open : goal.returns-in-Open
returns-in-Open c = rw c.in-Open.is (same_text 40 (open_end_lem c.in-Open.moves) (omega arith) c.put_ended-in-Open.ensures)

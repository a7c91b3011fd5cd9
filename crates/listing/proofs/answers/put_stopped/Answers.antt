-- `listing::answers::put_stopped` meets its contract: the parts of its line, one after the other.
use Rattle.std.proofs.Common.{arith}
use Rattle.buffer.proofs.Outputs.{◌▹◌, same_text}
use Rattle.listing.proofs.LineTexts.{stopped_line}
use Rattle.listing.proofs.answers.put_stopped.Goals as goal

pub returns : goal.returns
returns c =
    let a = c.args in
    same_text 40 (stopped_line a.number a.thread a.block a.line a.moves) (omega arith)
    (c.put_text.ensures ▹ c.put_number.ensures ▹ c.put_number-2.ensures ▹ c.put_number-3.ensures ▹ c.put_number-4.ensures ▹ c.put_number-5.ensures
    ▹ c.put_text-2.ensures)

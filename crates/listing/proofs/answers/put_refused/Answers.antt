-- `listing::answers::put_refused` meets its contract: the parts of its line, one after the other.
use Rattle.std.proofs.Common.{arith}
use Rattle.buffer.proofs.Outputs.{◌▹◌, same_text}
use Rattle.listing.proofs.LineTexts.{refused_line}
use Rattle.listing.proofs.answers.put_refused.Goals as goal

pub returns : goal.returns
returns c =
    same_text 22 (refused_line c.args.number c.args.line) (omega arith)
    (c.put_text.ensures ▹ c.put_number.ensures ▹ c.put_number-2.ensures ▹ c.put_text-2.ensures)

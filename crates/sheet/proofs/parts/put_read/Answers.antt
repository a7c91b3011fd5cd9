-- The title, and the number of lines that the table has.
use Rattle.std.proofs.Common.{refl, arith}
use Rattle.buffer.proofs.Outputs.{◌▹◌, same_text}
use Rattle.sheet.proofs.PartLaws.{reads_program}
use Rattle.sheet.proofs.parts.put_read.Goals as goal

pub returns : goal.returns
returns c =
    reads_program c.line_count.ensures.line_count c.first_number.ensures
    (same_text 63 refl (omega arith) (c.put_tick.ensures ▹ c.put_text.ensures ▹ c.put_number.ensures ▹ c.put_text-2.ensures))

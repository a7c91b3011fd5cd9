-- `writer::script_lines::put_new` meets its contract: the parts of its line, one after the other.
use Rattle.std.proofs.Common.{arith, refl}
use Rattle.buffer.proofs.Outputs.{◌▹◌, same_text}
use Rattle.writer.proofs.script_lines.put_new.Goals as goal

pub returns : goal.returns
returns c =
    same_text 77 refl (omega arith)
    (c.put_text.ensures ▹ rw c.from.ensures at c.put_cap.ensures ▹ c.put_number.ensures ▹ c.put_items.ensures ▹ c.put_text-2.ensures)

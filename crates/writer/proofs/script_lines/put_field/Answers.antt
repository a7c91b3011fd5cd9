-- `writer::script_lines::put_field` meets its contract: the parts of its line, one after the other.
use Rattle.std.proofs.Common.{arith, refl}
use Rattle.buffer.proofs.Outputs.{◌▹◌, same_text}
use Rattle.writer.proofs.script_lines.put_field.Goals as goal

pub returns : goal.returns
returns c = same_text 26 refl (omega arith) (c.put_text.ensures ▹ c.put_number.ensures ▹ c.put_number-2.ensures ▹ c.put_text-2.ensures)

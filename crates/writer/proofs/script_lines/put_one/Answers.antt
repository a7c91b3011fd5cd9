-- `writer::script_lines::put_one` meets its contract: the parts of its line, one after the other.
use Rattle.std.proofs.Common.{refl, rules}
use Rattle.buffer.proofs.Outputs.{◌▹◌, same_text}
use Rattle.writer.proofs.script_lines.put_one.Goals as goal

pub returns : goal.returns
returns c = same_text 20 refl (search rules) (c.put_text.ensures ▹ c.put_number.ensures ▹ c.put_text-2.ensures)

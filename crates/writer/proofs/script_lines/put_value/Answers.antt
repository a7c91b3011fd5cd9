-- `writer::script_lines::put_value` meets its contract: the parts of its line, one after the other.
use Rattle.std.proofs.Common.{refl, rules}
use Rattle.buffer.proofs.Outputs.{◌▹◌, same_text}
use Rattle.writer.proofs.script_lines.put_value.Goals as goal

pub returns : goal.returns
returns c = same_text 26 refl (search rules) (c.put_text.ensures ▹ c.put_operand.ensures ▹ c.put_text-2.ensures)

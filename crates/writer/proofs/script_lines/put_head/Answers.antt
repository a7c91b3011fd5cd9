-- `writer::script_lines::put_head` meets its contract: what the edition's word says.
use Rattle.std.proofs.Common.{arith, rules}
use Rattle.buffer.proofs.Outputs.{nothing, same_text}
use Rattle.writer.proofs.Texts.{head_text_lem, no_head_text}
use Rattle.writer.proofs.script_lines.put_head.Goals as goal

pub returns-then-edition-eq2 : goal.returns-then-edition-eq2
returns-then-edition-eq2 c = same_text 11 (head_text_lem _ c.if-edition-eq2.true) (omega arith) c.put_text.ensures

pub returns-else-edition-eq2 : goal.returns-else-edition-eq2
returns-else-edition-eq2 c = same_text 11 (no_head_text _ c.if-edition-eq2.false) (omega arith) (nothing 11 (search rules))

-- `writer::script_lines::put_operand` meets its contract: an odd word takes, an even one reads, and half of it is the slot.
use Rattle.std.proofs.Common.{arith}
use Rattle.buffer.proofs.Outputs.{◌▹◌, same_text}
use Rattle.writer.proofs.Texts.{taken_operand, read_operand}
use Rattle.writer.proofs.script_lines.put_operand.Goals as goal
use Rattle.writer.proofs.script_lines.put_operand.Goals.{then-w-eq1, else-w-eq1}

pub returns : goal.returns
returns c =
    elim c.if-w-eq1.branch [
      | then-w-eq1 w ↦
          same_text 13 (taken_operand _ w.if-w-eq1.true) (omega arith)
          (rw w.word-is at c.put_text.ensures ▹ c.put_number.ensures ▹ c.put_byte.ensures)
      | else-w-eq1 w ↦
          same_text 13 (read_operand _ w.if-w-eq1.false) (omega arith)
          (rw w.word-is at c.put_text.ensures ▹ c.put_number.ensures ▹ c.put_byte.ensures)
    ]

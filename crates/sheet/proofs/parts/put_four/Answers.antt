-- The title, both answers and the comparison.
use Rattle.std.proofs.Common.{refl, arith}
use Rattle.buffer.proofs.Outputs.{◌▹◌, same_text}
use Rattle.sheet.specs.SheetText.{four_text}
use Rattle.sheet.proofs.parts.put_four.Goals as goal

pub returns : goal.returns
unfolding four_text
returns c =
    same_text 230 refl (omega arith)
    (c.put_tick.ensures ▹ c.put_text.ensures ▹ rw c.from.ensures at c.put_answer.ensures ▹ c.put_text-2.ensures ▹ rw c.from-2.ensures at c.put_answer-2.ensures
    ▹ c.put_compared.ensures)

-- Each count before its word.
use Rattle.std.proofs.Common.{refl, arith}
use Rattle.buffer.proofs.Outputs.{◌▹◌, same_text}
use Rattle.sheet.specs.SheetText.{halted_text}
use Rattle.sheet.proofs.rows.put_halted.Goals as goal

pub returns : goal.returns
unfolding halted_text
returns c = same_text 33 refl (omega arith) (c.put_number.ensures ▹ c.put_text.ensures ▹ c.put_number-2.ensures ▹ c.put_text-2.ensures)

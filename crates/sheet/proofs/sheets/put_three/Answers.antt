-- The title, the number of turns and the rows.
use Rattle.std.proofs.Common.{refl, arith}
use Rattle.buffer.proofs.Outputs.{◌▹◌, same_text}
use Rattle.sheet.specs.SheetText.{three_text}
use Rattle.sheet.proofs.sheets.put_three.Goals as goal

pub returns : goal.returns
unfolding three_text
returns c = same_text 1644 refl (omega arith) (c.put_tick.ensures ▹ c.put_turn_count.ensures ▹ c.put_rows.ensures)

-- Each count before its word.
use Rattle.std.proofs.Common.{refl, arith}
use Rattle.buffer.proofs.Outputs.{◌▹◌, same_text}
use Rattle.sheet.specs.SheetText.{played_text}
use Rattle.sheet.proofs.rows.put_played.Goals as goal

pub returns : goal.returns
unfolding played_text
returns c = same_text 40 refl (omega arith) (c.put_text.ensures ▹ c.put_number.ensures ▹ c.put_text-2.ensures ▹ c.put_number-2.ensures ▹ c.put_text-3.ensures ▹ c.put_number-3.ensures ▹ c.put_text-4.ensures)

-- The word, and then the number.
use Rattle.std.proofs.Common.{refl, arith}
use Rattle.buffer.proofs.Outputs.{◌▹◌, same_text}
use Rattle.sheet.proofs.parts.put_count.Goals as goal

pub returns : goal.returns
returns c = same_text 41 refl (omega (arith, c.requires.1)) (c.put_text.ensures ▹ c.put_number.ensures)

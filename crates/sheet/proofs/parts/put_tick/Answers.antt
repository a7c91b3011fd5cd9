-- The mark, and then the title.
use Rattle.std.proofs.Common.{refl, arith}
use Rattle.buffer.proofs.Outputs.{◌▹◌, same_text}
use Rattle.sheet.proofs.parts.put_tick.Goals as goal

pub returns : goal.returns
returns c = same_text 44 refl (omega (arith, c.requires.1)) (c.put_mark.ensures ▹ c.put_text.ensures)

-- The mark, the title and two words.
use Rattle.std.proofs.Common.{refl, arith}
use Rattle.buffer.proofs.Outputs.{◌▹◌, same_text}
use Rattle.sheet.proofs.parts.put_unexamined.Goals as goal

pub returns : goal.returns
returns c = same_text 64 refl (omega (arith, c.requires.1)) (c.put_mark.ensures ▹ c.put_text.ensures ▹ c.put_text-2.ensures)

-- The number between two words.
use Rattle.std.proofs.Common.{refl, arith}
use Rattle.buffer.proofs.Outputs.{◌▹◌, same_text}
use Rattle.sheet.proofs.parts.put_turn_count.Goals as goal

pub returns : goal.returns
returns c = same_text 19 refl (omega arith) (c.put_text.ensures ▹ c.put_number.ensures ▹ c.put_text-2.ensures)

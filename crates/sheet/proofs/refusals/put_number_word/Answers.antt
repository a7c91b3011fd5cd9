-- The number, and then its word.
use Rattle.std.proofs.Common.{refl, arith}
use Rattle.buffer.proofs.Outputs.{◌▹◌, same_text}
use Rattle.sheet.proofs.refusals.put_number_word.Goals as goal

pub returns : goal.returns
returns c = same_text 18 (rw (c.number.ensures, c.word.ensures.0) refl) (omega (arith, c.word.ensures.1)) (c.put_number.ensures ▹ c.put_text.ensures)

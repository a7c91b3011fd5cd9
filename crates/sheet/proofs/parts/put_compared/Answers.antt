-- The words, the number and a word.
use Rattle.std.proofs.Common.{refl, arith}
use Rattle.buffer.proofs.Outputs.{◌▹◌, same_text}
use Rattle.sheet.specs.SheetText.{compared_text}
use Rattle.sheet.proofs.parts.put_compared.Goals as goal

pub returns : goal.returns
unfolding compared_text
returns c = same_text 62 refl (omega arith) (c.put_words.ensures ▹ c.put_number.ensures ▹ c.put_text.ensures)

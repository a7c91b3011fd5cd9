-- The number between two words.
use Rattle.std.proofs.Common.{refl, arith}
use Rattle.buffer.proofs.Outputs.{◌▹◌, same_text}
use Rattle.sheet.proofs.refusals.put_editor_line.Goals as goal

pub returns : goal.returns
returns c = rw (← c.editor_line.ensures) (same_text 26 refl (omega arith) (c.put_text.ensures ▹ c.put_number.ensures ▹ c.put_text-2.ensures))

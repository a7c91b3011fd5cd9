-- The fourth condition, and the verdict.
use Rattle.std.proofs.Common.{refl, arith}
use Rattle.buffer.proofs.Outputs.{◌▹◌, same_text}
use Rattle.sheet.proofs.sheets.put_last.Goals as goal

pub returns : goal.returns
returns c = same_text 270 refl (omega arith) (c.put_four.ensures ▹ c.put_verdict.ensures)

-- What was not looked at, and the verdict.
use Rattle.std.proofs.Common.{refl, arith}
use Rattle.buffer.proofs.Outputs.{◌▹◌, same_text}
use Rattle.sheet.specs.SheetText.{unread_end}
use Rattle.sheet.proofs.sheets.put_unread.Goals as goal

pub returns : goal.returns
unfolding unread_end
returns c = same_text 232 refl (omega arith) (c.put_unexamined.ensures ▹ c.put_unexamined-2.ensures ▹ c.put_unexamined-3.ensures ▹ c.put_verdict.ensures)

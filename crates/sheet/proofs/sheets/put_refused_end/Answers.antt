-- What follows a refused script.
use Rattle.std.proofs.Common.{refl, arith}
use Rattle.buffer.proofs.Outputs.{◌▹◌, same_text}
use Rattle.sheet.specs.SheetText.{refused_end}
use Rattle.sheet.proofs.sheets.put_refused_end.Goals as goal

pub returns : goal.returns
unfolding refused_end
returns c = same_text 231 refl (omega arith) (c.put_unexamined.ensures ▹ c.put_tick.ensures ▹ c.put_turn_count.ensures ▹ c.put_unexamined-2.ensures ▹ c.put_verdict.ensures)

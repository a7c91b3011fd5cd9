-- The third condition's refusal, and what follows.
use Rattle.std.proofs.Common.{refl, arith}
use Rattle.buffer.proofs.Outputs.{◌▹◌, same_text}
use Rattle.sheet.specs.SheetText.{faulty_end}
use Rattle.sheet.proofs.sheets.put_faulty_end.Goals as goal

pub returns : goal.returns
unfolding faulty_end
returns c = same_text 550 refl (omega arith) (c.put_tick.ensures ▹ c.put_turns_refusal.ensures ▹ c.put_unexamined.ensures ▹ c.put_verdict.ensures)

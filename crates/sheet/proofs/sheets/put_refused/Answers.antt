-- The title, and the refusal.
use Rattle.std.proofs.Common.{refl, arith}
use Rattle.buffer.proofs.Outputs.{◌▹◌, same_text}
use Rattle.sheet.specs.SheetText.{part_one}
use Rattle.sheet.proofs.sheets.put_refused.Goals as goal

pub returns : goal.returns
unfolding part_one
returns c = same_text 446 refl (omega arith) (c.put_tick.ensures ▹ c.put_script_refusal.ensures)

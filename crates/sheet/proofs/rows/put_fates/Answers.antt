-- The counts of turns that were played, and of those that were not.
use Rattle.std.proofs.Common.{refl, arith}
use Rattle.buffer.proofs.Outputs.{◌▹◌, same_text}
use Rattle.sheet.specs.SheetText.{fates_text}
use Rattle.sheet.proofs.rows.put_fates.Goals as goal

pub returns : goal.returns
unfolding fates_text
returns c = same_text 73 refl (omega arith) (c.put_played.ensures ▹ c.put_halted.ensures)

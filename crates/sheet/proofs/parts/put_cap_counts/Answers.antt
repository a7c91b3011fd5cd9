-- The four counts, one after the other.
use Rattle.std.proofs.Common.{refl, arith}
use Rattle.buffer.proofs.Outputs.{◌▹◌, same_text}
use Rattle.sheet.specs.SheetText.{cap_text}
use Rattle.sheet.proofs.PartLaws.{counts_program}
use Rattle.sheet.proofs.parts.put_cap_counts.Goals as goal

pub returns : goal.returns
unfolding cap_text
returns c =
    counts_program c.count_making.ensures c.count_making-2.ensures c.count_making-3.ensures c.count_making-4.ensures
    (same_text 165 refl (omega arith) (c.put_count.ensures ▹ c.put_count-2.ensures ▹ c.put_count-3.ensures ▹ c.put_count-4.ensures ▹ c.put_text.ensures))

-- The title, the counts and the numbers of lines.
use Rattle.sheet.proofs.PartLaws.{two_program}
use Rattle.sheet.proofs.parts.put_two.Goals as goal

pub returns : goal.returns
returns c = two_program c.put_tick.ensures c.put_cap_counts.ensures c.put_names.ensures

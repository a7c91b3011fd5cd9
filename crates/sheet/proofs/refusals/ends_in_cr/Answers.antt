-- The byte before the end of a line is its last; an empty line has none.
use Rattle.std.proofs.Common.{refl}
use Rattle.sheet.proofs.RefusalLaws.{ends_with_byte}
use Rattle.sheet.proofs.refusals.ends_in_cr.Goals as goal

pub returns : goal.returns
returns c = rw (c.ends_with.ensures.value, ends_with_byte c.find_line.result.now, c.find_line.ensures.result_value) refl

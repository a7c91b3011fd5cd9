-- The sum of five counts.
use Rattle.std.proofs.Common.{arith}
use Rattle.sheet.specs.SheetText.{turns_in}
use Rattle.sheet.proofs.rows.turns_in.Goals as goal

pub returns : goal.returns
unfolding turns_in
returns c = omega arith

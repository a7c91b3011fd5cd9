-- The place is the fate's in its thread's row.
use mathlib.Core.Path.{refl}
use Rattle.tally.specs.Fates.{raise}
use Rattle.tally.proofs.CountLaws.{place_is}
use Rattle.tally.proofs.count.Goals as goal

pub returns : goal.returns
unfolding raise
returns c = rw (c.min-row.ensures, place_is c.args.t c.args.fate) refl

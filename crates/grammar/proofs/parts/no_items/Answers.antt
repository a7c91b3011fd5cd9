-- `parts::no_items` meets its contract: no item, so no word and no excess.
use Rattle.std.proofs.Common.{refl}
use Rattle.rules.specs.Lists.{any, pad}
use Rattle.grammar.proofs.parts.no_items.Goals as goal

pub returns : goal.returns
unfolding any pad
returns c = record { listed = record { count = refl; words = refl; over = refl; same = refl }; ends = (refl, refl, refl) }

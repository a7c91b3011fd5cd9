-- `parts::with_item` meets its contract: each of the first four items is set at its place, a later one is noted as excess.
use Rattle.std.proofs.Common.{refl, arith}
use Rattle.grammar.proofs.ItemLists.{adds_item, adds_excess}
use Rattle.grammar.proofs.parts.with_item.Goals as goal

pub returns-in-0 : goal.returns-in-0
returns-in-0 c = record { adds = adds_item 0 (omega arith) c.in-0.is refl refl c.over.ensures c.either.ensures; ends = (refl, refl, refl) }

pub returns-in-1 : goal.returns-in-1
returns-in-1 c = record { adds = adds_item 1 (omega arith) c.in-1.is refl refl c.over.ensures c.either.ensures; ends = (refl, refl, refl) }

pub returns-in-2 : goal.returns-in-2
returns-in-2 c = record { adds = adds_item 2 (omega arith) c.in-2.is refl refl c.over.ensures c.either.ensures; ends = (refl, refl, refl) }

pub returns-in-3 : goal.returns-in-3
returns-in-3 c = record { adds = adds_item 3 (omega arith) c.in-3.is refl refl c.over.ensures c.either.ensures; ends = (refl, refl, refl) }

pub returns-in_default : goal.returns-in_default
returns-in_default c = record { adds = adds_excess (omega arith) refl refl refl; ends = (refl, refl, refl) }

-- The parts that are read one after the other are the list.
use Rattle.std.proofs.Common.{rules}
use Rattle.grammar.proofs.Runs.{numbers_run}
use Rattle.grammar.proofs.parts.numbers_at.Goals as goal

pub returns-clause-numbers_at : goal.returns-clause-numbers_at
returns-clause-numbers_at c = numbers_run c.args.text.bytes.now c.args.at _ (λ e r k. search rules) c.items_at.result c.items_at.ensures.items

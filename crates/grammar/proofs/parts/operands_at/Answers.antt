-- The parts that are read one after the other are the list.
use Rattle.std.proofs.Common.{rules}
use Rattle.grammar.proofs.Runs.{operands_run}
use Rattle.grammar.proofs.parts.operands_at.Goals as goal

pub returns-clause-operands_at : goal.returns-clause-operands_at
returns-clause-operands_at c = operands_run c.args.text.bytes.now c.args.at _ (λ e r k. search rules) c.items_at.result c.items_at.ensures.items

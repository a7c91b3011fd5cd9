-- The job writes the stripped script of what is given; a refusal is printed by its line.
use Rattle.std.proofs.Common.{rules}
use Rattle.stripping.proofs.StrippedOutcomes.{prints_stripped}
use Rattle.stripping.proofs.print_stripped.Goals as goal

pub returns : goal.returns
returns c = prints_stripped c.print_parts.ensures (λ text turns last lent q left p. search rules)

-- The job prints the report on what is given; a refusal is printed by its line.
use native.Mathlib.Omega.{arith}
use mathlib.Core.Path.{refl}
use Rattle.std.proofs.Common.{rules}
use Rattle.listing.specs.Outputs.{printed_of, output_after}
use Rattle.printing.proofs.JobLaws.{text_printed}
use Rattle.reports.specs.ReachedLines.{reached_given, reached_text}
use Rattle.reports.proofs.print_reached.Goals as goal

pub returns : goal.returns
unfolding printed_of output_after reached_text
returns c =
    let all = text_printed c.print_parts.ensures (omega arith) (reached_given c.args.thread) (λ k. refl) (λ t k n. refl)
    (λ text turns last lent q left p given whole few wide. search rules) in
    record { value = all.0; output_after = all.1 }

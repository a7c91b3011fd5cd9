-- The job prints the verdict on what is given; a refusal is printed by its line.
use native.Mathlib.Omega.{arith}
use mathlib.Core.Path.{refl}
use Rattle.std.proofs.Common.{rules}
use Rattle.listing.specs.Outputs.{printed_of, output_after}
use Rattle.printing.proofs.JobLaws.{text_printed}
use Rattle.reports.specs.RaceTexts.{race_given, race_text}
use Rattle.reports.proofs.raced.print_race.Goals as goal

pub returns : goal.returns
unfolding printed_of output_after race_text
returns c =
    let all = text_printed c.print_parts.ensures (omega arith) race_given (λ k. refl) (λ t k n. refl)
    (λ text turns last lent q left p given whole few wide. search rules) in
    record { value = all.0; output_after = all.1 }

-- The job prints the drawing of what is given; a refusal is printed by its line.
use native.Mathlib.Omega.{arith}
use mathlib.Core.Path.{refl}
use Rattle.std.proofs.Common.{rules}
use Rattle.printing.proofs.JobLaws.{text_printed}
use Rattle.reports.specs.DrawnTexts.{drawn_given, drawn_text}
use Rattle.reports.proofs.drawn.print_drawn.Goals as goal

pub returns : goal.returns
unfolding drawn_text
returns c =
    let all = text_printed c.print_parts.ensures (omega arith) drawn_given (λ k. refl) (λ t k n. refl)
    (λ text turns last lent q left p given whole few wide. search rules) in
    record { value = all.0; output_after = all.1 }

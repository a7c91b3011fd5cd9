-- The job writes what is given back; a refusal is printed by its line.
use native.Mathlib.Omega.{arith}
use mathlib.Core.Path.{refl}
use Rattle.std.proofs.Common.{rules}
use Rattle.printing.proofs.JobLaws.{text_printed}
use Rattle.save.specs.Saved.{saved_in, saved_after}
use Rattle.save.proofs.Saves.{saved_given, saved_by_given, saved_parts}
use Rattle.save.proofs.print_saved.Goals as goal

pub returns : goal.returns
unfolding saved_in saved_after
returns c =
    let all = text_printed c.print_parts.ensures (omega arith) (saved_given c.args.input.now) (λ k. refl) (λ t k n. refl)
    (λ text turns last lent q left p given whole few wide. rw (← saved_parts c.args.input.now text.now turns.now last.now whole few) (search rules)) in
    rw (saved_by_given c.args.input.now) (record { value = all.0; output_after = all.1 })

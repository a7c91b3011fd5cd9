-- The run of what is given is printed; a refusal is printed as boxrun prints it.
use native.Mathlib.Omega.{arith}
use Rattle.std.proofs.Common.{◌≡◌, ℕ, List, refl, subst}
use Rattle.std.specs.Prelude.{Option, None, Some, Result, Ok, Err}
use Rattle.rules.specs.Numbers as No
use Rattle.rules.specs.Run.{refused}
use Rattle.rules.specs.Listing.{answer_line}
use Rattle.rules.specs.declared.faults.Refusal.{Refusal}
use Rattle.replay.specs.declared.Parts.{Parts}
use Rattle.replay.specs.declared.Misfit.{Misfit}
use Rattle.replay.specs.Given.{printed_given, misfit_told, TellsNone, TellsLine}
use Rattle.replay.proofs.GivenLaws.{prints_given, given_told}
use Rattle.replay.proofs.print_input.Goals as goal

misfit_printed : (r : Refusal) (o : Option ℕ) (input : List ℕ) → TellsNone r o → printed_given (misfit_told r o input) ≡ answer_line (refused (No.number r.fault) r.line)
misfit_printed r None input none = rw none refl
misfit_printed r (Some at) input told = refl

pub returns-in-Ok : goal.returns-in-Ok
returns-in-Ok c =
    rw (prints_given c.args.input.now, given_told c.split.ensures (omega arith) (Ok c.in-Ok.parts) c.in-Ok.is)
    (record { value = c.print_run.ensures.value; output_after = c.print_run.ensures.output_after })

pub returns-in-Err : goal.returns-in-Err
returns-in-Err c =
    let m = c.in-Err.misfit in
    let told = subst (λ (x : Result Parts Misfit). TellsLine x) c.in-Err.is c.split.ensures.line in
    rw (prints_given c.args.input.now, given_told c.split.ensures (omega arith) (Err m) c.in-Err.is, misfit_printed m.refusal m.script c.args.input.now told, ← c.number.ensures)
    (record { value = c.print_refusal.ensures.value; output_after = c.print_refusal.ensures.output_after })

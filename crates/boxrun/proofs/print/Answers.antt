-- `boxrun::print` does nothing undefined: what was printed fits in the output.
use mathlib.Core.Path.{sym}
use lib.Seq.{length-take-le}
use Rattle.listing.proofs.PrintOutcomes.{written_fits}
use Rattle.boxrun.proofs.print.Goals as goal

pub slice_bounds-output-end : goal.slice_bounds-output-end
slice_bounds-output-end c = written_fits _ _ c.print_input.ensures.value c.print_input.ensures.output_after c.in-Ok.is

pub slice_bounds-write_all-end : goal.slice_bounds-write_all-end
slice_bounds-write_all-end c =
    sym (length-take-le _ _ (written_fits _ _ c.print_input.ensures.value c.print_input.ensures.output_after c.in-Ok.is))

-- Nothing undefined: what was printed fits in the output.
use Rattle.std.proofs.Common.{sym, length-take-le}
use Rattle.listing.proofs.PrintOutcomes.{written_fits}
use Rattle.box_tool.proofs.explain_number.Goals as goal

pub slice_bounds-output-end : goal.slice_bounds-output-end
slice_bounds-output-end c = written_fits _ _ c.print_explained.ensures.value c.print_explained.ensures.output_after c.in-Ok.is

pub slice_bounds-write_out-end : goal.slice_bounds-write_out-end
slice_bounds-write_out-end c = sym (length-take-le _ _ (written_fits _ _ c.print_explained.ensures.value c.print_explained.ensures.output_after c.in-Ok.is))

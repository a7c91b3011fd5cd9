-- The status is told by what was printed, which is the text at the front of the output.
use Rattle.std.proofs.Common.{refl, sym, ap, ◌∙◌, length-take-le}
use Rattle.box_tool.specs.Status.{status_of}
use Rattle.box_tool.proofs.JobTexts.{front_fits, front_is, finishes, finishes_failed}
use Rattle.box_tool.proofs.finish.Goals as goal

pub slice_bounds-output-end : goal.slice_bounds-output-end
slice_bounds-output-end c = front_fits c.print.ensures c.in-Ok.is

pub slice_bounds-text-end : goal.slice_bounds-text-end
slice_bounds-text-end c = sym (length-take-le _ _ (front_fits c.print.ensures c.in-Ok.is))

pub returns-in-Ok : goal.returns-in-Ok
returns-in-Ok c =
    let start = c.args in
    finishes start.job start.input.now c.print.ensures c.write_out.result (c.status_of.ensures ∙ ap status_of (front_is c.print.ensures c.in-Ok.is)) c.write_out.ensures

pub returns-in-Err : goal.returns-in-Err
returns-in-Err c = finishes_failed c.args.job c.args.input.now c.print.ensures _ refl

-- The sheet is what was written into the output, and the status goes by its verdict.
use mathlib.Core.Logic.{inl}
use Rattle.std.proofs.Common.{refl, sym, replicate, length-take-le, arith}
use Rattle.box_tool.proofs.SheetStatus.{sheet_fits, sheet_status}
use Rattle.box_tool.proofs.finish_check.Goals as goal

pub slice_bounds-output-end : goal.slice_bounds-output-end
slice_bounds-output-end c =
    sheet_fits c.args.input.now (replicate 32768 0) (omega arith) (c.print_sheet.ensures.value, c.print_sheet.ensures.output_after) c.in-Ok.is

pub slice_bounds-write_out-end : goal.slice_bounds-write_out-end
slice_bounds-write_out-end c =
    sym (length-take-le _ _ (sheet_fits c.args.input.now (replicate 32768 0) (omega arith) (c.print_sheet.ensures.value, c.print_sheet.ensures.output_after) c.in-Ok.is))

pub returns-in-Ok : goal.returns-in-Ok
returns-in-Ok c =
    sheet_status c.args.input.now (replicate 32768 0) (omega arith) (c.print_sheet.ensures.value, c.print_sheet.ensures.output_after) c.in-Ok.is c.status_of_sheet.ensures c.write_out.ensures

pub returns-in-Err : goal.returns-in-Err
returns-in-Err c = inl refl

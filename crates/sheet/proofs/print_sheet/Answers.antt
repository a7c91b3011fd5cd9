-- The sheet is written from the front of an output that is long enough.
use Rattle.std.proofs.Common.{arith, rules}
use Rattle.buffer.proofs.Outputs.{at_front}
use Rattle.sheet.proofs.SheetLaws.{output_short, sheet_printed}
use Rattle.sheet.proofs.print_sheet.Goals as goal

pub returns-then-output-lt32768 : goal.returns-then-output-lt32768
returns-then-output-lt32768 c =
    let both = output_short c.args.input.now c.args.output.now c.if-output-lt32768.true in
    record { value = both.0; output_after = both.1 }

pub returns : goal.returns
returns c =
    let both =
    sheet_printed c.args.input.now c.args.output.now (omega (arith, c.if-output-lt32768.false))
    (at_front c.new-out.ensures.start c.new-out.ensures.content (search rules) c.put_sheet-holds.ensures.wrote) c.put_sheet-holds.ensures.holds_value in
    record { value = both.0; output_after = both.1 }

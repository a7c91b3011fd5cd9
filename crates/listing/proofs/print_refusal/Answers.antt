-- `listing::print_refusal` meets its contract: a short output stays; otherwise its line is all that is printed.
use Rattle.rules.specs.Run.{refused}
use Rattle.rules.specs.Listing.{answer_line}
use Rattle.buffer.proofs.Outputs.{at_front}
use Rattle.listing.proofs.PrintOutcomes.{in_output, short_is, short_output}
use Rattle.std.proofs.Common.{rules}
use Rattle.listing.proofs.print_refusal.Goals as goal

pub returns-then-output-lt32768 : goal.returns-then-output-lt32768
returns-then-output-lt32768 c =
    let a = c.args in
    let short = short_output (answer_line (refused a.number a.line)) a.output.now c.if-output-lt32768.true in
    rw (short_is c.at.ensures.fault c.at.ensures.line) (record { value = short.0; output_after = short.1 })

pub returns : goal.returns
returns c =
    let a = c.args in
    let x = in_output (answer_line (refused a.number a.line)) c.if-output-lt32768.false
    (at_front c.new-out.ensures.start c.new-out.ensures.content (search rules) c.put_refused.ensures) in
    record { value = x.answers; output_after = x.leaves }

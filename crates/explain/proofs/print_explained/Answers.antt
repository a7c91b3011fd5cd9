-- A short output stays; past the last page there is none.
use Rattle.std.proofs.Common.{◌≡◌, ◌∙◌, Err, rules}
use Rattle.buffer.proofs.Outputs.{at_front}
use Rattle.listing.specs.Outputs.{short_refusal}
use Rattle.listing.proofs.PrintOutcomes.{in_output, short_output}
use Rattle.explain.specs.Pages.{page}
use Rattle.explain.proofs.PageLines.{past_pages, nothing_printed}
use Rattle.explain.proofs.print_explained.Goals as goal

pub returns-then-output-lt32768 : goal.returns-then-output-lt32768
returns-then-output-lt32768 c =
    let all = short_output (page c.args.number) c.args.output.now c.if-output-lt32768.true in
    let same : Err c.at.result ≡ Err short_refusal = search rules in
    record { value = same ∙ all.0; output_after = all.1 }

pub returns-then-number-gt21 : goal.returns-then-number-gt21
returns-then-number-gt21 c =
    let x = nothing_printed (page c.args.number) c.args.output.now (past_pages c.args.number c.if-number-gt21.true) c.if-output-lt32768.false in
    record { value = x.answers; output_after = x.leaves }

pub returns : goal.returns
returns c =
    let printed = at_front c.new-out.ensures.start c.new-out.ensures.content (search (rules, c.put_page.ensures.buffer_same)) c.put_page.ensures in
    let x = in_output (page c.args.number) c.if-output-lt32768.false printed in
    record { value = x.answers; output_after = x.leaves }

-- Its own tables and list are long enough, and a report has no more objects than the list has room for.
use native.Mathlib.Omega.{arith}
use mathlib.Core.Path.{sym}
use lib.Seq.{length-take-le}
use Rattle.std.proofs.Common.{rules}
use Rattle.std.proofs.lemmas.Result.{err_from_is_err_and}
use Rattle.buffer.proofs.Outputs.{at_front}
use Rattle.reports.proofs.ReportOutcomes.{the_report, refusal_told, few_reached, objects_told}
use Rattle.reports.proofs.write_report.Goals as goal

pub returns-in_err-n : goal.returns-in_err-n
returns-in_err-n c =
    let told = the_report c.args.text.now c.args.turns.now c.reach.ensures (search rules) (search rules) (search rules) in
    let away = err_from_is_err_and c.from_residual.result c.from_residual.ensures.1 in
    rw (away.1, away.2) (refusal_told c.args.text.now c.args.turns.now c.args.thread told c.in_err-n.was)

pub slice_bounds-list-end : goal.slice_bounds-list-end
slice_bounds-list-end c =
    let told = the_report c.args.text.now c.args.turns.now c.reach.ensures (search rules) (search rules) (search rules) in
    omega (arith, few_reached c.args.text.now c.args.turns.now c.args.thread told c.in_ok-n.was, c.reach.auto.list)

pub slice_bounds-put_reached-end : goal.slice_bounds-put_reached-end
slice_bounds-put_reached-end c =
    let told = the_report c.args.text.now c.args.turns.now c.reach.ensures (search rules) (search rules) (search rules) in
    sym (length-take-le _ _ (omega (arith, few_reached c.args.text.now c.args.turns.now c.args.thread told c.in_ok-n.was, c.reach.auto.list)))

pub put_reached-requires : goal.put_reached-requires
put_reached-requires c =
    let told = the_report c.args.text.now c.args.turns.now c.reach.ensures (search rules) (search rules) (search rules) in
    let few = few_reached c.args.text.now c.args.turns.now c.args.thread told c.in_ok-n.was in
    (search rules, omega (arith, few, length-take-le c.in_ok-n.n c.reach.new.list (omega (arith, few, c.reach.auto.list))))

pub returns : goal.returns
returns c =
    let told = the_report c.args.text.now c.args.turns.now c.reach.ensures (search rules) (search rules) (search rules) in
    objects_told c.args.text.now c.args.turns.now c.args.thread told c.in_ok-n.was
    (at_front c.new-out.ensures.start c.new-out.ensures.content (search (rules, c.put_reached.ensures.buffer_same)) c.put_reached.ensures)

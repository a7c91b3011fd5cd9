-- Its own tables are long enough; what is found is written.
use Rattle.std.proofs.Common.{rules}
use Rattle.std.proofs.lemmas.Result.{err_from_is_err_and}
use Rattle.buffer.proofs.Outputs.{at_front}
use Rattle.reports.proofs.RaceOutcomes.{refusal_told, verdict_told}
use Rattle.reports.proofs.raced.write_verdict.Goals as goal

pub returns-in_err-found : goal.returns-in_err-found
returns-in_err-found c =
    let away = err_from_is_err_and c.from_residual.result c.from_residual.ensures.1 in
    rw (away.1, away.2) (refusal_told c.args.text.now c.args.turns.now c.find_race.ensures (search rules) (search rules) c.in_err-found.was)

pub returns : goal.returns
returns c =
    verdict_told c.args.text.now c.args.turns.now c.find_race.ensures (search rules) (search rules) c.in_ok-found.was
    (at_front c.new-out.ensures.start c.new-out.ensures.content (search (rules, c.put_found.ensures.buffer_same)) c.put_found.ensures)

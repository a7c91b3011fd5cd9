-- The first word, the four numbers and the bracket are written one after the other.
use native.Mathlib.Omega.{arith}
use Rattle.buffer.proofs.Outputs.{◌▹◌, same_text}
use Rattle.reports.proofs.RaceOutcomes.{race_line_lem}
use Rattle.reports.proofs.raced.put_race.Goals as goal

pub returns : goal.returns
returns c =
    same_text 31 (race_line_lem c.args.race.first c.args.race.second c.args.race.object c.args.race.field) (omega arith)
    (c.put_text.ensures ▹ (c.put_number.ensures ▹ (c.put_number-2.ensures ▹ (c.put_number-3.ensures ▹ (c.put_number-4.ensures ▹ c.put_text-2.ensures)))))

-- The last LF before the final byte is where the line starts; with none, that is the input's start.
use Rattle.std.proofs.Common.{rules}
use Rattle.replay.proofs.LastLine.{last_lf, no_lf}
use Rattle.replay.proofs.ending.last_start.Goals as goal

pub returns-in-Some : goal.returns-in-Some
returns-in-Some c =
    let cut = last_lf c.args.s.now c.saturating_sub.result c.saturating_sub.ensures c.in-Some.i (search rules) (search rules) (search rules) in
    (cut.0.before, cut.0.last, cut.1)

pub returns-in-None : goal.returns-in-None
returns-in-None c =
    let cut = no_lf c.args.s.now c.saturating_sub.result c.saturating_sub.ensures (search rules) in
    (cut.before, cut.last, search rules)

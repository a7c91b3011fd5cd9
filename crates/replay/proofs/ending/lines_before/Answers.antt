-- Each LF that is not the final byte ends a line before the last one.
use Rattle.std.proofs.Common.{rules}
use Rattle.replay.proofs.LastLine.{lfs_before}
use Rattle.replay.proofs.ending.lines_before.Goals as goal

pub returns : goal.returns
returns c =
    let lfs = lfs_before c.args.s.now c.saturating_sub.result c.saturating_sub.ensures in
    rw lfs (search rules)

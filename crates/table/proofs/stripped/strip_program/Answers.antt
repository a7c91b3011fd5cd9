-- `table::stripped::strip_program` meets its contract: before turn n the first n lines are stripped, and a table has no more than 672.
use Rattle.std.proofs.Common.{◌≡◌, add-one, arith}
use Rattle.table.proofs.StrippedWords.{none_stripped, one_line_more, all_stripped}
use Rattle.table.proofs.stripped.strip_program.Goals as goal

pub loop-n-init : goal.loop-n-init
loop-n-init c = none_stripped _

pub loop-n-preserved : goal.loop-n-preserved
loop-n-preserved c = rw (add-one c.loop-n.n) (one_line_more c.loop-n.invariant c.strip_line.ensures)

pub returns : goal.returns
returns c =
    let all : c.loop-n.n ≡ 672 = omega arith in all_stripped (rw all at c.loop-n.invariant)

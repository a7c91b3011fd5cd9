-- `writer::script_lines::put_lines` meets its contract: before turn n the first n lines are written; where they are too long, no text that is short enough was begun.
use Rattle.std.proofs.Common.{arith, rules}
use Rattle.writer.proofs.Rows.{none_yet, one_line_more, all_written, too_long}
use Rattle.writer.proofs.script_lines.put_lines.Goals as goal

pub loop-n-init : goal.loop-n-init
loop-n-init c = record { small = search rules; written = none_yet (search rules) }

pub returns-then-out-gt16384 : goal.returns-then-out-gt16384
returns-then-out-gt16384 c =
    too_long c.loop-n.invariant.small c.loop-n.invariant.written c.line_count-lines.ensures.line_count (search rules) c.if-out-gt16384.true

pub loop-n-preserved : goal.loop-n-preserved
loop-n-preserved c =
    let next = c.put_line.ensures in
    record { small = omega (arith, next.writes.most); written = one_line_more (search rules) c.loop-n.invariant.written next }

pub returns : goal.returns
returns c = all_written c.loop-n.invariant.small c.loop-n.invariant.written c.line_count-lines.ensures.line_count (search rules)

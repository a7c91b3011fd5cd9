-- `writer::script_lines::put_lines` meets its contract: before turn n the first n lines are written; where they are too long, no text that is short enough was begun.
use Rattle.std.proofs.Common.{◌≤◌}
use Rattle.writer.proofs.Rows.{SoFar}
use Rattle.writer.proofs.script_lines.put_lines.Given as goal

abbrev pub invariant-loop-n : goal.invariant-loop-n
invariant-loop-n l = record { small : l.out.at ≤ 16461; written : SoFar l.t l.initial.out l.out l.n }

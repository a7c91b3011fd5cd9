-- Before turn n the lines before n are counted.
use Rattle.sheet.specs.CapLines.{cap_number}
use Rattle.std.specs.Prelude.{Some}
use Rattle.sheet.proofs.CapLaws.{CountedTo}
use Rattle.sheet.proofs.cap_lines.count_making.Given as goal

abbrev pub invariant-loop-n : goal.invariant-loop-n
invariant-loop-n l = CountedTo l.p (cap_number (Some l.cap)) l.n l.count

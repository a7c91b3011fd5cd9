-- Before turn n the numbers of the lines before n are written.
use Rattle.sheet.proofs.CapLaws.{NamedTo}
use Rattle.sheet.proofs.cap_lines.put_naming.Given as goal

abbrev pub invariant-loop-n : goal.invariant-loop-n
invariant-loop-n l = NamedTo l.p l.first l.n l.initial.out l.out

-- Before turn i the first i numbers are written.
use Prim.Native.Nat.{◌*◌}
use lib.ListN.{take}
use Rattle.buffer.specs.Outputs.{Wrote}
use Rattle.reports.specs.ReachedLines.{numbers_text}
use Rattle.reports.proofs.put_numbers.Given as goal

abbrev pub invariant-loop-number : goal.invariant-loop-number
invariant-loop-number l = Wrote (6 * l.number-index) l.initial.out l.out (numbers_text (take l.number-index l.numbers))

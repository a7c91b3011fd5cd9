-- The loop keeps what was read in the table and the lines from here on still to scan; each turn takes one line.
use Prim.Native.Nat.{◌-◌}
use lib.ListN.{length}
use Rattle.reader.specs.Sofar.{edition_of}
use Rattle.reader.proofs.Scan.{Scanning}
use Rattle.reader.proofs.scanning.scan_lines.Given as goal

abbrev pub invariant-loop-at : goal.invariant-loop-at
invariant-loop-at l = Scanning l.m (edition_of l.second) l.text l.initial.words l.words l.r l.n l.at

abbrev pub decreases-loop-at : goal.decreases-loop-at
decreases-loop-at l = length l.text - l.at

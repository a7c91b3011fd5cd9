-- Line n of the text is line n - i of what stands from at on, and starts at the same place.
use Prim.Native.Nat.{◌+◌, ◌-◌, ◌≤◌}
use mathlib.Core.List.{[]}
use mathlib.Core.Path.{◌≡◌}
use lib.ListN.{length, drop, get_or}
use Rattle.rules.specs.Text.{lines, start_of}
use Rattle.reader.proofs.finder.line_start.Given as goal

abbrev pub invariant-loop-i : goal.invariant-loop-i
invariant-loop-i l = record {
  within : l.at ≤ length l.s;
  line : get_or (lines l.s) l.n [] ≡ get_or (lines (drop l.at l.s)) (l.n - l.i) [];
  start : l.at + start_of (l.n - l.i) (lines (drop l.at l.s)) ≡ start_of l.n (lines l.s);
}

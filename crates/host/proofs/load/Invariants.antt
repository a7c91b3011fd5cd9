-- `host::load` meets its contract: after i words the first i are those of the bytes, and the others are as they were.
use Rattle.std.proofs.Common.{◌≡◌, ◌++◌, take, drop}
use Rattle.host.specs.Bytes.{words_of}
use Rattle.host.proofs.load.Given as goal

abbrev pub invariant-loop-i : goal.invariant-loop-i
invariant-loop-i l = l.words ≡ take l.i (words_of l.bytes) ++ drop l.i l.initial.words

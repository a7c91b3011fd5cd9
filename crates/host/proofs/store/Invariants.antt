-- `host::store` meets its contract: after i words the first 2 i bytes are theirs, and the others are as they were.
use Rattle.std.proofs.Common.{◌≡◌, take}
use Rattle.host.specs.Bytes.{bytes_after}
use Rattle.host.proofs.store.Given as goal

abbrev pub invariant-loop-i : goal.invariant-loop-i
invariant-loop-i l = l.t ≡ bytes_after l.i (take l.i l.words) l.initial.t

-- `streams::write_all` writes the text from its front, and ends: a write leaves fewer bytes of it, or an interruption fewer tries.
use Rattle.std.specs.Prelude.{◌+◌, length}
use Rattle.streams.proofs.Parts.{Written}
use Rattle.streams.proofs.write_all.Given as goal

abbrev pub invariant-loop-rest : goal.invariant-loop-rest
invariant-loop-rest g l = Written (g.W.Write.contents l.initial.writer) (g.W.Write.contents l.writer) l.text l.rest

abbrev pub decreases-loop-rest : goal.decreases-loop-rest
decreases-loop-rest g l = length l.rest + l.tries

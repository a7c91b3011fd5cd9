-- `streams::write_all` writes the text from its front, and ends: a write leaves fewer bytes of it, or an interruption fewer tries.
use Rattle.streams.proofs.Parts.{written_none, written_more}
use Rattle.streams.proofs.write_all.Goals as goal

pub loop-rest-init : goal.loop-rest-init
loop-rest-init g c = written_none _ c.args.text.now

pub loop-rest-preserved-in-Ok : goal.loop-rest-preserved-in-Ok
loop-rest-preserved-in-Ok g c = written_more c.loop-rest.invariant c.in-Ok.n c.in-Ok.ensures.bytes

-- `host::load` meets its contract: after i words the first i are those of the bytes, and the others are as they were.
use Rattle.std.proofs.Common.{arith, ◌+◌, ◌*◌, get_or}
use Rattle.host.proofs.Loaded.{load_next, load_word}
use Rattle.host.proofs.load.Goals as goal

pub loop-i-preserved : goal.loop-i-preserved
loop-i-preserved c =
    rw (load_word (get_or c.args.bytes.now (2 * c.loop-i.i) 0) (get_or c.args.bytes.now (2 * c.loop-i.i + 1) 0) c.from_le_bytes.ensures)
    (load_next c.args.words.now c.args.bytes.now c.loop-i.words c.loop-i.i (omega arith) c.requires c.loop-i.invariant)

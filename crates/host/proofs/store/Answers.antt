-- `host::store` meets its contract: after i words the first 2 i bytes are theirs, and the others are as they were.
use Rattle.std.proofs.Common.{arith, refl, get_or}
use Rattle.host.specs.Bytes.{bytes_of}
use Rattle.host.proofs.Stored.{store_next, low_byte, high_byte}
use Rattle.host.proofs.store.Goals as goal

pub loop-i-init : goal.loop-i-init
unfolding bytes_of
loop-i-init c = refl

pub loop-i-preserved : goal.loop-i-preserved
loop-i-preserved c =
    let word = get_or c.args.words.now c.loop-i.i 0 in
    rw (low_byte word c.to_le_bytes.ensures, high_byte word (omega (arith, (c.type_inv.words c.loop-i.i).fits)) c.to_le_bytes.ensures)
    (store_next c.args.words.now c.args.t.now c.loop-i.t c.loop-i.i c.loop-i-test.true c.requires c.loop-i.invariant)

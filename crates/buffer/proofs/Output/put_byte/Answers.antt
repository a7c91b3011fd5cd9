-- `buffer::Output::put_byte` meets its contract: one byte is set.
use Rattle.std.proofs.Common.{refl, rules}
use Rattle.buffer.proofs.Appends.{byte}
use Rattle.buffer.proofs.Output.put_byte.Goals as goal

pub returns : goal.returns
returns c =
    record { writes = byte c.args.b (search rules); most = search rules; length_same = search rules; buffer_same = refl }

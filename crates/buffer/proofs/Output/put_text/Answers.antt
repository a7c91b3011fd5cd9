-- `buffer::Output::put_text` meets its contract: its range is set.
use Rattle.std.proofs.Common.{arith, refl, rules}
use borrow.Rule.Slice.PartMut.{same_len_mid}
use Rattle.buffer.proofs.Appends.{range}
use Rattle.buffer.proofs.Output.put_text.Goals as goal

pub returns : goal.returns
returns c =
    record {
      writes = range c.copy_from_slice.ensures.after (omega arith) (search rules);
      most = search rules;
      length_same = same_len_mid _ _ _ _ c.copy_from_slice.auto.self;
      buffer_same = refl;
    }

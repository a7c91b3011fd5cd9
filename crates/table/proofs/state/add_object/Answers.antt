-- `table::state::add_object` meets its contract: the words of a place that is not used are zero, the object's are written over them, and then the count.
use Rattle.std.proofs.Common.{map, ap}
use Rattle.rules.specs.Tables.{word}
use Rattle.table.proofs.StateRecords.{object_added}
use Rattle.table.proofs.state.add_object.Goals as goal

pub returns : goal.returns
returns c =
    let a = c.args in
    record {
      makes = λ k vs cap≡ fields. record {
        becomes = λ S rest held next.
            object_added held a.creator a.n a.cap a.kind _ _ _ _ k vs c.requires.1 cap≡
            (rw (c.pack.ensures, c.pack-2.ensures, c.pack-3.ensures, c.pack-4.ensures) (ap (map word) fields)) next;
      };
    }

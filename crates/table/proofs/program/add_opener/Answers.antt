-- `table::program::add_opener` meets its contract: the opener's line is written, and the number of the line after it as one first line more.
use Rattle.std.proofs.Common.{◌+◌, set, ap}
use Rattle.table.proofs.ProgramTable.{opener_added}
use Rattle.table.proofs.program.add_opener.Goals as goal

pub returns : goal.returns
returns c =
    let a = c.args in
    let written = ap (λ l. set l (8 + a.b) (a.n + 1)) c.add_line.ensures.t_after in
    record {
      t_after = written;
      opener_added = record {
        added = λ counts rest Fs o filled here room next few same. opener_added filled a.n here room o a.b a.form _ written next few same;
      };
    }

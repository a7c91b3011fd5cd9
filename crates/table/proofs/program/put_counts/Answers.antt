-- `table::program::put_counts` meets its contract: the first four words are written, where a table without counts has zeros.
use Rattle.std.proofs.Common.{[], ◌∷◌, refl, arith}
use Rattle.std.proofs.Math.Seq.{sets-eq}
use Rattle.table.proofs.ProgramTable.{counts_added}
use Rattle.table.proofs.program.put_counts.Goals as goal

pub returns : goal.returns
returns c =
    let a = c.args in
    record {
      t_after = sets-eq (a.kinds ∷ a.blocks ∷ a.lines ∷ a.edition ∷ []) a.t.now 0 (omega arith);
      counted = record { counted = λ rest Fs filled. counts_added filled a.kinds a.blocks a.lines a.edition _ refl };
    }

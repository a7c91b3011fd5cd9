-- `table::program::add_line` meets its contract: the eight words are written where the zeros after the lines begin.
use Rattle.std.proofs.Common.{◌≡◌, ◌+◌, ◌*◌, [], ◌∷◌, ◌++◌, take, drop, ap, ◌∙◌, arith}
use Rattle.table.proofs.ProgramTable.{eight_set, line_added}
use Rattle.table.proofs.program.add_line.Goals as goal

pub returns : goal.returns
returns c =
    let a = c.args in
    let words = a.form ∷ a.a ∷ a.b ∷ a.c ∷ a.d ∷ a.e ∷ a.f ∷ 0 ∷ [] in
    let after : (72 + a.n * 8) + 8 ≡ 80 + a.n * 8 = omega arith in
    let written = eight_set a.t.now (72 + a.n * 8) a.form a.a a.b a.c a.d a.e a.f 0 (omega arith)
    ∙ ap (λ i. take (72 + a.n * 8) a.t.now ++ (words ++ drop i a.t.now)) after in
    record {
      t_after = written;
      line_added = record { added = λ counts rest Fs F filled here room same none. line_added filled a.n here room F words _ written same none };
    }

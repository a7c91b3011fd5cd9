-- `table::program::kind_method` meets its contract: kind n is line n, whose method blocks, each by one more, follow the number of fields.
use Rattle.std.proofs.Common.{◌≡◌, ◌+◌, ◌*◌, get_or, ap, ◌∙◌, arith}
use Rattle.rules.specs.Script.{lines_of}
use Rattle.table.proofs.ProgramLines.{kind_there, kind_method_is}
use Rattle.table.proofs.program.kind_method.Goals as goal

pub returns-clause-value : goal.returns-clause-value
returns-clause-value c =
    let a = c.args in
    let place : 72 + a.n * 8 + (a.i + 2) ≡ 74 + a.n * 8 + a.i = omega arith in c.line_word.ensures.value ∙ ap (λ i. get_or a.t.now i 0) place

pub returns-clause-kind_method : goal.returns-clause-kind_method
returns-clause-kind_method c = record {
  is = λ P counts rest filled h.
      let a = c.args in
      c.line_word.ensures.line_word.is counts rest (lines_of P) filled (kind_there P a.n h) ∙ kind_method_is P a.n h a.i (omega arith);
}

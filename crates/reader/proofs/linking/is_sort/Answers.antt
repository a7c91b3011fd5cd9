-- Past the last block there is none; else the form of its opener is the number of its sort.
use native.Mathlib.Omega.{arith}
use mathlib.Core.Path.{◌∙◌}
use Rattle.rules.specs.Script.{lines_of}
use Rattle.reader.proofs.Links.{no_such_block, sort_of_block}
use Rattle.reader.proofs.linking.is_sort.Goals as goal

pub returns-then-counts-b : goal.returns-then-counts-b
returns-then-counts-b c =
    let a = c.args in
    record { is = λ P o table e f. no_such_block P o a.b (omega (arith, c.if-counts-b.true)) }

pub returns : goal.returns
returns c =
    let a = c.args in
    record {
      is = λ P o table e f.
          sort_of_block P o a.b c.block_form.result c.number.result (omega (arith, c.if-counts-b.false)) (c.number.ensures ∙ f)
          (c.block_form.ensures.block_form.is table.counts table.rest (lines_of P) table.filled);
    }

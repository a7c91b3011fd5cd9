-- Before turn t the rows before t are written.
use native.Mathlib.Numerals.{add-one}
use Rattle.std.proofs.Common.{◌+◌, ◌*◌, sym, ap, arith}
use Rattle.buffer.proofs.Outputs.{nothing, ◌▹◌, same_text}
use Rattle.sheet.specs.SheetText.{rows_text}
use Rattle.sheet.proofs.rows.put_rows.Goals as goal

pub loop-t-init : goal.loop-t-init
unfolding rows_text
loop-t-init c = nothing 0 (omega (arith, c.requires))

pub put_row-requires : goal.put_row-requires
put_row-requires c = (omega (arith, c.requires, c.loop-t.invariant.most, c.loop-t.invariant.length_same, c.loop-t-test.true), c.loop-t-test.true)

pub loop-t-preserved : goal.loop-t-preserved
unfolding rows_text
loop-t-preserved c =
    same_text ((c.loop-t.t + 1) * 93) (sym (ap (rows_text c.args.counts.now) (add-one c.loop-t.t))) (omega arith) (c.loop-t.invariant ▹ c.put_row.ensures)

pub returns : goal.returns
returns c =
    same_text 1581 (ap (rows_text c.args.counts.now) (omega (arith, c.loop-t.auto.t-end, c.loop-t-test.false))) (omega (arith, c.loop-t.auto.t-end)) c.loop-t.invariant

-- Before turn t the rows before t are written.
use Rattle.std.specs.Prelude.{◌*◌}
use Rattle.buffer.specs.Outputs.{Wrote}
use Rattle.sheet.specs.SheetText.{rows_text}
use Rattle.sheet.proofs.rows.put_rows.Given as goal

abbrev pub invariant-loop-t : goal.invariant-loop-t
invariant-loop-t l = Wrote (l.t * 93) l.initial.out l.out (rows_text l.counts l.t)

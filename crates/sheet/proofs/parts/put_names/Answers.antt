-- Where nothing was written between, no line names unsafe.
use Rattle.std.proofs.Common.{refl, arith}
use Rattle.buffer.proofs.Outputs.{same_text}
use Rattle.sheet.proofs.PartLaws.{names_none, names_some}
use Rattle.sheet.proofs.parts.put_names.Goals as goal

pub returns-then-out-start : goal.returns-then-out-start
returns-then-out-start c =
    names_none c.first_number.ensures (same_text 30 refl (omega arith) c.put_text.ensures) c.put_naming.ensures c.if-out-start.true (same_text 6 refl (omega arith) c.put_text-then-out-start.ensures)

pub returns-else-out-start : goal.returns-else-out-start
returns-else-out-start c =
    names_some c.first_number.ensures (same_text 30 refl (omega arith) c.put_text.ensures) c.put_naming.ensures c.if-out-start.false (same_text 1 refl (omega arith) c.put_text-else-out-start.ensures)

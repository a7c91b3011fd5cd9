-- A number below 16 is a thread's.
use borrow.Author.Tests.{lt-ltb, le-ltb}
use Rattle.std.proofs.Common.{refl, arith}
use Rattle.buffer.proofs.Outputs.{◌▹◌, same_text}
use Rattle.sheet.proofs.rows.put_row_name.Goals as goal

pub returns-then-t-lt16 : goal.returns-then-t-lt16
returns-then-t-lt16 c = same_text 20 (rw (lt-ltb c.args.t 16 c.if-t-lt16.true) refl) (omega arith) (c.put_text.ensures ▹ c.put_number.ensures)

pub returns-else-t-lt16 : goal.returns-else-t-lt16
returns-else-t-lt16 c = same_text 20 (rw (le-ltb c.args.t 16 (omega (arith, c.if-t-lt16.false))) refl) (omega arith) c.put_text-else-t-lt16.ensures

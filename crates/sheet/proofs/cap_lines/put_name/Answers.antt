-- The line's capability decides whether its number is written.
use Rattle.std.proofs.Common.{arith}
use Rattle.sheet.proofs.CapLaws.{is_cap, is_no_cap, name_put, name_none}
use Rattle.sheet.proofs.cap_lines.put_name.Goals as goal

pub returns-then-eq : goal.returns-then-eq
returns-then-eq c = name_put c.cap_named.ensures (is_cap _ _ c.eq.ensures c.if-eq.true) c.put_number.ensures

pub returns-else-eq : goal.returns-else-eq
returns-else-eq c = name_none c.cap_named.ensures (is_no_cap _ _ c.eq.ensures c.if-eq.false) (omega (arith, c.requires.0))

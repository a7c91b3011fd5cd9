-- `races::marks::first_of` meets its contract: the test is its condition.
use Rattle.std.proofs.Common.{eq-eqb, ne_eqb, refl}
use Rattle.races.proofs.marks.first_of.Goals as goal

pub returns-then-was-eq0 : goal.returns-then-was-eq0
returns-then-was-eq0 c = rw (eq-eqb _ _ c.if-was-eq0.true) refl

pub returns-else-was-eq0 : goal.returns-else-was-eq0
returns-else-was-eq0 c =
    let a = c.args in rw (ne_eqb a.was 0 c.if-was-eq0.false) refl

-- `checks::form_checks::permission_check` meets its contract: each way out is a ground that holds where those before it do not, or none holds.
use mathlib.Core.Path.{refl}
use Rattle.rules.specs.Turn.{◌>>=◌, ◌>>◌, check, permit}
use Rattle.checks.proofs.form_checks.permission_check.Goals as goal

pub returns-then-foreign : goal.returns-then-foreign
unfolding permit check ◌>>◌ ◌>>=◌
returns-then-foreign c = rw (c.if-foreign.true, c.from.ensures) refl

pub returns-then-alias : goal.returns-then-alias
unfolding permit check ◌>>◌ ◌>>=◌
returns-then-alias c = rw (c.if-foreign.false, c.if-alias.true, c.from-then-alias.ensures) refl

pub returns-then-other : goal.returns-then-other
unfolding permit check ◌>>◌ ◌>>=◌
returns-then-other c = rw (c.if-foreign.false, c.if-alias.false, c.if-other.true, c.from-then-other.ensures) refl

pub returns : goal.returns
unfolding permit check ◌>>◌ ◌>>=◌
returns c = rw (c.if-foreign.false, c.if-alias.false, c.if-other.false) refl

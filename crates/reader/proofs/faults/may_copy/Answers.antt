-- In the second edition each of the four capabilities in its turn; in the first none.
use Rattle.std.proofs.Common.{◌≡◌, refl, ◌∙◌}
use Rattle.std.specs.Prelude.{not}
use Rattle.rules.specs.contracts.Cap as C
use Rattle.rules.specs.declared.Cap.{Cap}
use Rattle.rules.specs.declared.Cap.TheVariants.{Imm, Iso, Local, Unsafe}
use Rattle.rules.specs.Script.{edition2}
use Rattle.rules.specs.Reading.{may_copy}
use Rattle.reader.proofs.faults.may_copy.Goals as goal

not_iso : (k : Cap) → not (denote.Enum.Bare.sameb C.the_type k Iso) ≡ may_copy edition2 k
unfolding may_copy
not_iso Imm = refl
not_iso Iso = refl
not_iso Local = refl
not_iso Unsafe = refl

pub returns-then-second : goal.returns-then-second
returns-then-second c = c.ne.ensures ∙ rw (c.if-second.true, c.from.ensures) (not_iso _)

pub returns-else-second : goal.returns-else-second
unfolding may_copy
returns-else-second c = rw c.if-second.false refl

-- A derived `==` in the words of the definitions: each by its cases.
use Rattle.std.proofs.Common.{◌≡◌, refl}
use Rattle.rules.specs.contracts.Cap as C
use Rattle.rules.specs.contracts.ValuePartialEq.TheImpl as ValueEqual
use Rattle.rules.specs.declared.Cap.{Cap}
use Rattle.rules.specs.declared.Cap.TheVariants.{Imm, Iso, Local, Unsafe}
use Rattle.rules.specs.declared.Value.{Value}
use Rattle.rules.specs.declared.Value.TheVariants.{Absent, Obj, Chan}
use Rattle.rules.specs.Turn.{is_absent, same_cap}

pub equals_absent : (v : Value) → (ValueEqual.eq-value).it v Absent ≡ is_absent v
unfolding is_absent
equals_absent Absent = refl
equals_absent (Obj n) = refl
equals_absent (Chan c) = refl

pub equals_cap : (a b : Cap) → denote.Enum.Bare.sameb C.the_type a b ≡ same_cap a b
unfolding same_cap
equals_cap Imm Imm = refl
equals_cap Imm Iso = refl
equals_cap Imm Local = refl
equals_cap Imm Unsafe = refl
equals_cap Iso Imm = refl
equals_cap Iso Iso = refl
equals_cap Iso Local = refl
equals_cap Iso Unsafe = refl
equals_cap Local Imm = refl
equals_cap Local Iso = refl
equals_cap Local Local = refl
equals_cap Local Unsafe = refl
equals_cap Unsafe Imm = refl
equals_cap Unsafe Iso = refl
equals_cap Unsafe Local = refl
equals_cap Unsafe Unsafe = refl

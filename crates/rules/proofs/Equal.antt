-- A derived `==` of capabilities, in the words of the definitions: each by its four cases.
use Rattle.std.specs.Prelude.{◌≡◌}
use mathlib.Core.Path.{refl}
use Rattle.rules.specs.contracts.Cap as C
use Rattle.rules.specs.declared.Cap.{Cap}
use Rattle.rules.specs.declared.Cap.TheVariants.{Imm, Iso, Local, Unsafe}
use Rattle.rules.specs.Turn.{is_imm, is_iso, is_local}

pub equals_imm : (c : Cap) → denote.Enum.Bare.sameb C.the_type c Imm ≡ is_imm c
unfolding is_imm
equals_imm Imm = refl
equals_imm Iso = refl
equals_imm Local = refl
equals_imm Unsafe = refl

pub equals_iso : (c : Cap) → denote.Enum.Bare.sameb C.the_type c Iso ≡ is_iso c
unfolding is_iso
equals_iso Imm = refl
equals_iso Iso = refl
equals_iso Local = refl
equals_iso Unsafe = refl

pub equals_local : (c : Cap) → denote.Enum.Bare.sameb C.the_type c Local ≡ is_local c
unfolding is_local
equals_local Imm = refl
equals_local Iso = refl
equals_local Local = refl
equals_local Unsafe = refl

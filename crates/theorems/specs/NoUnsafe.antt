-- Document 02, L9: "a script in which the word unsafe does not occur", said of its text, and of the program that the text is read to.
use Rattle.std.specs.Prelude.{ℕ, ◌≡◌, Bool, true, false, ◌&&◌, ◌||◌, List, [], ◌∷◌, eqb}
use Rattle.rules.specs.declared.Cap.{Cap}
use Rattle.rules.specs.declared.Cap.TheVariants.{Imm, Iso, Local, Unsafe}
use Rattle.rules.specs.Lists.{Every}
use Rattle.rules.specs.Script.{Expr, value, field, swap, call, new, cast, spawn, send, recv, copy, Block, Program}
use Rattle.rules.specs.Templates.{cap_word}

-- ---- Of a text

-- the bytes of the word stand at the front of the text, one after the other
unfoldable pub begins : (word text : List ℕ) → Bool
begins [] l = true
begins (c ∷ w) [] = false
begins (c ∷ w) (x ∷ l) = eqb x c && begins w l

-- they stand somewhere in it
unfoldable pub occurs : (word text : List ℕ) → Bool
occurs w [] = begins w []
occurs w (x ∷ l) = begins w (x ∷ l) || occurs w l

abbrev pub no_unsafe : (text : List ℕ) → Type 0
no_unsafe text = occurs (cap_word Unsafe) text ≡ false

-- ---- Of a program

abbrev pub NotUnsafe : Cap → Type 0
NotUnsafe Imm = Unit {0}
NotUnsafe Iso = Unit {0}
NotUnsafe Local = Unit {0}
NotUnsafe Unsafe = ⊥

-- the K of a let, if it has one, is another word
abbrev pub TameLet : Expr → Type 0
TameLet (value w) = Unit {0}
TameLet (field s f) = Unit {0}
TameLet (swap s f w) = Unit {0}
TameLet (call s i w) = Unit {0}
TameLet (new k n ws) = NotUnsafe k
TameLet (cast k w) = NotUnsafe k
TameLet (spawn b) = Unit {0}
TameLet (send s w) = Unit {0}
TameLet (recv s) = Unit {0}
TameLet (copy k s) = NotUnsafe k

-- no K of the program is unsafe
pub record Tame (P : Program) : Type 0 where
  pub lets : Every (λ (B : Block). Every TameLet B.lets) P.blocks

-- What a part of a form tells, and the place after it; or that it does not fit.
use Rattle.std.specs.Prelude.{ℕ, ◌≡◌, true, false, List, Option, Some, None, ltb, drop}
use Rattle.rules.specs.Templates.{Taken, took, unfit, digit_of}
use Rattle.grammar.specs.declared.parts.Part.{Part}

-- the digit's value; or the byte is no digit
abbrev pub Digit : ℕ → Option ℕ → Type 0
Digit b None = ltb (digit_of b) 10 ≡ false
Digit b (Some d) = (ltb (digit_of b) 10 ≡ true) × (d ≡ digit_of b)

-- what is taken: f says what the part's word stands for
abbrev pub told : {A : Type 0} → (ℕ → A) → List ℕ → Option Part → Taken A
told f s None = unfit
told f s (Some p) = took (f p.word) (drop p.end s)

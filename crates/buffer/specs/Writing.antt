-- What it is to write a text into a lent buffer.
use Rattle.std.specs.Prelude.{ℕ, ◌+◌, ◌≤◌, ◌≡◌, List, ◌∷◌, ◌++◌, length, take, drop}
use Rattle.rules.specs.Text.{space}
use Rattle.rules.specs.Templates.{decimal}

-- the text over the buffer's bytes from `at`
unfoldable pub over : List ℕ → ℕ → List ℕ → List ℕ
over l at t = take at l ++ (t ++ drop (at + length t) l)

-- the text stands at `at`, all else stays; the answer is the place after it, at most k bytes on
pub record Wrote (k : ℕ) (l l₁ : List ℕ) (at r : ℕ) (text : List ℕ) : Type 0 where
  pub is : l₁ ≡ over l at text
  pub end : r ≡ at + length text
  pub most : r ≤ at + k
  pub from : at ≤ length l

-- a number after a space
abbrev pub number_part : ℕ → List ℕ
number_part n = space ∷ decimal n

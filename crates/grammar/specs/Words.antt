-- Bytes as one number, low byte first: how the code compares a fixed word with the text at once.
use Rattle.std.specs.Prelude.{ℕ, ◌+◌, ◌*◌, ◌<◌, ◌≡◌, Bool, true, false, ◌&&◌, List, [], ◌∷◌, Option, Some, None, eqb, ltb, length, drop}
use Rattle.rules.specs.Lists.{all}

abbrev pub Byte : ℕ → Type 0
Byte b = b < 256

unfoldable pub word_of : List ℕ → ℕ
word_of [] = 0
word_of (b ∷ l) = b + word_of l * 256

-- a word has no zero byte: so it is told from a text that ends before it
unfoldable pub plain : List ℕ → Bool
plain w = all (ltb 0) w

-- the text begins with the word
unfoldable pub begins : List ℕ → List ℕ → Bool
begins [] l = true
begins (c ∷ w) [] = false
begins (c ∷ w) (x ∷ l) = eqb x c && begins w l

-- the word stands at the place, and the result is the place after it; or it does not
abbrev pub After : List ℕ → List ℕ → ℕ → Option ℕ → Type 0
After w s at None = begins w (drop at s) ≡ false
After w s at (Some e) = (begins w (drop at s) ≡ true) × (e ≡ at + length w)

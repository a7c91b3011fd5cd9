-- Words as bytes: "words cross as bytes, low byte first".
use Rattle.std.specs.Prelude.{ℕ, ◌+◌, ◌*◌, ◌/◌, ◌%◌, List, [], ◌∷◌, ◌++◌, drop}

unfoldable pub bytes_of : List ℕ → List ℕ
bytes_of [] = []
bytes_of (w ∷ ws) = (w % 256) ∷ (w / 256) ∷ bytes_of ws

-- n words over the first bytes of what was lent; "words past them keep their value"
abbrev pub bytes_after : (n : ℕ) → (words bytes : List ℕ) → List ℕ
bytes_after n words bytes = bytes_of words ++ drop (2 * n) bytes

-- bytes as words; an odd last byte is no word
unfoldable pub words_of : List ℕ → List ℕ
words_of [] = []
words_of (low ∷ []) = []
words_of (low ∷ high ∷ bytes) = (low + 256 * high) ∷ words_of bytes

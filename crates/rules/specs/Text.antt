-- Texts as lists of bytes, their characters and their lines.
use Rattle.std.specs.Prelude.{ℕ, zero, suc, ◌+◌, Bool, true, false, not, cond, List, [], ◌∷◌, ◌++◌, eqb, length, get_or}
use Prim.Native.Char.{code}
use Prim.Native.String as S
use Rattle.rules.specs.Lists.{among, any}

-- a quoted text as its bytes
abbrev pub bytes : S.String → List ℕ
bytes S.[] = []
bytes (S.◌∷◌ c s) = code c ∷ bytes s

abbrev pub lf : ℕ
lf = code "\n"

abbrev pub space : ℕ
space = code " "

-- "Bytes are a to z, 0 to 9, brackets, space and LF."
unfoldable pub allowed : ℕ → Bool
allowed c = among c (bytes "abcdefghijklmnopqrstuvwxyz0123456789() \n")

unfoldable pub stray : List ℕ → Bool
stray l = any (λ c. not (allowed c)) l

-- a byte put before the lines of what follows it
abbrev pub on_line : Bool → ℕ → List (List ℕ) → List (List ℕ)
on_line true c ls = (c ∷ []) ∷ ls
on_line false c [] = (c ∷ []) ∷ []
on_line false c (l ∷ ls) = (c ∷ l) ∷ ls

-- the lines of a text, each with its LF; only the last may lack it
unfoldable pub lines : List ℕ → List (List ℕ)
lines [] = []
lines (c ∷ s) = on_line (eqb c lf) c (lines s)

unfoldable pub join : List (List ℕ) → List ℕ
join [] = []
join (l ∷ ls) = l ++ join ls

-- "Line finder: gives line n of a text, without its LF, ..; past the last line, the empty part at the end."
unfoldable pub without_lf : List ℕ → List ℕ
without_lf [] = []
without_lf (c ∷ l) = cond (eqb c lf) [] (c ∷ without_lf l)

unfoldable pub find_line : ℕ → List ℕ → List ℕ
find_line n s = without_lf (get_or (lines s) n [])

-- where line n starts: the bytes of the lines before it
unfoldable pub start_of : ℕ → List (List ℕ) → ℕ
start_of n [] = 0
start_of zero (l ∷ ls) = 0
start_of (suc n) (l ∷ ls) = length l + start_of n ls

-- Bytes loaded as words: word i is made of the bytes 2 i and 2 i + 1.
use Rattle.std.proofs.Common.{ℕ, zero, suc, ◌+◌, ◌*◌, ◌≤◌, ◌<◌, ◌≡◌, refl, sym, ◌∙◌, List, [], ◌∷◌, ◌++◌, arith, add-one, length, take, drop, set, get_or, drop-cons, length-take-le, take-suc}
use lib.Seq.{append_snoc, set_at}
use Rattle.std.specs.Int.{w16, from_le_bytes}
use Rattle.host.specs.Bytes.{words_of}

-- an odd last byte is no word
words_length : (bytes : List ℕ) → (2 * length (words_of bytes) ≤ length bytes) × (length bytes ≤ 2 * length (words_of bytes) + 1)
unfolding words_of
words_length [] = (omega arith, omega arith)
words_length (low ∷ []) = (omega arith, omega arith)
words_length (low ∷ high ∷ bytes) =
    let rest = words_length bytes in
    (omega (arith, rest.0), omega (arith, rest.1))

word_at : (bytes : List ℕ) (i : ℕ) → 2 * i + 1 < length bytes → get_or (words_of bytes) i 0 ≡ get_or bytes (2 * i) 0 + 256 * get_or bytes (2 * i + 1) 0
unfolding words_of
word_at [] i h = absurd (omega arith)
word_at (low ∷ []) i h = absurd (omega arith)
word_at (low ∷ high ∷ bytes) zero h = refl
word_at (low ∷ high ∷ bytes) (suc i) h =
    let even : 2 * suc i ≡ suc (suc (2 * i)) = omega arith in
    let odd : suc (suc (2 * i)) + 1 ≡ suc (suc (2 * i + 1)) = omega arith in
    rw (even, odd) (word_at bytes i (omega arith))

-- too few bytes for n words are fewer than n words
pub short_words : (n : ℕ) (bytes : List ℕ) → length bytes < 2 * n → length (words_of bytes) < n
short_words n bytes short = omega (arith, (words_length bytes).0)

-- enough bytes for n words are at least n words
pub long_words : (n : ℕ) (bytes : List ℕ) → 2 * n ≤ length bytes → n ≤ length (words_of bytes)
long_words n bytes long = omega (arith, (words_length bytes).1)

-- the word of two bytes
pub load_word : (low high : ℕ) {w : ℕ} → w ≡ from_le_bytes w16 (low ∷ high ∷ []) → w ≡ low + 256 * high
load_word low high is = is ∙ omega arith

-- one word more is loaded
pub load_next : (w₀ bytes w : List ℕ) (i : ℕ) → i < length w₀ → 2 * length w₀ ≤ length bytes → w ≡ take i (words_of bytes) ++ drop i w₀
    → set w i (get_or bytes (2 * i) 0 + 256 * get_or bytes (2 * i + 1) 0) ≡ take (i + 1) (words_of bytes) ++ drop (i + 1) w₀
load_next w₀ bytes w i h long e =
    let enough = long_words (length w₀) bytes long in
    let words = words_of bytes in
    rw (e, drop-cons w₀ i 0 h, ← word_at bytes i (omega arith))
    (set_at (take i words) (get_or w₀ i 0) (drop (suc i) w₀) (get_or words i 0) i (length-take-le i words (omega arith))
    ∙ rw (add-one i, take-suc words i 0 (omega arith)) (sym (append_snoc (take i words) (get_or words i 0) (drop (suc i) w₀))))

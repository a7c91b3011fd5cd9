-- Words stored as bytes: two bytes a word, each word after the one before it.
use Rattle.std.proofs.Common.{ℕ, zero, suc, ◌+◌, ◌-◌, ◌*◌, ◌/◌, ◌%◌, ◌≤◌, ◌<◌, ◌≡◌, refl, sym, ap, ◌∙◌, List, [], ◌∷◌, ◌++◌, append_assoc, arith, add-one, length, take, drop, set, get_or, replicate, length-append, length-drop, take_at, drop_at, take-suc, drop-drop, length-take-le, slice_index_or}
use lib.ListN.{length-replicate}
use lib.Seq.{set_at}
use borrow.Rule.Slice.PartMut.{put_mid}
use Rattle.std.proofs.lemmas.Slice.{put_mid-paste}
use Rattle.std.proofs.lemmas.List.{take-replicate}
use Rattle.std.proofs.lemmas.List.Edits.{paste_all}
use Rattle.std.specs.Int.{w16, to_le_bytes}
use Rattle.rules.specs.Lists.{pad}
use Rattle.rules.proofs.ListLaws.{pad_front}
use Rattle.host.specs.Bytes.{bytes_of, bytes_after}

bytes_append : (a b : List ℕ) → bytes_of (a ++ b) ≡ bytes_of a ++ bytes_of b
unfolding bytes_of
bytes_append [] b = refl
bytes_append (w ∷ a) b = rw (bytes_append a b)

pub bytes_length : (a : List ℕ) → length (bytes_of a) ≡ 2 * length a
unfolding bytes_of
bytes_length [] = refl
bytes_length (w ∷ a) = omega (arith, bytes_length a)

set_two : (p q : List ℕ) (n x y : ℕ) → length p ≡ n → 2 ≤ length q → set (set (p ++ q) n x) (n + 1) y ≡ p ++ (x ∷ y ∷ []) ++ drop 2 q
set_two p [] n x y e h = absurd (omega arith)
set_two p (a ∷ []) n x y e h = absurd (omega arith)
set_two p (a ∷ b ∷ q) n x y e h =
    ap (λ (l : List ℕ). set l (n + 1) y) (set_at p a (b ∷ q) x n e ∙ sym (append_assoc p (x ∷ []) (b ∷ q)))
    ∙ set_at (p ++ (x ∷ [])) b q y (n + 1) (length-append p (x ∷ []) ∙ ap (λ (k : ℕ). k + 1) e)
    ∙ simp append_assoc

-- one word more is stored
pub store_next : (w t₀ t : List ℕ) (i : ℕ) → i < length w → 2 * length w ≤ length t₀ → t ≡ bytes_after i (take i w) t₀
    → set (set t (2 * i) (get_or w i 0 % 256)) (2 * i + 1) (get_or w i 0 / 256) ≡ bytes_after (i + 1) (take (i + 1) w) t₀
unfolding bytes_of
store_next w t₀ t i h k e =
    rw e
    (set_two (bytes_of (take i w)) (drop (2 * i) t₀) (2 * i) (get_or w i 0 % 256) (get_or w i 0 / 256) long (rw length-drop (omega arith))
    ∙ rw (drop-drop 2 (2 * i) t₀, twice, add-one i, take-suc w i 0 h, bytes_append (take i w) (get_or w i 0 ∷ [])))
  where
    long : length (bytes_of (take i w)) ≡ 2 * i
    long = bytes_length (take i w) ∙ ap (λ (n : ℕ). 2 * n) (length-take-le i w (omega arith))

    twice : 2 * i + 2 ≡ 2 * (i + 1)
    twice = omega arith

-- the two bytes of a word
module _ (n : ℕ) {bytes : List ℕ} where
  pub low_byte : bytes ≡ to_le_bytes w16 n → slice_index_or bytes 0 0 ≡ n % 256
  low_byte is = rw is refl

  pub high_byte : n < 65536 → bytes ≡ to_le_bytes w16 n → slice_index_or bytes 1 0 ≡ n / 256
  high_byte fits is = rw is (omega arith)

-- n words, stored
pub stored : (n : ℕ) (t : List ℕ) {words w t₁ : List ℕ} → length words ≡ n → w ≡ words → t₁ ≡ bytes_after (length w) w t → t₁ ≡ bytes_after n words t
stored n t {words} long written kept =
    kept ∙ ap (λ (l : List ℕ). bytes_after (length l) l t) written ∙ ap (λ (k : ℕ). bytes_after k words t) long

-- ---- Words, and zeros behind them

zero_bytes : (k : ℕ) → bytes_of (replicate k 0) ≡ replicate (2 * k) 0
unfolding bytes_of
zero_bytes zero = refl
zero_bytes (suc k) = let two : 2 * suc k ≡ suc (suc (2 * k)) = omega arith in rw (two, zero_bytes k) refl

module _ (words t₀ : List ℕ) (n : ℕ) (few : n ≤ length words) (room : n ≤ 8192) where
  front_long : length (take n words) ≡ n
  front_long = length-take-le n words few

  -- the words are stored, and what is behind them in the table is filled with 0
  pub used_stored : {t m : List ℕ} → 16384 ≤ length t₀ → t ≡ bytes_after (length (take n words)) (take n words) t₀
      → m ≡ replicate (length (take (16384 - 2 * n) (drop (2 * n) t))) 0 → put_mid (2 * n) (16384 - 2 * n) t m ≡ bytes_after 8192 (pad 8192 0 (take n words)) t₀
  used_stored {t} {m} long kept filled =
      let ws = take n words in
      let rest = 16384 - 2 * n in
      let begun : t ≡ bytes_of ws ++ drop (2 * n) t₀ = kept ∙ ap (λ (k : ℕ). bytes_of ws ++ drop (2 * k) t₀) front_long in
      let wide : length (bytes_of ws) ≡ 2 * n = bytes_length ws ∙ ap (λ (k : ℕ). 2 * k) front_long in
      let front : take (2 * n) t ≡ bytes_of ws = ap (take (2 * n)) begun ∙ take_at (bytes_of ws) (drop (2 * n) t₀) (2 * n) wide in
      let behind : drop (2 * n) t ≡ drop (2 * n) t₀ = ap (drop (2 * n)) begun ∙ drop_at (bytes_of ws) (drop (2 * n) t₀) (2 * n) wide in
      let many : length (take rest (drop (2 * n) t)) ≡ rest = length-take-le rest (drop (2 * n) t) (omega (arith, ap length behind, length-drop (2 * n) t₀)) in
      let made : rest ≡ 2 * (8192 - n) = omega arith in
      let zeros : m ≡ bytes_of (replicate (8192 - n) 0) = filled ∙ ap (λ (k : ℕ). replicate k 0) (many ∙ made) ∙ sym (zero_bytes (8192 - n)) in
      let all : length m ≡ rest = ap length filled ∙ length-replicate (length (take rest (drop (2 * n) t))) 0 ∙ many in
      let place : 2 * n + rest ≡ 2 * 8192 = omega arith in
      let left : drop (2 * n + rest) t ≡ drop (2 * 8192) t₀ =
      sym (drop-drop rest (2 * n) t) ∙ ap (drop rest) behind ∙ drop-drop rest (2 * n) t₀ ∙ ap (λ (k : ℕ). drop k t₀) place in
      let padded : pad 8192 0 ws ≡ ws ++ replicate (8192 - n) 0 =
      pad_front 8192 0 ws (omega (arith, front_long)) ∙ ap (λ (k : ℕ). ws ++ take (8192 - k) (replicate 8192 0)) front_long
      ∙ ap (ws ++◌) (take-replicate (8192 - n) 8192 0 (omega arith)) in
      put_mid-paste (2 * n) rest t m m rest refl refl (sym all) ∙ paste_all t (2 * n) m rest (sym all)
      ∙ rw (front, left, zeros) (sym (append_assoc (bytes_of ws) (bytes_of (replicate (8192 - n) 0)) (drop (2 * 8192) t₀))
      ∙ ap (λ (l : List ℕ). l ++ drop (2 * 8192) t₀) (sym (bytes_append ws (replicate (8192 - n) 0)) ∙ ap bytes_of (sym padded)))

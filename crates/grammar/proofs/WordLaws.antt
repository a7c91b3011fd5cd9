-- Bytes as one number: its low bytes are the front of the text, so one comparison tells whether a word stands there.
use Rattle.std.proofs.lemmas.Bool.{false≢true, eqb-false}
use Rattle.std.proofs.Math.Nat.{one-le-pow, pow-le-pow_right, div-eq_of_lt, add-mul-mod_self_right, add-mul-div_right}
use Rattle.std.proofs.Math.Bool.{and_assoc}
use Rattle.rules.specs.Lists.{all, Every}
use Rattle.rules.specs.Templates.{took, unfit, literal}
use Rattle.rules.proofs.ListLaws.{by_bool, and_true, every_take, every_drop}
use Rattle.std.proofs.Common.{Option, Some, None, ℕ, zero, suc, ◌+◌, ◌-◌, ◌*◌, ◌/◌, ◌%◌, ◌^◌, ◌≤◌, ◌<◌, zero-add, pow-suc, mul_assoc, suc-mul, mod-eq_of_lt, add-one, arith, ◌≡◌, refl, sym, ap, ◌∙◌, true, false, ◌&&◌, cond, List, [], ◌∷◌, ◌++◌, eqb, ltb, length, take, drop, get_or, length-append, length-drop, pow-add, drop-cons, drop-drop, get_or-drop, take_all, take-take, eqb-true, eq-eqb, ne_eqb, ltb-true}
use Rattle.grammar.specs.Words.{Byte, word_of, begins, plain, After}

-- the characters that stand for themselves fit where the text begins with them
pub literal_begins : (w l : List ℕ) → literal w l ≡ cond (begins w l) (took tt (drop (length w) l)) unfit
unfolding literal begins
literal_begins [] l = refl
literal_begins (c ∷ w) [] = refl
literal_begins (c ∷ w) (x ∷ l) = by_bool (eqb x c)
    (λ t. rw t (literal_begins w l))
    (λ t. rw t)

-- and these are then its front
pub begins_front : (w l : List ℕ) → begins w l ≡ true → take (length w) l ≡ w
unfolding begins
begins_front [] l h = refl
begins_front (c ∷ w) [] h = absurd (false≢true h)
begins_front (c ∷ w) (x ∷ l) h =
    let p = and_true (eqb x c) (begins w l) h in
    rw (eqb-true x c p.0, begins_front w l p.1)

-- two words one after the other
begins_both : (v w l : List ℕ) → begins (v ++ w) l ≡ (begins v l && begins w (drop (length v) l))
unfolding begins
begins_both [] w l = refl
begins_both (c ∷ v) w [] = refl
begins_both (c ∷ v) w (x ∷ l) = rw (begins_both v w l) (sym (and_assoc (eqb x c) (begins v l) (begins w (drop (length v) l))))

module _ (v w s : List ℕ) (at : ℕ) where
  pub not_first : begins v (drop at s) ≡ false → begins (v ++ w) (drop at s) ≡ false
  not_first h = rw (begins_both v w (drop at s), h)

  -- the second where the first ends
  pub both_after : (next : ℕ) (x : Option ℕ) → (begins v (drop at s) ≡ true) × (next ≡ at + length v) → After w s next x → After (v ++ w) s at x
  both_after next None h k = rw (begins_both v w (drop at s), h.0, drop-drop (length v) at s, ← h.1) k
  both_after next (Some e) h k = (rw (begins_both v w (drop at s), h.0, drop-drop (length v) at s, ← h.1) k.0, let n = length-append v w in omega (arith, h.1, k.1))

-- ---- Bytes

-- a list that has a byte at each place
pub every_byte : (l : List ℕ) → ((i : ℕ) → get_or l i 0 < 256) → Every Byte l
every_byte [] h = tt
every_byte (x ∷ l) h = (h 0, every_byte l (λ i. h (suc i)))

-- ---- A number's low and high bytes

-- the number of the first k bytes, and that of the rest above it
word_parts : (k : ℕ) (l : List ℕ) → word_of (take k l) + word_of (drop k l) * 256 ^ k ≡ word_of l
unfolding word_of
word_parts zero l = omega arith
word_parts (suc k) [] = omega arith
word_parts (suc k) (b ∷ l) = rw (pow-suc, ← mul_assoc) (omega (arith, word_parts k l))

word_below : (k : ℕ) (l : List ℕ) → Every Byte (take k l) → word_of (take k l) < 256 ^ k
unfolding word_of
word_below zero l e = omega arith
word_below (suc k) [] e = one-le-pow (suc k) 256 (omega arith)
word_below (suc k) (b ∷ l) e = rw pow-suc (omega (arith, word_below k l e.1))

-- so what is left of a division is the front, and the quotient the rest
word_front : (k : ℕ) (l : List ℕ) → Every Byte (take k l) → word_of l % 256 ^ k ≡ word_of (take k l)
word_front k l e =
    rw (← word_parts k l) (add-mul-mod_self_right (word_of (take k l)) (word_of (drop k l)) (256 ^ k) ∙ mod-eq_of_lt (word_below k l e))

word_rest : (k : ℕ) (l : List ℕ) → Every Byte (take k l) → word_of l / 256 ^ k ≡ word_of (drop k l)
word_rest k l e =
    rw (← word_parts k l) (add-mul-div_right (word_of (take k l)) (word_of (drop k l)) (one-le-pow k 256 (omega arith)) ∙ rw (div-eq_of_lt (word_below k l e)) (zero-add (word_of (drop k l))))

-- ---- A word at the front of a text

-- two numbers are equal where their low bytes and the rest are
word_eqb : (x c m n : ℕ) → Byte x → Byte c → eqb (x + m * 256) (c + n * 256) ≡ (eqb x c && eqb m n)
word_eqb x c m n hx hc = by_bool (eqb x c)
    (λ t. rw t (by_bool (eqb m n)
    (λ u. let p = eqb-true x c t in let q = eqb-true m n u in rw u (eq-eqb (x + m * 256) (c + n * 256) (omega arith)))
    (λ u. let p = eqb-true x c t in rw u (ne_eqb (x + m * 256) (c + n * 256) (λ e. eqb-false m n u (omega arith))))))
    (λ t. rw t (ne_eqb (x + m * 256) (c + n * 256) (λ e. eqb-false x c t (omega arith))))

-- a text that ends before the word reads as zeros, which a plain word has not
front_begins : (w l : List ℕ) → plain w ≡ true → Every Byte w → Every Byte (take (length w) l) → eqb (word_of (take (length w) l)) (word_of w) ≡ begins w l
unfolding word_of begins plain all
front_begins [] l p e k = refl
front_begins (c ∷ w) [] p e k =
    let h = ltb-true 0 c (and_true (ltb 0 c) (all (ltb 0) w) p).0 in
    ne_eqb 0 (c + word_of w * 256) (λ q. omega arith)
front_begins (c ∷ w) (x ∷ l) p e k =
    word_eqb x c (word_of (take (length w) l)) (word_of w) k.0 e.0
    ∙ ap (λ t. eqb x c && t) (front_begins w l (and_true (ltb 0 c) (all (ltb 0) w) p).1 e.1 k.1)

-- one comparison tells whether the word stands there
pub begins_word : (w l : List ℕ) → length w ≤ 7 → plain w ≡ true → Every Byte w → Every Byte (take 8 l)
    → eqb (word_of (take 8 l) % 256 ^ length w) (word_of w) ≡ begins w l
begins_word w l h p e k =
    let s : take (length w) (take 8 l) ≡ take (length w) l = take-take (length w) 8 l (omega arith) in
    let b : Every Byte (take (length w) l) = rw s at (every_take Byte (length w) (take 8 l) k) in
    rw (word_front (length w) (take 8 l) (rw s b), s) (front_begins w l p e b)

-- a byte past a place
pub byte_past : (s : List ℕ) (at i : ℕ) → get_or (drop at s) i 0 ≡ get_or s (at + i) 0
byte_past s at i = get_or-drop at s i 0

-- ---- Eight bytes of a text

-- one byte after the other
pub drop_next : (s : List ℕ) (at next : ℕ) → at < length s → next ≡ at + 1 → drop at s ≡ get_or s at 0 ∷ drop next s
drop_next s at next h e = rw (drop-cons s at 0 h, e, add-one)

word_cons : (s : List ℕ) (n at next : ℕ) → at < length s → next ≡ at + 1 → word_of (take (suc n) (drop at s)) ≡ get_or s at 0 + word_of (take n (drop next s)) * 256
unfolding word_of
word_cons s n at next h e = rw (drop_next s at next h e)

pub word_eight : (s : List ℕ) (at : ℕ) {b₀ b₁ b₂ b₃ b₄ b₅ b₆ b₇ : ℕ} → at + 8 ≤ length s
    → b₀ ≡ get_or s at 0 → b₁ ≡ get_or s (at + 1) 0 → b₂ ≡ get_or s (at + 2) 0 → b₃ ≡ get_or s (at + 3) 0
    → b₄ ≡ get_or s (at + 4) 0 → b₅ ≡ get_or s (at + 5) 0 → b₆ ≡ get_or s (at + 6) 0 → b₇ ≡ get_or s (at + 7) 0
    → b₀ + b₁ * 256 + b₂ * 65536 + b₃ * 16777216 + b₄ * 4294967296 + b₅ * 1099511627776 + b₆ * 281474976710656 + b₇ * 72057594037927936
    ≡ word_of (take 8 (drop at s))
unfolding word_of
word_eight s at h e₀ e₁ e₂ e₃ e₄ e₅ e₆ e₇ = omega (
  arith,
  word_cons s 7 at (at + 1) (omega arith) (omega arith),
  word_cons s 6 (at + 1) (at + 2) (omega arith) (omega arith),
  word_cons s 5 (at + 2) (at + 3) (omega arith) (omega arith),
  word_cons s 4 (at + 3) (at + 4) (omega arith) (omega arith),
  word_cons s 3 (at + 4) (at + 5) (omega arith) (omega arith),
  word_cons s 2 (at + 5) (at + 6) (omega arith) (omega arith),
  word_cons s 1 (at + 6) (at + 7) (omega arith) (omega arith),
  word_cons s 0 (at + 7) (at + 8) (omega arith) (omega arith),
)

-- a shift by k bytes
two_pow_eight : (k : ℕ) → 2 ^ (k * 8) ≡ 256 ^ k
two_pow_eight zero = refl
two_pow_eight (suc k) = rw (suc-mul, pow-add, two_pow_eight k, pow-suc 256 k)

-- fewer than eight left: the last eight of the text, without those before the place
pub word_last : (s : List ℕ) (at : ℕ) → 8 ≤ length s → length s < at + 8 → at ≤ length s → Every Byte (take 8 (drop (length s - 8) s))
    → (word_of (take 8 (drop (length s - 8) s)) / 2 ^ ((at + 8 - length s) * 8) ≡ word_of (take 8 (drop at s))) × Every Byte (take 8 (drop at s))
word_last s at h k m e =
    let n = at + 8 - length s in
    let a : take 8 (drop (length s - 8) s) ≡ drop (length s - 8) s = take_all 8 (drop (length s - 8) s) (rw length-drop (omega arith)) in
    let b : take 8 (drop at s) ≡ drop at s = take_all 8 (drop at s) (rw length-drop (omega arith)) in
    let i : length s - 8 + n ≡ at = omega arith in
    let d : drop n (drop (length s - 8) s) ≡ drop at s = rw (drop-drop, i) in
    let f : Every Byte (drop (length s - 8) s) = rw a at e in
    rw (two_pow_eight n, a, b, ← d) (word_rest n (drop (length s - 8) s) (every_take Byte n (drop (length s - 8) s) f), every_drop Byte n (drop (length s - 8) s) f)

-- ---- A fixed word as one number, and the number above all words of its length

-- a word's last byte first
pub word_earlier : (w : List ℕ) (i : ℕ) {x b : ℕ} → 0 < i → i ≤ length w → x ≡ word_of (drop i w) → b ≡ get_or w (i - 1) 0 → x * 256 + b ≡ word_of (drop (i - 1) w)
unfolding word_of
word_earlier w i h k e f = rw (drop_next w (i - 1) i (omega arith) (omega arith)) (omega arith)

-- at most six bytes, so that one more fits
pub six_bytes : (w : List ℕ) (i : ℕ) → Every Byte w → 0 < i → length w ≤ 7 → word_of (drop i w) < 281474976710656
six_bytes w i e h k =
    let a : take 6 (drop i w) ≡ drop i w = take_all 6 (drop i w) (rw length-drop (omega arith)) in
    rw a at (word_below 6 (drop i w) (rw a (every_drop Byte i w e)))

-- the number above all words of at most seven bytes, as a shift
pub span_shift : (n : ℕ) → n ≤ 7 → 1 * 2 ^ (n * 8) % 18446744073709551616 ≡ 256 ^ n
span_shift n h =
    let k : 256 ^ n ≤ 72057594037927936 = pow-le-pow_right {n = 256} (omega arith) h in
    rw two_pow_eight (omega arith)

-- Numbers, operands and capabilities by the bytes at their places.
use Rattle.std.proofs.lemmas.Bool.{false≢true, eqb-false, lt-leb}
use Prim.Native.Char.{code}
use Rattle.std.proofs.Math.Decide.{dec_lt}
use Rattle.std.proofs.Math.Bool.{and-true, and-false}
use Rattle.std.proofs.Math.ListN.{get_or-eq_default}
use Rattle.rules.specs.declared.Cap.{Cap}
use Rattle.rules.specs.declared.Cap.TheVariants.{Imm, Iso, Local, Unsafe}
use Rattle.rules.specs.Lists.{place_of}
use Rattle.rules.specs.Text.{bytes}
use Rattle.rules.specs.Script.{Operand, reads, takes}
use Rattle.rules.specs.Templates.{Taken, took, unfit, ◌>>=◌, or_else, digit_of, digits_at, is_number, decimal_value, number, operand_by, operand, cap_word, cap_by, capability}
use Rattle.rules.specs.Tables.{operand_of}
use Rattle.rules.proofs.ListLaws.{by_bool}
use Rattle.std.proofs.Common.{Option, Some, None, ℕ, zero, suc, ◌+◌, ◌*◌, ◌/◌, ◌%◌, ◌≤◌, ◌<◌, arith, ◌≡◌, refl, sym, ap, ◌∙◌, Bool, true, false, ◌&&◌, ◌||◌, cond, List, [], ◌∷◌, eqb, ltb, leb, length, drop, get_or, drop_of_length-le, drop-drop, ltb-true, eqb-true, lt-ltb, le-leb, ne_eqb}
use Rattle.std.specs.Option.{is_some}
use mir.Val.{bool_byte}
use Rattle.grammar.specs.Words.{begins}
use Rattle.grammar.specs.Parts.{Digit}
use Rattle.grammar.proofs.WordLaws.{literal_begins, begins_front, drop_next}

-- ---- Digits

-- numbers that follow one another, as the codes of the digits do
abbrev run : ℕ → ℕ → List ℕ
run a zero = []
run a (suc n) = a ∷ run (suc a) n

-- one of them stands at its distance from the first
place_in_run : (b a n : ℕ) → a ≤ b → b < a + n → place_of b (run a n) + a ≡ b
unfolding place_of
place_in_run b a zero h k = absurd (omega arith)
place_in_run b a (suc n) h k = by_bool (eqb b a)
    (λ t. let e = eqb-true b a t in rw t (omega arith))
    (λ t. let e = eqb-false b a t in rw t (omega (arith, place_in_run b (suc a) n (omega arith) (omega arith))))

-- what is not below them stands past them
place_past_run : (b a n : ℕ) → (a ≤ b → a + n ≤ b) → place_of b (run a n) ≡ n
unfolding place_of
place_past_run b a zero h = refl
place_past_run b a (suc n) h = by_bool (eqb b a)
    (λ t. let e = eqb-true b a t in absurd (let k = h (omega arith) in omega arith))
    (λ t. rw t (ap suc (place_past_run b (suc a) n (λ k. let m = h (omega arith) in omega arith))))

-- the digits' codes are 48 to 57
pub digit_low : (b : ℕ) → b < 48 → ltb (digit_of b) 10 ≡ false
digit_low b h = rw (place_past_run b 48 10 (λ k. absurd (omega arith)))

pub no_digit : (b : ℕ) → (48 ≤ b → 58 ≤ b) → ltb (digit_of b) 10 ≡ false
no_digit b h = rw (place_past_run b 48 10 h)

pub digit_high : (b : ℕ) → 48 ≤ b → leb b 57 ≡ ltb (digit_of b) 10
digit_high b h = go (dec_lt b 58)
  where
    go : Dec (b < 58) → leb b 57 ≡ ltb (digit_of b) 10
    go (yes k) = le-leb b 57 (omega arith) ∙ sym (lt-ltb (digit_of b) 10 (omega (arith, place_in_run b 48 10 h k)))
    go (no n) = lt-leb b 57 (omega arith) ∙ sym (rw (place_past_run b 48 10 (λ k. omega arith)))

pub digit_code : (b : ℕ) → ltb (digit_of b) 10 ≡ true → digit_of b + 48 ≡ b
digit_code b t = go (dec_lt b 48) (dec_lt b 58)
  where
    none : (48 ≤ b → 58 ≤ b) → digit_of b + 48 ≡ b
    none h = absurd (let e = place_past_run b 48 10 h in let k = ltb-true (digit_of b) 10 t in omega arith)

    go : Dec (b < 48) → Dec (b < 58) → digit_of b + 48 ≡ b
    go (yes h) k = none (λ m. absurd (omega arith))
    go (no h) (yes k) = place_in_run b 48 10 (omega arith) k
    go (no h) (no k) = none (λ m. omega arith)

pub is_digit : (b : ℕ) (x : Option ℕ) → Digit b x → ltb (digit_of b) 10 ≡ is_some x
is_digit b None h = h
is_digit b (Some d) h = h.0

-- ---- Numbers

digits_end : (s : List ℕ) (at a : ℕ) → a ≡ get_or s at 0 → ltb (digit_of a) 10 ≡ false → digits_at (drop at s) ≡ ([], drop at s)
unfolding digits_at
digits_end s at a e f = go (dec_lt at (length s))
  where
    go : Dec (at < length s) → digits_at (drop at s) ≡ ([], drop at s)
    go (yes h) = rw (drop_next s at (at + 1) h refl, ← e, f)
    go (no n) = rw (drop_of_length-le s {i = at} (omega arith))

-- (no digit stands past the end)
digits_more : (s : List ℕ) (at next a : ℕ) → a ≡ get_or s at 0 → next ≡ at + 1 → ltb (digit_of a) 10 ≡ true
    → digits_at (drop at s) ≡ (digit_of a ∷ (digits_at (drop next s)).0, (digits_at (drop next s)).1)
unfolding digits_at place_of
digits_more s at next a e n t = go (dec_lt at (length s))
  where
    go : Dec (at < length s) → digits_at (drop at s) ≡ (digit_of a ∷ (digits_at (drop next s)).0, (digits_at (drop next s)).1)
    go (yes h) = rw (drop_next s at next h n, ← e, t)
    go (no m) = absurd (false≢true (rw (e ∙ get_or-eq_default s 0 {n = at} (omega arith)) at t))

-- "one to three digits, no needless leading zero"
four_digits : (a b c d : ℕ) (ds : List ℕ) → is_number (a ∷ b ∷ c ∷ d ∷ ds) ≡ false
unfolding is_number
four_digits a b c d ds = rw (lt-leb (length (b ∷ c ∷ d ∷ ds)) 2 (omega arith))

leading_zero : (b : ℕ) (ds : List ℕ) → is_number (0 ∷ b ∷ ds) ≡ false
unfolding is_number
leading_zero b ds = rw (ne_eqb (length (b ∷ ds)) 0 (λ e. omega arith)) (and-false (leb (length (b ∷ ds)) 2))

-- A number's cases: a, b, c and d are the bytes at its four first places, u, v and w the values of those that are digits.
module _ (s : List ℕ) (at a : ℕ) (ha : a ≡ get_or s at 0) where
  pub number_none : ltb (digit_of a) 10 ≡ false → number (drop at s) ≡ unfit
  unfolding number is_number
  number_none f = rw (digits_end s at a ha f)

  module _ (ta : ltb (digit_of a) 10 ≡ true) (b : ℕ) (hb : b ≡ get_or s (at + 1) 0) where
    pub number_one : ltb (digit_of b) 10 ≡ false → (u : ℕ) → u ≡ digit_of a → number (drop at s) ≡ took u (drop (at + 1) s)
    unfolding number is_number decimal_value
    number_one f u eu =
        let e : 0 + digit_of a ≡ u = omega (arith, ltb-true (digit_of a) 10 ta) in
        rw (digits_more s at (at + 1) a ha refl ta, digits_end s (at + 1) b hb f, e)

    module _ (tb : ltb (digit_of b) 10 ≡ true) where
      two_more : digits_at (drop at s) ≡ (digit_of a ∷ digit_of b ∷ (digits_at (drop (at + 2) s)).0, (digits_at (drop (at + 2) s)).1)
      two_more = rw (digits_more s at (at + 1) a ha refl ta, digits_more s (at + 1) (at + 2) b hb (omega arith) tb)

      pub number_zero : digit_of a ≡ 0 → number (drop at s) ≡ unfit
      unfolding number
      number_zero e = rw (two_more, e, leading_zero (digit_of b) (digits_at (drop (at + 2) s)).0)

      module _ (za : digit_of a ≡ 0 → ⊥) (c : ℕ) (hc : c ≡ get_or s (at + 2) 0) where
        not_zero : eqb (digit_of a) 0 ≡ false
        not_zero = ne_eqb (digit_of a) 0 za

        pub number_two : ltb (digit_of c) 10 ≡ false → (u v : ℕ) → u ≡ digit_of a → v ≡ digit_of b → number (drop at s) ≡ took (u * 10 + v) (drop (at + 2) s)
        unfolding number is_number decimal_value
        number_two f u v eu ev =
            let e : (0 + digit_of a) * 10 + digit_of b ≡ u * 10 + v = omega (arith, ltb-true (digit_of a) 10 ta, ltb-true (digit_of b) 10 tb) in
            rw (two_more, digits_end s (at + 2) c hc f, not_zero, e)

        module _ (tc : ltb (digit_of c) 10 ≡ true) (d : ℕ) (hd : d ≡ get_or s (at + 3) 0) where
          three_more : digits_at (drop at s) ≡ (digit_of a ∷ digit_of b ∷ digit_of c ∷ (digits_at (drop (at + 3) s)).0, (digits_at (drop (at + 3) s)).1)
          three_more = rw (two_more, digits_more s (at + 2) (at + 3) c hc (omega arith) tc)

          pub number_long : ltb (digit_of d) 10 ≡ true → number (drop at s) ≡ unfit
          unfolding number
          number_long t =
              rw (three_more, digits_more s (at + 3) (at + 4) d hd (omega arith) t, four_digits (digit_of a) (digit_of b) (digit_of c) (digit_of d) (digits_at (drop (at + 4) s)).0)

          pub number_whole : ltb (digit_of d) 10 ≡ false → (u v w : ℕ) → u ≡ digit_of a → v ≡ digit_of b → w ≡ digit_of c
              → number (drop at s) ≡ took (u * 100 + v * 10 + w) (drop (at + 3) s)
          unfolding number is_number decimal_value
          number_whole f u v w eu ev ew =
              let e : ((0 + digit_of a) * 10 + digit_of b) * 10 + digit_of c ≡ u * 100 + v * 10 + w =
              omega (arith, ltb-true (digit_of a) 10 ta, ltb-true (digit_of b) 10 tb, ltb-true (digit_of c) 10 tc) in
              rw (three_more, digits_end s (at + 3) d hd f, not_zero, e)

-- ---- Operands

-- the word of an operand is one more where it takes
pub taken_word : (t : Bool) {x : ℕ} → x ≡ bool_byte t → x ≡ cond t 1 0
taken_word true h = h
taken_word false h = h

-- no text begins with both words
read_or_take : (l : List ℕ) → begins (bytes "(read ") l ≡ true → begins (bytes "(take ") l ≡ false
read_or_take l r = by_bool (begins (bytes "(take ") l)
    (λ t. let e : ◌≡◌ {A = ℕ} 114 116 = ap (λ k. get_or k 1 0) (sym (begins_front (bytes "(read ") l r) ∙ begins_front (bytes "(take ") l t) in absurd (omega arith))
    (λ f. f)

operand_by_begins : (s : List ℕ) (at slot end : ℕ) (w : List ℕ) (f : ℕ → Operand) → number (drop (at + 6) s) ≡ took slot (drop end s) → length w ≡ 6
    → operand_by w f (drop at s) ≡ cond (begins w (drop at s) && begins (bytes ")") (drop end s)) (took (f slot) (drop (end + 1) s)) unfit
unfolding operand_by ◌>>=◌
operand_by_begins s at slot end w f h n =
    let a : drop (length w) (drop at s) ≡ drop (at + 6) s = rw n (drop-drop 6 at s) in
    let z : drop 1 (drop end s) ≡ drop (end + 1) s = drop-drop 1 end s in
    by_bool (begins w (drop at s))
    (λ t. by_bool (begins (bytes ")") (drop end s))
    (λ u. rw (literal_begins w (drop at s), t, a, h, literal_begins (bytes ")") (drop end s), u, z))
    (λ u. rw (literal_begins w (drop at s), t, a, h, literal_begins (bytes ")") (drop end s), u)))
    (λ t. rw (literal_begins w (drop at s), t))

-- where no number stands in it
no_operand_by : (s : List ℕ) (at : ℕ) (w : List ℕ) (f : ℕ → Operand) → number (drop (at + 6) s) ≡ unfit → length w ≡ 6 → operand_by w f (drop at s) ≡ unfit
unfolding operand_by ◌>>=◌
no_operand_by s at w f h n =
    let a : drop (length w) (drop at s) ≡ drop (at + 6) s = rw n (drop-drop 6 at s) in
    by_bool (begins w (drop at s))
    (λ t. rw (literal_begins w (drop at s), t, a, h))
    (λ t. rw (literal_begins w (drop at s), t))

pub operand_none : (s : List ℕ) (at : ℕ) → number (drop (at + 6) s) ≡ unfit → operand (drop at s) ≡ unfit
unfolding operand or_else
operand_none s at h = rw (no_operand_by s at (bytes "(read ") reads h refl, no_operand_by s at (bytes "(take ") takes h refl)

module _ (s : List ℕ) (at slot end : ℕ) (h : number (drop (at + 6) s) ≡ took slot (drop end s)) where
  pub operand_begins : (r t : Bool) (taken : ℕ) → r ≡ begins (bytes "(read ") (drop at s) → t ≡ begins (bytes "(take ") (drop at s) → taken ≡ cond t 1 0
      → operand (drop at s)
      ≡ cond ((r || t) && begins (bytes ")") (drop end s)) (took (operand_of (slot * 2 + taken)) (drop (end + 1) s)) unfit
  unfolding operand or_else
  operand_begins r t taken hr ht e =
      rw (operand_by_begins s at slot end (bytes "(read ") reads h refl, operand_by_begins s at slot end (bytes "(take ") takes h refl, ← hr, ← ht)
      (go r t (begins (bytes ")") (drop end s)) (λ k. ht ∙ read_or_take (drop at s) (sym hr ∙ k)) e)
    where
      go : (r t x : Bool) → (r ≡ true → t ≡ false) → taken ≡ cond t 1 0
          → or_else (cond (r && x) (took (reads slot) (drop (end + 1) s)) unfit) (cond (t && x) (took (takes slot) (drop (end + 1) s)) unfit)
          ≡ cond ((r || t) && x) (took (operand_of (slot * 2 + taken)) (drop (end + 1) s)) unfit
      go true true x k e = absurd (false≢true (sym (k refl)))
      go true false true k e =
          let p : (slot * 2 + taken) % 2 ≡ 0 = omega arith in
          let q : (slot * 2 + taken) / 2 ≡ slot = omega arith in
          rw (p, q)
      go true false false k e = refl
      go false true true k e =
          let p : (slot * 2 + taken) % 2 ≡ 1 = omega arith in
          let q : (slot * 2 + taken) / 2 ≡ slot = omega arith in
          rw (p, q)
      go false true false k e = refl
      go false false x k e = refl

-- where a digit and a closing bracket stand at their places, the slot is that digit
closes : (s : List ℕ) (at b : ℕ) → b ≡ get_or s at 0 → b ≡ code ")" → begins (bytes ")") (drop at s) ≡ true
unfolding begins
closes s at b e t = go (dec_lt at (length s))
  where
    go : Dec (at < length s) → begins (bytes ")") (drop at s) ≡ true
    go (yes h) = rw (drop_next s at (at + 1) h refl, ← e, t)
    go (no n) = absurd (omega (arith, get_or-eq_default s 0 {n = at} (omega arith)))

bracket_no_digit : (b : ℕ) → b ≡ code ")" → ltb (digit_of b) 10 ≡ false
bracket_no_digit b t = digit_low b (omega arith)

pub operand_short : (s : List ℕ) (at a b u : ℕ) → a ≡ get_or s (at + 6) 0 → b ≡ get_or s (at + 7) 0 → ltb (digit_of a) 10 ≡ true → b ≡ code ")" → u ≡ digit_of a
    → (r t : Bool) (taken : ℕ) → r ≡ begins (bytes "(read ") (drop at s) → t ≡ begins (bytes "(take ") (drop at s) → taken ≡ cond t 1 0
    → operand (drop at s) ≡ cond (r || t) (took (operand_of (u * 2 + taken)) (drop (at + 8) s)) unfit
operand_short s at a b u ha hb ta tb eu r t taken hr ht e =
    let next : at + 6 + 1 ≡ at + 7 = omega arith in
    let past : at + 7 + 1 ≡ at + 8 = omega arith in
    let slot : number (drop (at + 6) s) ≡ took u (drop (at + 7) s) = rw next at (number_one s (at + 6) a ha ta b (rw next hb) (bracket_no_digit b tb) u eu) in
    rw (closes s (at + 7) b hb tb, and-true, past) at (operand_begins s at u (at + 7) slot r t taken hr ht e)

-- ---- Capabilities

cap_by_begins : (k : Cap) (l : List ℕ) → cap_by k l ≡ cond (begins (cap_word k) l) (took k (drop (length (cap_word k)) l)) unfit
unfolding cap_by ◌>>=◌
cap_by_begins k l = by_bool (begins (cap_word k) l)
    (λ t. rw (literal_begins (cap_word k) l, t))
    (λ f. rw (literal_begins (cap_word k) l, f))

or_cond : {A : Type 0} (b : Bool) (a : A) (l : List ℕ) (y : Taken A) → or_else (cond b (took a l) unfit) y ≡ cond b (took a l) y
unfolding or_else
or_cond true a l y = refl
or_cond false a l y = refl

-- the four words in turn
pub capability_begins : (s : List ℕ) (at : ℕ)
    → capability (drop at s)
    ≡ cond (begins (bytes "imm") (drop at s)) (took Imm (drop (at + 3) s))
    (cond (begins (bytes "iso") (drop at s)) (took Iso (drop (at + 3) s))
    (cond (begins (bytes "local") (drop at s)) (took Local (drop (at + 5) s))
    (cond (begins (bytes "unsafe") (drop at s)) (took Unsafe (drop (at + 6) s)) unfit)))
unfolding capability
capability_begins s at = rw (
  cap_by_begins Imm (drop at s),
  cap_by_begins Iso (drop at s),
  cap_by_begins Local (drop at s),
  cap_by_begins Unsafe (drop at s),
  or_cond,
  or_cond,
  or_cond,
  drop-drop 3 at s,
  drop-drop 5 at s,
  drop-drop 6 at s,
)

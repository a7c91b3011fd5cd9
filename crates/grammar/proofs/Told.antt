-- A form is read straight on: each part at the place where the part before it ends; the form fits where all parts do.
use Rattle.std.proofs.lemmas.Bool.{false≢true}
use Rattle.std.proofs.Common.{Option, None, ℕ, ◌+◌, ◌≡◌, refl, sym, true, false, List, [], ◌∷◌, ◌++◌, map, eqb, length, drop, drop-drop}
use Rattle.rules.specs.Script.{Operand}
use Rattle.rules.specs.declared.Cap.{Cap}
use Rattle.rules.specs.Templates.{Taken, took, unfit, ◌>>=◌, literal, number, operand, capability, many, Part, character, one_number, one_operand, one_cap, many_numbers, many_operands, Holds, fit, rule_at}
use Rattle.rules.proofs.ListLaws.{by_bool, and_true, impossible}
use Rattle.grammar.specs.Words.{begins}
use Rattle.grammar.specs.Decoded.{FormAt, after_word}
use Rattle.grammar.specs.declared.forms.Line.{Line}

-- the template fits at a place, with parts p, and ends at e; or it does not fit
pub record Fits (t : List Part) (s : List ℕ) (at : ℕ) (p : Holds t) (e : ℕ) : Type 0 where
  pub fits : fit t (drop at s) ≡ took p (drop e s)

pub record Fails (t : List Part) (s : List ℕ) (at : ℕ) : Type 0 where
  pub fails : fit t (drop at s) ≡ unfit

-- characters hold no part
abbrev pub through : (w : List ℕ) (t : List Part) → Holds t → Holds (map character w ++ t)
through [] t p = p
through (c ∷ w) t p = through w t p

-- a template after a fixed word fits where the word stands and then the template fits
module _ (t : List Part) where
  word_fits : (w l : List ℕ) (p : Holds t) (rest : List ℕ) → begins w l ≡ true → fit t (drop (length w) l) ≡ took p rest
      → fit (map character w ++ t) l ≡ took (through w t p) rest
  unfolding begins fit literal ◌>>=◌
  word_fits [] l p rest h k = k
  word_fits (c ∷ w) [] p rest h k = absurd (false≢true h)
  word_fits (c ∷ w) (x ∷ l) p rest h k = let q = and_true (eqb x c) (begins w l) h in rw q.0 (word_fits w l p rest q.1 k)

  word_fails : (w l : List ℕ) → begins w l ≡ false → fit (map character w ++ t) l ≡ unfit
  unfolding begins fit literal ◌>>=◌
  word_fails [] l h = absurd (false≢true (sym h))
  word_fails (c ∷ w) [] h = refl
  word_fails (c ∷ w) (x ∷ l) h = by_bool (eqb x c) (λ y. rw y (word_fails w l (rw y at h))) (λ y. rw y)

  rest_fails : (w l : List ℕ) → fit t (drop (length w) l) ≡ unfit → fit (map character w ++ t) l ≡ unfit
  unfolding fit literal ◌>>=◌
  rest_fails [] l h = h
  rest_fails (c ∷ w) [] h = refl
  rest_fails (c ∷ w) (x ∷ l) h = by_bool (eqb x c) (λ y. rw y (rest_fails w l h)) (λ y. rw y)

abbrev pair : {A B : Type 0} → A → B → A × B
pair a b = (a, b)

-- one part and then the others
module _ {A B : Type 0} {x : Taken A} (f : List ℕ → Taken B) where
  part_fits : (a : A) (p : B) (l₁ l₂ : List ℕ) → x ≡ took a l₁ → f l₁ ≡ took p l₂ → (x >>= λ a l. f l >>= λ p l. took (pair a p) l) ≡ took (pair a p) l₂
  unfolding ◌>>=◌
  part_fits a p l₁ l₂ h g = rw (h, g)

  part_fails : x ≡ unfit → (x >>= λ a l. f l >>= λ p l. took (pair a p) l) ≡ unfit
  unfolding ◌>>=◌
  part_fails h = rw h

  others_fail : (a : A) (l₁ : List ℕ) → x ≡ took a l₁ → f l₁ ≡ unfit → (x >>= λ a l. f l >>= λ p l. took (pair a p) l) ≡ unfit
  unfolding ◌>>=◌
  others_fail a l₁ h g = rw (h, g)

-- what comes after a word that tells the form
module _ (w : List ℕ) (t : List Part) (s : List ℕ) (at : ℕ) where
  pub after_fits : (p : Holds t) (end : ℕ) → after_word w t s at ≡ took p (drop end s) → fit (map character w ++ t) (drop at s) ≡ took (through w t p) (drop end s)
  after_fits p end h = by_bool (begins w (drop at s))
      (λ y. word_fits t w (drop at s) p (drop end s) y (rw (drop-drop (length w) at s) (rw y at h)))
      (λ y. let k = rw y at h in impossible cc)

  pub after_fails : after_word w t s at ≡ unfit → fit (map character w ++ t) (drop at s) ≡ unfit
  after_fails h = by_bool (begins w (drop at s))
      (λ y. rest_fails t w (drop at s) (rw (drop-drop (length w) at s) (rw y at h)))
      (λ y. word_fails t w (drop at s) y)

  pub begins_not : begins w (drop at s) ≡ false → after_word w t s at ≡ unfit
  begins_not h = rw h

  module _ {e : ℕ} (h : (begins w (drop at s) ≡ true) × (e ≡ at + length w)) where
    pub begins_then : {p : Holds t} {end last : ℕ} → Fits t s e p last → end ≡ last → after_word w t s at ≡ took p (drop end s)
    begins_then T g = rw (h.0, ← h.1, g) T.fits

    pub begins_past : Fails t s e → after_word w t s at ≡ unfit
    begins_past T = rw (h.0, ← h.1) T.fails

module _ {s : List ℕ} where
  -- nothing is left to read
  pub done : {at : ℕ} → Fits [] s at tt at
  unfolding fit
  done = record { fits = refl }

  pub fits_at : {t : List Part} {at : ℕ} {p : Holds t} {e : ℕ} (end : ℕ) → Fits t s at p e → end ≡ e → fit t (drop at s) ≡ took p (drop end s)
  fits_at end T g = rw g T.fits

  -- the form does not fit, and so there is no line
  pub no_line : (i at : ℕ) (x : Option Line) → x ≡ None → Fails (rule_at i).template s at → FormAt i s at x
  no_line i at x e F = rw e F.fails

  module _ (w : List ℕ) {t : List Part} {at : ℕ} where
    -- a fixed word, which ends at e
    pub word : {p : Holds t} {e end : ℕ} → (begins w (drop at s) ≡ true) × (e ≡ at + length w) → Fits t s e p end → Fits (map character w ++ t) s at (through w t p) end
    word {p} {e} {end} h T = record { fits = word_fits t w (drop at s) p (drop end s) h.0 (rw (drop-drop (length w) at s, ← h.1) T.fits) }

    pub past : {e : ℕ} → (begins w (drop at s) ≡ true) × (e ≡ at + length w) → Fails t s e → Fails (map character w ++ t) s at
    past {e} h T = record { fails = rest_fails t w (drop at s) (rw (drop-drop (length w) at s, ← h.1) T.fails) }

  pub no_word : (w : List ℕ) (t : List Part) {at : ℕ} → begins w (drop at s) ≡ false → Fails (map character w ++ t) s at
  no_word w t {at} h = record { fails = word_fails t w (drop at s) h }

  -- a number, an operand, a capability, numbers, operands
  module _ {t : List Part} {at : ℕ} where
    module _ {n e : ℕ} (h : number (drop at s) ≡ took n (drop e s)) where
      pub a_number : {p : Holds t} {end : ℕ} → Fits t s e p end → Fits (one_number ∷ t) s at (n, p) end
      unfolding fit
      a_number {p} {end} T = record { fits = part_fits (fit t) n p (drop e s) (drop end s) h T.fits }

      pub past_number : Fails t s e → Fails (one_number ∷ t) s at
      unfolding fit
      past_number T = record { fails = others_fail (fit t) n (drop e s) h T.fails }

    module _ {w : Operand} {e : ℕ} (h : operand (drop at s) ≡ took w (drop e s)) where
      pub an_operand : {p : Holds t} {end : ℕ} → Fits t s e p end → Fits (one_operand ∷ t) s at (w, p) end
      unfolding fit
      an_operand {p} {end} T = record { fits = part_fits (fit t) w p (drop e s) (drop end s) h T.fits }

      pub past_operand : Fails t s e → Fails (one_operand ∷ t) s at
      unfolding fit
      past_operand T = record { fails = others_fail (fit t) w (drop e s) h T.fails }

    module _ {k : Cap} {e : ℕ} (h : capability (drop at s) ≡ took k (drop e s)) where
      pub a_cap : {p : Holds t} {end : ℕ} → Fits t s e p end → Fits (one_cap ∷ t) s at (k, p) end
      unfolding fit
      a_cap {p} {end} T = record { fits = part_fits (fit t) k p (drop e s) (drop end s) h T.fits }

      pub past_cap : Fails t s e → Fails (one_cap ∷ t) s at
      unfolding fit
      past_cap T = record { fails = others_fail (fit t) k (drop e s) h T.fails }

    module _ {ns : List ℕ} {e : ℕ} (h : many number (length (drop at s)) (drop at s) ≡ took ns (drop e s)) where
      pub some_numbers : {p : Holds t} {end : ℕ} → Fits t s e p end → Fits (many_numbers ∷ t) s at (ns, p) end
      unfolding fit
      some_numbers {p} {end} T = record { fits = part_fits (fit t) ns p (drop e s) (drop end s) h T.fits }

      pub past_numbers : Fails t s e → Fails (many_numbers ∷ t) s at
      unfolding fit
      past_numbers T = record { fails = others_fail (fit t) ns (drop e s) h T.fails }

    module _ {ws : List Operand} {e : ℕ} (h : many operand (length (drop at s)) (drop at s) ≡ took ws (drop e s)) where
      pub some_operands : {p : Holds t} {end : ℕ} → Fits t s e p end → Fits (many_operands ∷ t) s at (ws, p) end
      unfolding fit
      some_operands {p} {end} T = record { fits = part_fits (fit t) ws p (drop e s) (drop end s) h T.fits }

      pub past_operands : Fails t s e → Fails (many_operands ∷ t) s at
      unfolding fit
      past_operands T = record { fails = others_fail (fit t) ws (drop e s) h T.fails }

    pub no_number : number (drop at s) ≡ unfit → Fails (one_number ∷ t) s at
    unfolding fit
    no_number h = record { fails = part_fails (fit t) h }

    pub no_operand : operand (drop at s) ≡ unfit → Fails (one_operand ∷ t) s at
    unfolding fit
    no_operand h = record { fails = part_fails (fit t) h }

    pub no_cap : capability (drop at s) ≡ unfit → Fails (one_cap ∷ t) s at
    unfolding fit
    no_cap h = record { fails = part_fails (fit t) h }

    pub no_numbers : many number (length (drop at s)) (drop at s) ≡ unfit → Fails (many_numbers ∷ t) s at
    unfolding fit
    no_numbers h = record { fails = part_fails (fit t) h }

    pub no_operands : many operand (length (drop at s)) (drop at s) ≡ unfit → Fails (many_operands ∷ t) s at
    unfolding fit
    no_operands h = record { fails = part_fails (fit t) h }

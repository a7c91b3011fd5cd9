-- A list of parts, read one part after the other: what is read so far, put before what the list still gives at the place reached.
use Rattle.std.proofs.lemmas.Bool.{false≢true}
use Rattle.std.proofs.Common.{ℕ, zero, suc, ◌+◌, ◌≤◌, ◌<◌, add-zero, not-suc-le-zero, arith, ◌≡◌, refl, sym, ap, ◌∙◌, Bool, true, false, cond, List, [], ◌∷◌, ◌++◌, append-nil, append_assoc, eqb, eq-eqb, ne_eqb, length, drop, get_or, length-append, drop-drop, get_or-drop}
use Rattle.rules.specs.Text.{space}
use Rattle.rules.specs.Templates.{Taken, took, unfit, ◌>>=◌, number, operand, many}
use Rattle.rules.proofs.ListLaws.{by_bool}
use Rattle.rules.proofs.Printing.{Says, untaken, taken, says_of, Front, number_front, operand_front}

-- the parts ws put before those that are taken
abbrev pub onto : {A : Type 0} → List A → Taken (List A) → Taken (List A)
onto ws (took us l) = took (ws ++ us) l
onto ws unfit = unfit

-- as many parts as there are
abbrev pub list : {A : Type 0} → (List ℕ → Taken A) → List ℕ → Taken (List A)
list p l = many p (length l) l

onto_nil : {A : Type 0} (x : Taken (List A)) → onto [] x ≡ x
onto_nil (took us l) = refl
onto_nil unfit = refl

onto_snoc : {A : Type 0} (ws : List A) (a : A) (x : Taken (List A)) → onto ws (onto (a ∷ []) x) ≡ onto (ws ++ (a ∷ [])) x
onto_snoc ws a (took us l) = rw append_assoc
onto_snoc ws a unfit = refl

onto_one : {A : Type 0} (a : A) (x : Taken (List A)) → (x >>= λ rest l. took (a ∷ rest) l) ≡ onto (a ∷ []) x
unfolding ◌>>=◌
onto_one a (took us l) = refl
onto_one a unfit = refl

-- ---- A part leaves no longer text than it was given

abbrev pub Shortens : {A : Type 0} → (List ℕ → Taken A) → Type 0
Shortens p = (l : List ℕ) → Says (λ a l₁. length l₁ ≤ length l) (p l)

front_shortens : {A : Type 0} {f : A → List ℕ} {Q : A → Type 0} {p : List ℕ → Taken A} → ((l : List ℕ) → Says (Front f Q l) (p l)) → Shortens p
front_shortens {A} {f} {Q} {p} h l = go (p l) (h l)
  where
    go : (x : Taken A) → Says (Front f Q l) x → Says (λ a l₁. length l₁ ≤ length l) x
    go (took a l₁) (taken r) = taken {l = l₁} (omega (arith, ap length r.text, length-append (f a) l₁))
    go unfit untaken = untaken

pub number_shortens : Shortens number
number_shortens = front_shortens number_front

pub operand_shortens : Shortens operand
operand_shortens = front_shortens operand_front

-- ---- The list at a place

-- it ends where no space stands
list_ends : {A : Type 0} (p : List ℕ → Taken A) (l : List ℕ) → eqb (get_or l 0 0) space ≡ false → list p l ≡ took [] l
unfolding many
list_ends p [] h = refl
list_ends p (c ∷ l) h = rw h

-- past the end no space stands
space_inside : (s : List ℕ) (e : ℕ) → eqb (get_or s e 0) space ≡ true → e < length s
space_inside [] e h = absurd (false≢true h)
space_inside (c ∷ s) zero h = omega arith
space_inside (c ∷ s) (suc e) h = omega (arith, space_inside s e h)

pub at_space : (s : List ℕ) (e : ℕ) → get_or s e 0 ≡ space → e < length s
at_space s e h = space_inside s e (eq-eqb (get_or s e 0) space h)

module _ {A : Type 0} (p : List ℕ → Taken A) (short : Shortens p) where
  -- the bound plays no part where it is at least the text's length
  many_enough : (k j : ℕ) (l : List ℕ) → length l ≤ k → length l ≤ j → many p k l ≡ many p j l
  unfolding many ◌>>=◌
  many_enough zero zero l h g = refl
  many_enough zero (suc j) [] h g = refl
  many_enough zero (suc j) (c ∷ l) h g = absurd (not-suc-le-zero h)
  many_enough (suc k) zero [] h g = refl
  many_enough (suc k) zero (c ∷ l) h g = absurd (not-suc-le-zero g)
  many_enough (suc k) (suc j) [] h g = refl
  many_enough (suc k) (suc j) (c ∷ l) h g =
      by_bool (eqb c space) (λ t. rw t (go (p l) (short l) (λ l₁ m. many_enough k j l₁ (omega arith) (omega arith)))) (λ t. rw t)
    where
      go : (x : Taken A) → Says (λ a l₁. length l₁ ≤ length l) x → ((l₁ : List ℕ) → length l₁ ≤ length l → many p k l₁ ≡ many p j l₁)
          → (x >>= λ a l₁. many p k l₁ >>= λ rest l₂. took (a ∷ rest) l₂) ≡ (x >>= λ a l₁. many p j l₁ >>= λ rest l₂. took (a ∷ rest) l₂)
      go (took a l₁) (taken m) same = rw (same l₁ m)
      go unfit untaken same = refl

  -- it goes on past a space, if a part stands there
  list_goes_on : (l : List ℕ) (ok : Bool) (a : A) (l₁ : List ℕ) → eqb (get_or l 0 0) space ≡ true → p (drop 1 l) ≡ cond ok (took a l₁) unfit
      → list p l ≡ cond ok (onto (a ∷ []) (list p l₁)) unfit
  unfolding many ◌>>=◌
  list_goes_on [] ok a l₁ t h = absurd (false≢true t)
  list_goes_on (c ∷ l) true a l₁ t h =
      rw (t, h) (onto_one a (many p (length l) l₁) ∙ ap (onto (a ∷ [])) (many_enough (length l) (length l₁) l₁ (says_of (short l) h) (omega arith)))
  list_goes_on (c ∷ l) false a l₁ t h = rw (t, h)

-- ---- The list from a place on, as far as it is read

-- the parts ws are read up to e
pub record ReadTo {A : Type 0} (p : List ℕ → Taken A) (s : List ℕ) (at : ℕ) (ws : List A) (e : ℕ) : Type 0 where
  pub whole : list p (drop at s) ≡ onto ws (list p (drop e s))

pub read_none : {A : Type 0} {p : List ℕ → Taken A} {s : List ℕ} {at e : ℕ} → e ≡ at → ReadTo p s at [] e
read_none {p = p} {s} {at} e = record { whole = rw e (sym (onto_nil (list p (drop at s)))) }

module _ {A : Type 0} {p : List ℕ → Taken A} {s : List ℕ} {at e b : ℕ} {ws : List A} (r : ReadTo p s at ws e) (b≡ : b ≡ get_or s e 0) where
  -- at a space the list goes on
  pub read_inside : b ≡ space → e < length s
  read_inside t = space_inside s e (eq-eqb (get_or s e 0) space (sym b≡ ∙ t))

  pub read_more : {f : ℕ} (a : A) → Shortens p → b ≡ space → p (drop (e + 1) s) ≡ took a (drop f s) → ReadTo p s at (ws ++ (a ∷ [])) f
  read_more {f} a short t h =
      let next = list_goes_on p short (drop e s) true a (drop f s) (rw (get_or-drop, add-zero) (eq-eqb (get_or s e 0) space (sym b≡ ∙ t))) (rw drop-drop h) in
      record { whole = r.whole ∙ ap (onto ws) next ∙ onto_snoc ws a (list p (drop f s)) }

  -- and does not fit where no part stands there
  pub read_fails : Shortens p → (a : A) → b ≡ space → p (drop (e + 1) s) ≡ unfit → list p (drop at s) ≡ unfit
  read_fails short a t h =
      r.whole ∙ ap (onto ws) (list_goes_on p short (drop e s) false a [] (rw (get_or-drop, add-zero) (eq-eqb (get_or s e 0) space (sym b≡ ∙ t))) (rw drop-drop h))

  -- elsewhere it ends
  pub read_all : (b ≡ space → ⊥) → list p (drop at s) ≡ took ws (drop e s)
  read_all t = r.whole ∙ ap (onto ws) (list_ends p (drop e s) (rw (get_or-drop, add-zero) (ne_eqb (get_or s e 0) space (λ k. t (b≡ ∙ k))))) ∙ rw append-nil

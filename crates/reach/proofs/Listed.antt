-- The objects met, in rising order: each has its place in a list of zeros.
use Rattle.std.proofs.Common.{ℕ, ◌+◌, ◌≤◌, ◌<◌, add-one, arith, ◌≡◌, refl, sym, ap, ◌∙◌, subst, Bool, true, false, not, cond, List, [], ◌∷◌, ◌++◌, append-nil, eqb, length, get_or, set, take, drop, replicate, drop_at, length-take-le, eq-eqb, ne_eqb}
use lib.Seq.{set-append_left}
use Rattle.rules.specs.Mosts as Most
use Rattle.rules.specs.Lists.{rising, pad}
use Rattle.rules.specs.Calls.{list_words}
use Rattle.rules.proofs.ListLaws.{length_pad, length_snoc, pad_snoc}
use Rattle.reach.specs.Reported.{met_below}

-- a list whose first 256 words are filled with 0
pub all_cleared : (l m : List ℕ) → 256 ≤ length l → m ≡ replicate (length (take 256 l)) 0 → m ++ drop 256 l ≡ list_words [] ++ drop 256 l
unfolding pad
all_cleared l m wide e = rw (e, length-take-le 256 l wide) refl

-- ---- Number by number

-- before number i: n of those below it are listed
pub record Listing (places : List ℕ) (list : List ℕ) (i n : ℕ) (list₁ : List ℕ) : Type 0 where
  pub few : n ≤ i
  pub count : n ≡ length (met_below i places)
  pub words : list₁ ≡ list_words (met_below i places) ++ drop Most.reach_list list

-- of a list whose first words are cleared
module _ {cleared : List ℕ} (list : List ℕ) (clears : cleared ≡ list_words [] ++ drop Most.reach_list list) where
  same_rest : drop Most.reach_list cleared ≡ drop Most.reach_list list
  same_rest = ap (drop Most.reach_list) clears ∙ drop_at (list_words []) (drop Most.reach_list list) Most.reach_list (length_pad Most.reach_list 0 [])

  pub none_listed : {places : List ℕ} → Listing places cleared 0 0 cleared
  unfolding rising
  none_listed = record { few = omega arith; count = refl; words = clears ∙ ap (λ (l : List ℕ). list_words [] ++ l) (sym same_rest) }

  pub all_listed : {places : List ℕ} {list₁ : List ℕ} {i n : ℕ} → 256 ≤ i → i ≤ 256 → Listing places cleared i n list₁
      → (n ≡ length (met_below 256 places)) × (list₁ ≡ list_words (met_below 256 places) ++ drop Most.reach_list list)
  all_listed {places} {list₁} {i} {n} low high so =
      let all : i ≡ 256 = omega arith in
      let at = subst (λ (k : ℕ). Listing places cleared k n list₁) all so in
      (at.count, at.words ∙ ap (λ (l : List ℕ). list_words (met_below 256 places) ++ l) same_rest)

met_next : (places : List ℕ) (i : ℕ) (b : Bool) → b ≡ not (eqb (get_or places i 0) 0) → met_below (i + 1) places ≡ met_below i places ++ cond b (i ∷ []) []
unfolding rising
met_next places i b e = ap (λ k. met_below k places) (add-one i) ∙ ap (λ c. met_below i places ++ cond c (i ∷ []) []) (sym e)

module _ {places : List ℕ} {list list₁ list₂ : List ℕ} {i n r : ℕ} (so : Listing places list i n list₁) (more : i < 256) where
  number_next : (b : Bool) → b ≡ not (eqb (get_or places i 0) 0) → r ≡ cond b (n + 1) n → list₂ ≡ cond b (set list₁ n i) list₁ → Listing places list (i + 1) r list₂
  number_next true e place words =
      let xs : List ℕ = met_below i places in
      let rest : List ℕ = drop Most.reach_list list in
      let low : n < Most.reach_list = omega (arith, so.few) in
      let grown = met_next places i true e in
      record {
        few = omega (arith, so.few, place);
        count = place ∙ ap (λ k. k + 1) so.count ∙ sym (ap length grown ∙ length_snoc xs i);
        words = words ∙ ap (λ (l : List ℕ). set l n i) so.words
            ∙ set-append_left (list_words xs) rest n i (omega (arith, low, length_pad Most.reach_list 0 xs))
            ∙ ap (λ (l : List ℕ). l ++ rest) (sym (pad_snoc Most.reach_list 0 xs n i (sym so.count) low))
            ∙ ap (λ (l : List ℕ). list_words l ++ rest) (sym grown);
      }
  number_next false e place words =
      let same = met_next places i false e ∙ append-nil (met_below i places) in
      record {
        few = omega (arith, so.few, place);
        count = place ∙ so.count ∙ sym (ap length same);
        words = words ∙ so.words ∙ ap (λ (l : List ℕ). list_words l ++ drop Most.reach_list list) (sym same);
      }

  pub number_met : (get_or places i 0 ≡ 0 → ⊥) → r ≡ n + 1 → list₂ ≡ set list₁ n i → Listing places list (i + 1) r list₂
  number_met other = number_next true (sym (ap not (ne_eqb (get_or places i 0) 0 other)))

  pub number_not_met : get_or places i 0 ≡ 0 → r ≡ n → list₂ ≡ list₁ → Listing places list (i + 1) r list₂
  number_not_met is = number_next false (sym (ap not (eq-eqb (get_or places i 0) 0 is)))

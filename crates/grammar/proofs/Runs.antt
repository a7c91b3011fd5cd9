-- Parts read one after the other are a list as the rules have it, of what their words stand for.
use Rattle.std.proofs.lemmas.List.{map-append}
use Rattle.std.proofs.Common.{Option, Some, None, ℕ, suc, ◌+◌, ◌/◌, add-one, arith, ◌≡◌, refl, sym, ◌∙◌, Bool, List, [], ◌∷◌, map, eqb, drop}
use Rattle.rules.specs.Lists.{any}
use Rattle.rules.specs.Templates.{Taken, took, unfit, number, operand}
use Rattle.rules.specs.Reading.{slot_of, takes_first}
use Rattle.rules.specs.Tables.{operand_item, operand_of}
use Rattle.rules.proofs.TableWords.{slot_of_word}
use Rattle.grammar.specs.declared.parts.Part.{Part}
use Rattle.grammar.specs.declared.parts.Items.{Items}
use Rattle.grammar.specs.Parts.{told}
use Rattle.grammar.specs.Items.{Run, none, more, ItemsRead, ItemsEnd, ItemsBy, NumbersAt, OperandsAt}
use Rattle.grammar.proofs.Many.{Shortens, list, ReadTo, read_none, read_more, read_fails, read_all, number_shortens, operand_shortens}
use Rattle.grammar.proofs.OperandWords.{operand_item_lem, operand_first}

-- one function after another is a third
map_by : {A B C : Type 0} (f : B → C) (g : A → B) (h : A → C) → ((a : A) → f (g a) ≡ h a) → (l : List A) → map f (map g l) ≡ map h l
map_by f g h e [] = refl
map_by f g h e (a ∷ l) = rw (e a, map_by f g h e l)

map_same : {A B : Type 0} (f g : A → B) → ((a : A) → f a ≡ g a) → (l : List A) → map f l ≡ map g l
map_same f g e [] = refl
map_same f g e (a ∷ l) = rw (e a, map_same f g e l)

any_by : {A B : Type 0} (f : B → Bool) (g : A → B) (h : A → Bool) → ((a : A) → f (g a) ≡ h a) → (l : List A) → any f (map g l) ≡ any h l
unfolding any
any_by f g h e [] = refl
any_by f g h e (a ∷ l) = rw (e a, any_by f g h e l)

-- p reads what a part's word stands for, by f
module _ {A : Type 0} (p : List ℕ → Taken A) (f : ℕ → A) (short : Shortens p) (reads : ℕ → Option Part → Type 0) (s : List ℕ) (h : (e : ℕ) (r : Option Part) → reads e r → p (drop e s) ≡ told f s r) where
  run_to : {at e : ℕ} {ps : List Part} → Run reads s at ps e → ReadTo p s at (map (λ x. f x.word) ps) e
  run_to none = read_none refl
  run_to (more {ps} {e} x r t k) = rw map-append (read_more (run_to r) refl (f x.word) short t (h (e + 1) (Some x) k))

  run_fails : {at : ℕ} → ItemsEnd reads s at → list p (drop at s) ≡ unfit
  run_fails R = read_fails (run_to R.run) refl short (f 0) R.goes_on (h (R.end + 1) None R.none)

  run_whole : {per at : ℕ} {l : Items} (R : ItemsRead reads per s at l) → list p (drop at s) ≡ took (map (λ x. f x.word) R.parts) (drop l.end s)
  run_whole R = read_all (run_to R.run) refl R.ends

module _ (s : List ℕ) (at : ℕ) (reads : ℕ → Option Part → Type 0) where
  pub numbers_run : ((e : ℕ) (r : Option Part) → reads e r → number (drop e s) ≡ told (λ n. n) s r) → (x : Option Items) → ItemsBy reads 1 s at x → NumbersAt s at x
  numbers_run h None R = run_fails number (λ n. n) number_shortens reads s h R
  numbers_run h (Some l) R =
      let items = map_by suc (λ (x : Part). x.word) (λ x. x.word + 1) (λ x. sym (add-one x.word)) R.parts in
      let numbers = map_same (λ (x : Part). x.word) (λ x. x.word / 1) (λ x. omega arith) R.parts in
      record { items = map (λ x. x.word) R.parts; fits = run_whole number (λ n. n) number_shortens reads s h R; listed = rw (items, numbers) R.listed }

  pub operands_run : ((e : ℕ) (r : Option Part) → reads e r → operand (drop e s) ≡ told operand_of s r) → (x : Option Items) → ItemsBy reads 2 s at x → OperandsAt s at x
  operands_run h None R = run_fails operand operand_of operand_shortens reads s h R
  operands_run h (Some l) R =
      let items = map_by operand_item (λ (x : Part). operand_of x.word) (λ x. x.word + 1) (λ x. sym (operand_item_lem x.word)) R.parts in
      let slots = map_by slot_of (λ (x : Part). operand_of x.word) (λ x. x.word / 2) (λ x. slot_of_word x.word) R.parts in
      record {
        items = map (λ x. operand_of x.word) R.parts;
        fits = run_whole operand operand_of operand_shortens reads s h R;
        listed = rw (items, slots) R.listed;
        need = rw slots R.need;
        own = R.own ∙ sym (any_by takes_first (λ (x : Part). operand_of x.word) (λ x. eqb x.word 1) (λ x. operand_first x.word) R.parts);
      }

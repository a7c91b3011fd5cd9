-- A form that was told by a number has that number: each number is looked for among the forms and found at its own. In an arm of a `match`
-- that has several forms, the places of the variants tell which they are not.
use Prim.Native.Nat.{ℕ, ◌≤◌}
use native.Mathlib.Omega.{arith}
use mathlib.Core.Path.{◌≡◌, refl, sym, ap, ◌∙◌, subst}
use mathlib.Core.Bool.{not, cond}
use mathlib.Core.Logic.{◌⊎◌, inl, inr, ⊎_elim}
use mathlib.Core.List.{List, [], ◌∷◌, map}
use lib.Dec.{eqb, T}
use lib.ListN.{get_or}
use borrow.Author.Tests.{eqb-true}
use denote.Enum.Declared.{tag_of}
use mir.Val.{has_key}
use types.Run.{OneOf, miss}
use Rattle.rules.specs.declared.forms.Form.{Form}
use Rattle.rules.specs.declared.forms.Form.TheVariants.{NoForm, Thread, Method, Kind, Give, Value, Field, Swap, Call, New, Cast, Spawn, Send, Recv, Copy}
use Rattle.rules.specs.Forms.{form_number, all_forms, with_number, form_of}
use Rattle.rules.specs.Lists.{among}
use Rattle.rules.specs.contracts.forms.Form.{the_type}
use Rattle.rules.proofs.ListLaws.{by_bool}

-- ---- The number

found : (fs : List Form) (n : ℕ) → (with_number fs n ≡ NoForm) ⊎ (n ≡ form_number (with_number fs n))
found [] n = inl refl
found (f ∷ fs) n = by_bool (eqb n (form_number f)) (λ t. rw t (inr (eqb-true n (form_number f) t))) (λ t. rw t (found fs n))

-- ---- The place of the variant

abbrev pub place : Form → ℕ
place f = tag_of the_type f

abbrev in_order : List Form
in_order = NoForm ∷ Thread ∷ Method ∷ Kind ∷ Give ∷ Value ∷ Field ∷ Swap ∷ Call ∷ New ∷ Cast ∷ Spawn ∷ Send ∷ Recv ∷ Copy ∷ []

pub at_place : {f : Form} {k : ℕ} → place f ≡ k → f ≡ get_or in_order k NoForm
at_place {f} e = stands f ∙ ap (λ k. get_or in_order k NoForm) e
  where
    stands : (g : Form) → g ≡ get_or in_order (place g) NoForm
    stands NoForm = refl
    stands Thread = refl
    stands Method = refl
    stands Kind = refl
    stands Give = refl
    stands Value = refl
    stands Field = refl
    stands Swap = refl
    stands Call = refl
    stands New = refl
    stands Cast = refl
    stands Spawn = refl
    stands Send = refl
    stands Recv = refl
    stands Copy = refl

-- in an arm for one form the number is its own
pub number_told : {n : ℕ} {f g : Form} → f ≡ form_of n → f ≡ g → 1 ≤ form_number g → n ≡ form_number g
number_told {n} e at some =
    let same = sym e ∙ at in
    ⊎_elim (λ none. absurd (let zero = ap form_number (sym same ∙ none) in omega arith)) (λ is. is ∙ ap form_number same) (found all_forms n)

-- ---- Arms for several variants

-- what such an arm says of its value
abbrev one_of_later : {A : Type 0} → A → List A → A → Type 0
one_of_later a [] x = x ≡ a
one_of_later a (b ∷ bs) x = (x ≡ a) ⊎ one_of_later b bs x

abbrev pub IsOneOf : {A : Type 0} → List A → A → Type 0
IsOneOf [] x = ⊥
IsOneOf (a ∷ bs) x = one_of_later a bs x

later_keys : {A : Type 0} (key : A → ℕ) (a : A) (bs : List A) (x : A) → one_of_later a bs x → OneOf (map key (a ∷ bs)) (key x)
later_keys key a [] x e = ap key e
later_keys key a (b ∷ bs) x (inl e) = inl (ap key e)
later_keys key a (b ∷ bs) x (inr k) = inr (later_keys key b bs x k)

-- the same of their keys
pub one_of_keys : {A : Type 0} (key : A → ℕ) (bs : List A) (x : A) → IsOneOf bs x → OneOf (map key bs) (key x)
one_of_keys key [] x k = k
one_of_keys key (a ∷ bs) x k = later_keys key a bs x k

-- all forms but some, in the order of their numbers
abbrev without : List ℕ → List Form → List Form
without out [] = []
without out (g ∷ gs) = cond (among (place g) out) (without out gs) (g ∷ without out gs)

abbrev pub all_but : List Form → List Form
all_but fs = without (map place fs) (NoForm ∷ all_forms)

-- an arm for the forms gs does not have the form with number k
pub not_told : (gs : List Form) {n k : ℕ} {f : Form} → f ≡ form_of n → IsOneOf gs f → T (not (has_key (map place gs) (place (form_of k)))) → n ≡ k → ⊥
not_told gs {k = k} {f} e one other is =
    miss (map place gs) (place (form_of k)) other (subst (λ h. OneOf (map place gs) (place h)) (e ∙ ap form_of is) (one_of_keys place gs f one))

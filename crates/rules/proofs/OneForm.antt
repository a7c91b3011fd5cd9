-- At most one form fits a line: a line that fits begins with the form's fixed characters, and those of any two forms differ.
use Prim.Native.Nat.{ℕ, zero, suc, ◌<◌, suc-le-suc}
use native.Mathlib.Nat.{le_of_suc-le-suc, not-suc-le-zero}
use native.Mathlib.Decide.{dec_lt}
use native.Mathlib.Omega.{arith}
use mathlib.Core.Path.{◌≡◌, refl, sym, ap, ◌∙◌}
use mathlib.Core.Bool.{Bool, true, false, ◌&&◌, cond, false≢true}
use mathlib.Core.List.{List, [], ◌∷◌, ◌++◌, append-nil, append_assoc}
use lib.Dec.{eqb}
use lib.ListN.{length, get_or}
use borrow.Author.Tests.{eqb-false}
use Rattle.rules.specs.Lists.{place_of, all}
use Rattle.rules.specs.Text.{bytes}
use Rattle.rules.specs.Script.{Operand, reads, takes, Form}
use Rattle.rules.specs.Templates.{Taken, took, unfit, ◌>>=◌, or_else, decimal, print_operand, Part, character, one_number, one_operand, one_cap, many_numbers, many_operands, Holds, fit, whole, print, Rule, forms, rule_at, first_fit, decode}
use Rattle.rules.proofs.ListLaws.{by_bool, and_true, all_true, every_at}
use Rattle.rules.proofs.Printing.{Short, fit_prints, starts, parted, fit_back}

-- ---- What a form's line begins with

-- an operand is one of two words
pub data Way : Type 0 where
  reading taking : Way

abbrev pub ways : List Way
ways = reading ∷ taking ∷ []

unfoldable pub opening : Way → List ℕ
opening reading = bytes "(read "
opening taking = bytes "(take "

-- the fixed characters of a template up to its first letter; where that stands for an operand, up to the operand's number
unfoldable pub head : Way → List Part → List ℕ
head v [] = []
head v (character c ∷ t) = c ∷ head v t
head v (one_number ∷ t) = []
head v (one_operand ∷ t) = opening v
head v (one_cap ∷ t) = []
head v (many_numbers ∷ t) = []
head v (many_operands ∷ t) = []

-- a text begins as the template does
pub record Begins (t : List Part) (l : List ℕ) : Type 0 where
  pub way : Way
  pub rest : List ℕ
  pub text : l ≡ head way t ++ rest

-- a printing does
anything_begins : (t : List Part) (l : List ℕ) → head reading t ≡ [] → Begins t l
anything_begins t l h = record { way = reading; rest = l; text = rw h }

operand_begins : (t : List Part) (w : Operand) (l : List ℕ) → Begins (one_operand ∷ t) (print_operand w ++ l)
unfolding head opening print_operand
operand_begins t (reads s) l = record { way = reading; rest = (decimal s ++ bytes ")") ++ l; text = refl }
operand_begins t (takes s) l = record { way = taking; rest = (decimal s ++ bytes ")") ++ l; text = refl }

pub print_begins : (t : List Part) (p : Holds t) (l : List ℕ) → Begins t (print t p ++ l)
unfolding print head
print_begins [] p l = anything_begins [] l refl
print_begins (character c ∷ t) p l = let b = print_begins t p l in record { way = b.way; rest = b.rest; text = ap (λ (k : List ℕ). c ∷ k) b.text }
print_begins (one_number ∷ t) p l = anything_begins _ _ refl
print_begins (one_operand ∷ t) p l = rw append_assoc (operand_begins t p.0 (print t p.1 ++ l))
print_begins (one_cap ∷ t) p l = anything_begins _ _ refl
print_begins (many_numbers ∷ t) p l = anything_begins _ _ refl
print_begins (many_operands ∷ t) p l = anything_begins _ _ refl

-- ---- Beginnings that differ

-- at a place inside both
differ : List ℕ → List ℕ → Bool
differ [] k = false
differ (x ∷ h) [] = false
differ (x ∷ h) (y ∷ k) = cond (eqb x y) (differ h k) true

differ_apart : (h k a b : List ℕ) → differ h k ≡ true → h ++ a ≡ k ++ b → ⊥
unfolding differ
differ_apart [] k a b d e = false≢true d
differ_apart (x ∷ h) [] a b d e = false≢true d
differ_apart (x ∷ h) (y ∷ k) a b d e = by_bool (eqb x y)
    (λ t. differ_apart h k a b (rw t at d) (cc))
    (λ t. eqb-false x y t (cc))

-- whatever their first operands
apart : Rule → Rule → Bool
apart r s = all (λ v. all (λ w. differ (head v r.template) (head w s.template)) ways) ways

pub every_way : (f : Way → Bool) → all f ways ≡ true → (v : Way) → f v ≡ true
every_way f h reading = (all_true f ways h).0
every_way f h taking = (all_true f ways h).1.0

apart_begin : (r s : Rule) (l : List ℕ) → apart r s ≡ true → Begins r.template l → Begins s.template l → ⊥
unfolding apart
apart_begin r s l h b c =
    let row = every_way (λ v. all (λ w. differ (head v r.template) (head w s.template)) ways) h b.way in
    let place = every_way (λ w. differ (head b.way r.template) (head w s.template)) row c.way in
    differ_apart (head b.way r.template) (head c.way s.template) b.rest c.rest place (sym b.text ∙ c.text)

-- ---- The forms

-- the i-th form fits the whole line
pub record Fits-line (i : ℕ) (l : List ℕ) : Type 0 where
  pub parts : Holds (rule_at i).template
  pub fits : fit (rule_at i).template l ≡ took parts []

-- each form is apart from the later ones
all_apart : List Rule → Bool
all_apart [] = true
all_apart (r ∷ rs) = all (apart r) rs && all_apart rs

forms_apart : all_apart forms ≡ true
unfolding all_apart apart all differ head opening
forms_apart = refl

apart_at : (rs : List Rule) (d : Rule) (i j : ℕ) → all_apart rs ≡ true → i < j → j < length rs → apart (get_or rs i d) (get_or rs j d) ≡ true
unfolding all_apart
apart_at [] d i j h i<j j<n = absurd (not-suc-le-zero j<n)
apart_at (r ∷ rs) d i zero h i<j j<n = absurd (not-suc-le-zero i<j)
apart_at (r ∷ rs) d zero (suc j) h i<j j<n = every_at (λ s. apart r s ≡ true) rs j d (le_of_suc-le-suc j<n) (all_true (apart r) rs (and_true (all (apart r) rs) (all_apart rs) h).0)
apart_at (r ∷ rs) d (suc i) (suc j) h i<j j<n = apart_at rs d i j (and_true (all (apart r) rs) (all_apart rs) h).1 (le_of_suc-le-suc i<j) (le_of_suc-le-suc j<n)

-- no text begins as two forms do
pub one_beginning : (i j : ℕ) (l : List ℕ) → i < length forms → j < length forms → Begins (rule_at i).template l → Begins (rule_at j).template l → i ≡ j
one_beginning i j l i<n j<n b c = go (dec_lt i j) (dec_lt j i)
  where
    go : Dec (i < j) → Dec (j < i) → i ≡ j
    go (yes h) k = absurd (apart_begin (rule_at i) (rule_at j) l (apart_at forms _ i j forms_apart h j<n) b c)
    go (no h) (yes k) = absurd (apart_begin (rule_at j) (rule_at i) l (apart_at forms _ j i forms_apart k i<n) c b)
    go (no h) (no k) = omega arith

line_begins : (i : ℕ) (l : List ℕ) → Fits-line i l → Begins (rule_at i).template l
line_begins i l f = rw (fit_prints (rule_at i).template l f.parts [] f.fits) (print_begins (rule_at i).template f.parts [])

pub one_form : (i j : ℕ) (l : List ℕ) → i < length forms → j < length forms → Fits-line i l → Fits-line j l → i ≡ j
one_form i j l i<n j<n f g = one_beginning i j l i<n j<n (line_begins i l f) (line_begins j l g)

-- ---- Trying one form alone

-- what a line gives where one form is tried
abbrev pub tried : Rule → List ℕ → Taken Form
tried r l = whole (fit r.template l) >>= λ p l₁. took (r.make p) l₁

or_unfit : {A : Type 0} (x : Taken A) → or_else x unfit ≡ x
unfolding or_else
or_unfit (took a l) = refl
or_unfit unfit = refl

-- f tries rules in their order, each by x
pub record InOrder (x : Rule → Taken Form) (f : List Rule → Taken Form) : Type 0 where
  pub none : f [] ≡ unfit
  pub first : (r : Rule) (rs : List Rule) → f (r ∷ rs) ≡ or_else (x r) (f rs)

-- where no rule gives a form; and where no other rule does
pub none_gives : {x : Rule → Taken Form} {f : List Rule → Taken Form} → InOrder x f → (rs : List Rule) (d : Rule)
    → ((j : ℕ) → j < length rs → x (get_or rs j d) ≡ unfit) → f rs ≡ unfit
unfolding or_else
none_gives o [] d h = o.none
none_gives o (r ∷ rs) d h = o.first r rs ∙ rw (h 0 (omega arith)) (none_gives o rs d (λ j j<n. h (suc j) (suc-le-suc j<n)))

pub only_gives : {x : Rule → Taken Form} {f : List Rule → Taken Form} → InOrder x f → (rs : List Rule) (d : Rule) (i : ℕ) → i < length rs
    → ((j : ℕ) → j < length rs → (j ≡ i → ⊥) → x (get_or rs j d) ≡ unfit) → f rs ≡ x (get_or rs i d)
unfolding or_else
only_gives o [] d i i<n h = absurd (not-suc-le-zero i<n)
only_gives {x} o (r ∷ rs) d zero i<n h =
    o.first r rs ∙ rw (none_gives o rs d (λ j j<n. h (suc j) (suc-le-suc j<n) (λ e. omega arith))) (or_unfit (x r))
only_gives o (r ∷ rs) d (suc i) i<n h =
    o.first r rs
    ∙ rw (h 0 (omega arith) (λ e. omega arith)) (only_gives o rs d i (le_of_suc-le-suc i<n) (λ j j<n e. h (suc j) (suc-le-suc j<n) (λ k. e (omega arith))))

decode_in_order : (l : List ℕ) → InOrder (λ r. tried r l) (λ rs. first_fit rs l)
unfolding first_fit
decode_in_order l = record { none = refl; first = λ r rs. refl }

unfit_line : (j : ℕ) (l : List ℕ) → (Fits-line j l → ⊥) → tried (rule_at j) l ≡ unfit
unfolding ◌>>=◌
unfit_line j l h = go (fit (rule_at j).template l) refl
  where
    go : (x : Taken (Holds (rule_at j).template)) → fit (rule_at j).template l ≡ x → (whole x >>= λ p l₁. took ((rule_at j).make p) l₁) ≡ unfit
    go (took p []) e = absurd (h (record { parts = p; fits = e }))
    go (took p (c ∷ l₁)) e = refl
    go unfit e = refl

-- where no other form fits, to try this one is enough
decode_by : (i : ℕ) (l : List ℕ) → i < length forms → ((j : ℕ) → j < length forms → Fits-line j l → j ≡ i) → decode l ≡ tried (rule_at i) l
unfolding decode
decode_by i l i<n h = only_gives (decode_in_order l) forms _ i i<n (λ j j<n e. unfit_line j l (λ f. e (h j j<n f)))

-- where none fits, nothing is decoded
pub decode_none : (l : List ℕ) → ((j : ℕ) → j < length forms → Fits-line j l → ⊥) → decode l ≡ unfit
unfolding decode
decode_none l h = none_gives (decode_in_order l) forms _ (λ j j<n. unfit_line j l (h j j<n))

pub decode_is : (i : ℕ) (l : List ℕ) → i < length forms → (f : Fits-line i l) → decode l ≡ took ((rule_at i).make f.parts) []
unfolding ◌>>=◌
decode_is i l i<n f = decode_by i l i<n (λ j j<n g. one_form j i l j<n i<n g f) ∙ rw f.fits

-- ---- And back: what a form's line prints reads as that form, where its numbers have at most three digits

-- in each form a part ends before a character that cannot go on with it
forms_parted : all (λ r. parted r.template) forms ≡ true
unfolding all parted starts place_of
forms_parted = refl

-- whatever follows it
pub print_fits : (i : ℕ) (p : Holds (rule_at i).template) (l : List ℕ) → i < length forms → Short (rule_at i).template p
    → fit (rule_at i).template (print (rule_at i).template p ++ l) ≡ took p l
print_fits i p l i<n h =
    let t = every_at (λ r. parted r.template ≡ true) forms i _ i<n (all_true (λ r. parted r.template) forms forms_parted) in
    fit_back (rule_at i).template p l t h

pub print_decodes : (i : ℕ) (p : Holds (rule_at i).template) → i < length forms → Short (rule_at i).template p → decode (print (rule_at i).template p) ≡ took ((rule_at i).make p) []
print_decodes i p i<n h = decode_is i _ i<n (record { parts = p; fits = rw append-nil at (print_fits i p [] i<n h) })

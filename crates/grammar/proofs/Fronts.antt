-- The front of a text and its first line: a form that fits the front is printed there, a printing holds one LF and that ends it, and a line
-- that decodes fits whatever follows it. Only one form can fit, and a few bytes tell which.
use Rattle.std.proofs.lemmas.Bool.{false≢true, not-true}
use Rattle.std.proofs.Math.ListN.{get_or-append}
use Rattle.rules.specs.declared.Mosts.{Mosts}
use Rattle.rules.specs.declared.Cap.{Cap}
use Rattle.rules.specs.declared.Cap.TheVariants.{Imm, Iso, Local, Unsafe}
use Rattle.rules.specs.Numbers as No
use Rattle.rules.specs.Lists.{any, all, Every}
use Rattle.rules.specs.Text.{bytes, lf, allowed, stray, lines, join}
use Rattle.rules.specs.Script.{Operand, reads, takes, Form}
use Rattle.rules.specs.Templates.{Taken, took, unfit, ◌>>=◌, or_else, digits, digit, digit_at, decimal, print_operand, cap_word, print_many, Part, character, one_number, one_operand, one_cap, many_numbers, many_operands, Holds, fit, print, Rule, forms, rule_at, decode, show, script_t}
use Rattle.rules.specs.Reading.{Sofar, fault, form_step, line_step}
use Rattle.rules.proofs.ListLaws.{impossible, by_bool, and_true, all_true, every_at, every_append}
use Rattle.rules.proofs.Printing.{says_of, Short, fit_front, fit_prints, decode_prints, join_lines}
use Rattle.rules.proofs.OneForm.{Way, ways, every_way, opening, head, Begins, print_begins, one_beginning, InOrder, none_gives, only_gives, decode_none, print_fits, print_decodes}
use Rattle.grammar.specs.declared.forms.Line.{Line}
use Rattle.std.proofs.Common.{Option, Some, None, IfSome, ℕ, zero, suc, ◌+◌, ◌/◌, ◌%◌, ◌<◌, ◌≤◌, suc-le-suc, le-add_right, not-le_of_lt, le_of_suc-le-suc, not-suc-le-zero, arith, ◌≡◌, refl, sym, ap, subst, ◌∙◌, Bool, true, false, not, ◌&&◌, cond, List, [], ◌∷◌, ◌++◌, append-nil, ltb, eqb, length, get_or, drop, length-append, length-drop, eqb-true, ltb-true}
use Rattle.grammar.specs.Words.{After}
use Rattle.grammar.specs.Decoded.{front_by, front, let_form, only_form, FormAt, LineAt, told_end}
use Rattle.grammar.proofs.Told.{done, word, no_word}

-- ---- The forms tried in turn

took_same : {A : Type 0} {a b : A} {k l : List ℕ} → took a k ≡ took b l → (a ≡ b) × (k ≡ l)
took_same e = (cc, cc)

took_unfit : {A B : Type 0} {x : Taken A} {a : A} {l : List ℕ} → x ≡ took a l → x ≡ unfit → B
took_unfit h k = impossible cc

-- what `rule_at` gives past the last form
abbrev no_rule : Rule
no_rule = rule_at (length forms)

-- the rule that gave the form
record Found (rs : List Rule) (d : Rule) (l : List ℕ) (F : Form) (l₁ : List ℕ) : Type 0 where
  place : ℕ
  there : place < length rs
  parts : Holds (get_or rs place d).template
  fits : fit (get_or rs place d).template l ≡ took parts l₁
  makes : (get_or rs place d).make parts ≡ F

found : (rs : List Rule) (d : Rule) (l : List ℕ) (F : Form) (l₁ : List ℕ) → front_by rs l ≡ took F l₁ → Found rs d l F l₁
unfolding front_by ◌>>=◌ or_else
found [] d l F l₁ h = impossible cc
found (r ∷ rs) d l F l₁ h = go (fit r.template l) refl (λ k. found rs d l F l₁ k)
  where
    go : (x : Taken (Holds r.template)) → fit r.template l ≡ x → (front_by rs l ≡ took F l₁ → Found rs d l F l₁) → Found (r ∷ rs) d l F l₁
    go (took p k) e later =
        let g = took_same (rw e at h) in
        record { place = 0; there = omega arith; parts = p; fits = e ∙ ap (took p) g.1; makes = g.0 }
    go unfit e later =
        let f = later (rw e at h) in
        record { place = suc f.place; there = suc-le-suc f.there; parts = f.parts; fits = f.fits; makes = f.makes }

-- what a text gives where one form is tried at its front
abbrev pub tried : Rule → List ℕ → Taken Form
tried r l = fit r.template l >>= λ p l₁. took (r.make p) l₁

front_in_order : (l : List ℕ) → InOrder (λ r. tried r l) (λ rs. front_by rs l)
unfolding front_by
front_in_order l = record { none = refl; first = λ r rs. refl }

-- the i-th form fits the front of a text
pub record Fits-front (i : ℕ) (l : List ℕ) : Type 0 where
  pub parts : Holds (rule_at i).template
  pub left : List ℕ
  pub fits : fit (rule_at i).template l ≡ took parts left

unfit_front : (j : ℕ) (l : List ℕ) → (Fits-front j l → ⊥) → tried (rule_at j) l ≡ unfit
unfolding ◌>>=◌
unfit_front j l h = go (fit (rule_at j).template l) refl
  where
    go : (x : Taken (Holds (rule_at j).template)) → fit (rule_at j).template l ≡ x → (x >>= λ p l₁. took ((rule_at j).make p) l₁) ≡ unfit
    go (took p k) e = absurd (h (record { parts = p; left = k; fits = e }))
    go unfit e = refl

-- where no form fits; where no other form does; and where one does
front_none : (l : List ℕ) → ((j : ℕ) → j < length forms → Fits-front j l → ⊥) → front l ≡ unfit
unfolding front
front_none l h = none_gives (front_in_order l) forms no_rule (λ j j<n. unfit_front j l (h j j<n))

front_by_lem : (i : ℕ) (l : List ℕ) → i < length forms → ((j : ℕ) → j < length forms → Fits-front j l → j ≡ i) → front l ≡ tried (rule_at i) l
unfolding front
front_by_lem i l i<n h = only_gives (front_in_order l) forms no_rule i i<n (λ j j<n e. unfit_front j l (λ f. e (h j j<n f)))

front_begins : (i : ℕ) (l : List ℕ) → Fits-front i l → Begins (rule_at i).template l
front_begins i l f = rw (fit_prints (rule_at i).template l f.parts f.left f.fits) (print_begins (rule_at i).template f.parts f.left)

front_is : (i : ℕ) (l : List ℕ) → i < length forms → (f : Fits-front i l) → front l ≡ took ((rule_at i).make f.parts) f.left
unfolding ◌>>=◌
front_is i l i<n f = front_by_lem i l i<n (λ j j<n g. one_beginning j i l j<n i<n (front_begins j l g) (front_begins i l f)) ∙ rw f.fits

-- ---- A printing is one line

-- a byte inside a line
abbrev inner : ℕ → Bool
inner c = allowed c && not (eqb c lf)

abbrev Inner : List ℕ → Type 0
Inner x = Every (λ c. inner c ≡ true) x

-- such bytes, and then an LF
data OneLine : List ℕ → Type 0 where
  ends : OneLine (lf ∷ [])
  goes : {c : ℕ} {x : List ℕ} → inner c ≡ true → OneLine x → OneLine (c ∷ x)

first_line : {x : List ℕ} → OneLine x → (l : List ℕ) → lines (x ++ l) ≡ x ∷ lines l
unfolding lines
first_line ends l = refl
first_line (goes {c} h o) l = rw (not-true (eqb c lf) (and_true (allowed c) (not (eqb c lf)) h).1, first_line o l)

not_stray : {x : List ℕ} → OneLine x → stray x ≡ false
unfolding stray any allowed
not_stray ends = refl
not_stray (goes {c} h o) = rw (and_true (allowed c) (not (eqb c lf)) h).0 (not_stray o)

not_empty : {x : List ℕ} → OneLine x → 1 ≤ length x
not_empty ends = omega arith
not_empty (goes h o) = omega arith

inner_before : (x : List ℕ) {l : List ℕ} → Inner x → OneLine l → OneLine (x ++ l)
inner_before [] e o = o
inner_before (c ∷ x) e o = goes e.0 (inner_before x e.1 o)

digit_inner : (n : ℕ) → inner (digit (n % 10)) ≡ true
unfolding allowed all
digit_inner n = every_at (λ c. inner c ≡ true) digits (n % 10) 0 (omega arith) (all_true inner digits refl)

digit_at_inner : (place n : ℕ) → Inner (digit_at place n)
digit_at_inner place n = by_bool (ltb n place) (λ t. rw t tt) (λ t. rw t (digit_inner (n / place), tt))

decimal_inner : (n : ℕ) → Inner (decimal n)
unfolding decimal
decimal_inner n =
    every_append _ (digit_at 10000 n) _ (digit_at_inner 10000 n)
    (every_append _ (digit_at 1000 n) _ (digit_at_inner 1000 n)
    (every_append _ (digit_at 100 n) _ (digit_at_inner 100 n)
    (every_append _ (digit_at 10 n) _ (digit_at_inner 10 n) (digit_inner n, tt))))

operand_by_inner : (w : List ℕ) (s : ℕ) → Inner w → Inner (w ++ (decimal s ++ bytes ")"))
unfolding allowed all
operand_by_inner w s h = every_append _ w (decimal s ++ bytes ")") h (every_append _ (decimal s) (bytes ")") (decimal_inner s) (all_true inner (bytes ")") refl))

operand_inner : (w : Operand) → Inner (print_operand w)
unfolding print_operand allowed all
operand_inner (reads s) = operand_by_inner (bytes "(read ") s (all_true inner (bytes "(read ") refl)
operand_inner (takes s) = operand_by_inner (bytes "(take ") s (all_true inner (bytes "(take ") refl)

cap_inner : (k : Cap) → Inner (cap_word k)
unfolding allowed all
cap_inner Imm = all_true inner (bytes "imm") refl
cap_inner Iso = all_true inner (bytes "iso") refl
cap_inner Local = all_true inner (bytes "local") refl
cap_inner Unsafe = all_true inner (bytes "unsafe") refl

many_inner : {A : Type 0} (f : A → List ℕ) → ((a : A) → Inner (f a)) → (xs : List A) → Inner (print_many f xs)
unfolding print_many allowed
many_inner f h [] = tt
many_inner f h (x ∷ xs) = (refl, every_append _ (f x) _ (h x) (many_inner f h xs))

-- the characters of a template are such bytes, and an LF is its last part
line_template : List Part → Bool
line_template [] = false
line_template (character c ∷ []) = eqb c lf
line_template (character c ∷ (q ∷ t)) = inner c && line_template (q ∷ t)
line_template (one_number ∷ t) = line_template t
line_template (one_operand ∷ t) = line_template t
line_template (one_cap ∷ t) = line_template t
line_template (many_numbers ∷ t) = line_template t
line_template (many_operands ∷ t) = line_template t

print_one_line : (t : List Part) (p : Holds t) → line_template t ≡ true → OneLine (print t p)
unfolding line_template print
print_one_line [] p h = absurd (false≢true h)
print_one_line (character c ∷ []) p h = rw (eqb-true c lf h) ends
print_one_line (character c ∷ (q ∷ t)) p h = let k = and_true (inner c) (line_template (q ∷ t)) h in goes k.0 (print_one_line (q ∷ t) p k.1)
print_one_line (one_number ∷ t) p h = inner_before (decimal p.0) (decimal_inner p.0) (print_one_line t p.1 h)
print_one_line (one_operand ∷ t) p h = inner_before (print_operand p.0) (operand_inner p.0) (print_one_line t p.1 h)
print_one_line (one_cap ∷ t) p h = inner_before (cap_word p.0) (cap_inner p.0) (print_one_line t p.1 h)
print_one_line (many_numbers ∷ t) p h = inner_before (print_many decimal p.0) (many_inner decimal decimal_inner p.0) (print_one_line t p.1 h)
print_one_line (many_operands ∷ t) p h = inner_before (print_many print_operand p.0) (many_inner print_operand operand_inner p.0) (print_one_line t p.1 h)

forms_of_one_line : all (λ r. line_template r.template) forms ≡ true
unfolding all line_template allowed
forms_of_one_line = refl

form_one_line : (i : ℕ) (p : Holds (rule_at i).template) → i < length forms → OneLine (print (rule_at i).template p)
form_one_line i p i<n =
    print_one_line (rule_at i).template p
    (every_at (λ r. line_template r.template ≡ true) forms i no_rule i<n (all_true (λ r. line_template r.template) forms forms_of_one_line))

-- ---- The front and the first line

-- text l begins with form F, written, which is its first line and is read as F; then comes l₁
pub record First-line (l : List ℕ) (F : Form) (l₁ : List ℕ) : Type 0 where
  pub text : l ≡ show F ++ l₁
  pub first : lines l ≡ show F ∷ lines l₁
  pub shorter : length l₁ < length l
  pub step : (m : Mosts) (r : Sofar) → line_step m r (show F) ≡ form_step m r (took F [])

printed_first : (i : ℕ) (p : Holds (rule_at i).template) (l₁ : List ℕ) → i < length forms → Short (rule_at i).template p
    → First-line (print (rule_at i).template p ++ l₁) ((rule_at i).make p) l₁
unfolding line_step
printed_first i p l₁ i<n h =
    let o = form_one_line i p i<n in
    let d = print_decodes i p i<n h in
    let e = (decode_prints (print (rule_at i).template p) ((rule_at i).make p) [] d).0 in
    record {
      text = ap (λ (x : List ℕ). x ++ l₁) e;
      first = first_line o l₁ ∙ ap (λ (x : List ℕ). x ∷ lines l₁) e;
      shorter = omega (arith, not_empty o, length-append (print (rule_at i).template p) l₁);
      step = λ m r. rw (← e, not_stray o, d);
    }

pub front_fits : (l : List ℕ) (F : Form) (l₁ : List ℕ) → front l ≡ took F l₁ → First-line l F l₁
unfolding front
front_fits l F l₁ h =
    let f : Found forms no_rule l F l₁ = found forms no_rule l F l₁ h in
    let q = says_of (fit_front (rule_at f.place).template l) f.fits in
    let z = printed_first f.place f.parts l₁ f.there q.such in
    subst (λ G. First-line l G l₁) f.makes (subst (λ k. First-line k ((rule_at f.place).make f.parts) l₁) (sym q.text) z)

-- where no form fits the front, the first line is at fault: what decodes as a line fits whatever follows it
unfit_decode : (l x : List ℕ) (xs : List (List ℕ)) → front l ≡ unfit → lines l ≡ x ∷ xs → decode x ≡ unfit
unfolding join
unfit_decode l x xs h e = decode_none x (λ j j<n f.
    let t = (rule_at j).template in
    let q = says_of (fit_front t x) f.fits in
    let k = sym (join_lines l) ∙ ap join e ∙ ap (λ (z : List ℕ). z ++ join xs) (q.text ∙ append-nil (print t f.parts)) in
    let g : Fits-front j l = record { parts = f.parts; left = join xs; fits = ap (fit t) k ∙ print_fits j f.parts (join xs) j<n q.such } in
    took_unfit (front_is j l j<n g) h)

pub front_unfit : (l x : List ℕ) (xs : List (List ℕ)) → front l ≡ unfit → lines l ≡ x ∷ xs
    → (m : Mosts) (r : Sofar) → line_step m r x ≡ fault (cond (stray x) No.stray_byte No.malformed)
unfolding line_step form_step
front_unfit l x xs h e m r = rw (unfit_decode l x xs h e) (by_bool (stray x) (λ t. rw t) (λ t. rw t))

-- ---- The only form that can fit

-- the bytes that tell the form lie in its beginning
only_form_front : (h k : List ℕ) → 9 ≤ length h → only_form (h ++ k) ≡ only_form h
unfolding only_form let_form
only_form_front h k n =
    rw (get_or-append h k 0 1 (omega arith), get_or-append h k 0 6 (omega arith), get_or-append h k 0 7 (omega arith), get_or-append h k 0 8 (omega arith))

-- each form's beginning is nine bytes or more and tells the form's number, counted from n
telling : ℕ → List ℕ → Bool
telling n h = eqb (only_form h) n && ltb 8 (length h)

all_telling : ℕ → List Rule → Bool
all_telling n [] = true
all_telling n (r ∷ rs) = all (λ v. telling n (head v r.template)) ways && all_telling (suc n) rs

forms_telling : all_telling 1 forms ≡ true
unfolding all_telling telling all head opening only_form let_form
forms_telling = refl

telling_at : (rs : List Rule) (d : Rule) (n i k : ℕ) → all_telling n rs ≡ true → i < length rs → k ≡ n + i → (v : Way) → telling k (head v (get_or rs i d).template) ≡ true
unfolding all_telling
telling_at [] d n i k h i<n e v = absurd (not-suc-le-zero i<n)
telling_at (r ∷ rs) d n zero k h i<n e v =
    let g : k ≡ n = omega arith in
    rw g (every_way (λ u. telling n (head u r.template)) (and_true (all (λ u. telling n (head u r.template)) ways) (all_telling (suc n) rs) h).0 v)
telling_at (r ∷ rs) d n (suc i) k h i<n e v =
    telling_at rs d (suc n) i k (and_true (all (λ u. telling n (head u r.template)) ways) (all_telling (suc n) rs) h).1 (le_of_suc-le-suc i<n) (omega arith) v

-- a form that fits is told by the text's bytes, of which there are nine or more
front_tells : (i : ℕ) (l : List ℕ) → i < length forms → Fits-front i l → (only_form l ≡ suc i) × (9 ≤ length l)
unfolding telling
front_tells i l i<n f =
    let b = front_begins i l f in
    let h = head b.way (rule_at i).template in
    let t = and_true (eqb (only_form h) (suc i)) (ltb 8 (length h)) (telling_at forms no_rule 1 i (suc i) forms_telling i<n (omega arith) b.way) in
    let n = ltb-true 8 (length h) t.1 in
    rw b.text (only_form_front h b.rest n ∙ eqb-true (only_form h) (suc i) t.0, omega (arith, length-append h b.rest))

-- a text that is shorter than any form
front_short : (l : List ℕ) → length l < 9 → front l ≡ unfit
front_short l h = front_none l (λ j j<n f. let t = (front_tells j l j<n f).1 in omega arith)

-- ---- The line at a place

-- from the only form that can fit there
pub line_by_form : (i : ℕ) (s : List ℕ) (at : ℕ) (x : Option Line) → i < length forms → only_form (drop at s) ≡ suc i → FormAt i s at x → LineAt s at x
unfolding ◌>>=◌
line_by_form i s at x i<n h f = go x f
  where
    only : front (drop at s) ≡ tried (rule_at i) (drop at s)
    only = front_by_lem i (drop at s) i<n (λ j j<n g. let t = (front_tells j (drop at s) j<n g).0 in omega arith)

    go : (x : Option Line) → FormAt i s at x → LineAt s at x
    go None f = only ∙ rw f
    go (Some r) f = record { form = (rule_at i).make f.parts; fits = only ∙ rw f.fits; tells = f.tells }

-- in a text that is shorter than any form
pub line_in_short : (s : List ℕ) (at : ℕ) → length s < 9 → front (drop at s) ≡ unfit
line_in_short s at h = front_short (drop at s) (omega (arith, length-drop at s))

-- where no form's number is told
pub line_by_none : (s : List ℕ) (at : ℕ) → only_form (drop at s) ≡ 0 → front (drop at s) ≡ unfit
line_by_none s at h = front_none (drop at s) (λ j j<n f. let t = (front_tells j (drop at s) j<n f).0 in absurd (omega arith))

-- ---- The line that a text in script form 2 begins with

-- no shorter text begins with it
script_length : (l : List ℕ) → 11 ≤ length (print script_t tt ++ l)
unfolding print
script_length l = rw (length-append (print script_t tt) l) (le-add_right 11 (length l))

pub script_short : (l : List ℕ) → length l < 11 → fit script_t l ≡ unfit
script_short l h = go (fit script_t l) refl
  where
    go : (x : Taken (Holds script_t)) → fit script_t l ≡ x → fit script_t l ≡ unfit
    go (took p l₁) e = absurd (not-le_of_lt h (rw (fit_prints script_t l p l₁ e) (script_length l₁)))
    go unfit e = e

-- two fixed words are the line
pub script_told : (s : List ℕ) → 11 ≤ length s → (x : Option ℕ) → After (bytes "(script 2)\n") s 0 x → (fit script_t s ≡ told_end s x) × IfSome x (λ e. e ≤ length s)
script_told s h None k = ((no_word {s = s} (bytes "(script 2)\n") [] {at = 0} k).fails, tt)
script_told s h (Some e) k = ((word {s = s} (bytes "(script 2)\n") {at = 0} k done).fits, omega arith)

-- A text that reads is the printing of what was read: each reader takes off the front of a text what its printer would write there.
use Prim.{Unit}
use Prim.Native.Nat.{ℕ, zero, suc, ◌+◌, ◌*◌, ◌/◌, ◌%◌, ◌≤◌, ◌<◌}
use native.Mathlib.Nat.{le_of_suc-le-suc, not-suc-le-zero}
use native.Mathlib.Decide.{dec_lt}
use native.Mathlib.Omega.{arith}
use mathlib.Core.Path.{◌≡◌, refl, sym, ap, subst, ◌∙◌}
use mathlib.Core.Bool.{Bool, true, false, not, ◌&&◌, ◌||◌, cond, false≢true}
use mathlib.Core.List.{List, [], ◌∷◌, ◌++◌, map, append-nil, append_assoc}
use lib.Dec.{ltb, leb, eqb}
use lib.ListN.{length, get_or, length-append}
use borrow.Author.Tests.{ltb-true, leb-true, eqb-true, eqb-false, not-true, lt-ltb, le-ltb, eq-eqb, ne_eqb}
use Rattle.rules.specs.declared.Cap.{Cap}
use Rattle.rules.specs.declared.Cap.TheVariants.{Imm, Iso, Local, Unsafe}
use Rattle.rules.specs.declared.Mosts.{Mosts}
use Rattle.rules.specs.Lists.{place_of, Every}
use Rattle.rules.specs.Text.{bytes, lf, space, stray, on_line, lines, join}
use Rattle.rules.specs.Script.{Operand, reads, takes, Form}
use Rattle.rules.specs.Templates.{Taken, took, unfit, ◌>>=◌, or_else, literal, digits, digit_of, digits_at, is_number, decimal_value, number, digit, decimal, operand_by, operand, print_operand, cap_word, cap_by, capability, many, print_many, Part, character, one_number, one_operand, one_cap, many_numbers, many_operands, Holds, fit, whole, print, Rule, forms, first_fit, decode, show}
use Rattle.rules.specs.Reading.{slot_of, is_outside, in_place, over_most, over255, is_unbound, takes_self, Sofar, Step, fault, next, form_step, line_step, Scan, faulty, scanned, finish, with_form, on_step, scan}
use Rattle.rules.proofs.ListLaws.{by_bool, and_true, all_below, below_true}

-- ---- What is taken

-- what is taken of a text, if anything is, has this property
pub data Says {A : Type 0} (R : A → List ℕ → Type 0) : Taken A → Type 0 where
  untaken : Says R unfit
  taken : {a : A} {l : List ℕ} → R a l → Says R (took a l)

-- read off where it is known what was taken; and weakened
pub says_of : {A : Type 0} {R : A → List ℕ → Type 0} {x : Taken A} {a : A} {l : List ℕ} → Says R x → x ≡ took a l → R a l
says_of {A} {R} s h = got (subst (Says R) h s)
  where
    got : {a : A} {l : List ℕ} → Says R (took a l) → R a l
    got (taken r) = r

says_more : {A : Type 0} {R S : A → List ℕ → Type 0} {x : Taken A} → Says R x → ((a : A) (l : List ℕ) → R a l → S a l) → Says S x
says_more untaken f = untaken
says_more (taken r) f = taken (f _ _ r)

-- one part after the other; and the first of two that fits
says_then : {A B : Type 0} {R : A → List ℕ → Type 0} {S : B → List ℕ → Type 0} {x : Taken A} {f : A → List ℕ → Taken B}
    → Says R x → ((a : A) (l : List ℕ) → R a l → Says S (f a l)) → Says S (x >>= f)
unfolding ◌>>=◌
says_then untaken g = untaken
says_then (taken r) g = g _ _ r

says_either : {A : Type 0} {R : A → List ℕ → Type 0} {x y : Taken A} → Says R x → Says R y → Says R (or_else x y)
unfolding or_else
says_either untaken k = k
says_either (taken r) k = taken r

-- ---- Readers and printers

-- the front of text l is what the printer writes of a, then comes l₁; and a has a property
pub record Front {A : Type 0} (printer : A → List ℕ) (Q : A → Type 0) (l : List ℕ) (a : A) (l₁ : List ℕ) : Type 0 where
  pub text : l ≡ printer a ++ l₁
  pub such : Q a

-- no property
abbrev pub Any : {A : Type 0} → A → Type 0
Any a = Unit {0}

-- characters that stand for themselves
literal_front : (w l : List ℕ) → Says (Front (λ _. w) Any l) (literal w l)
unfolding literal
literal_front [] l = taken (record { text = refl; such = tt })
literal_front (c ∷ w) [] = untaken
literal_front (c ∷ w) (x ∷ l) = by_bool (eqb x c)
    (λ t. rw t (says_more (literal_front w l) (λ u l₁ p. record { text = rw (eqb-true x c t) (ap (λ (k : List ℕ). c ∷ k) p.text); such = tt })))
    (λ t. rw t untaken)

-- two readers one after the other, their values made into one
abbrev in_turn : {A B C : Type 0} → (List ℕ → Taken A) → (List ℕ → Taken B) → (A → B → C) → List ℕ → Taken C
in_turn r s make l = r l >>= λ a l₁. s l₁ >>= λ b l₂. took (make a b) l₂

abbrev pair : {A B : Type 0} → A → B → A × B
pair a b = (a, b)

then_says : {A B C : Type 0} {r : List ℕ → Taken A} {s : List ℕ → Taken B} {f : A → List ℕ} {g : B → List ℕ} {Q : A → Type 0} {R : B → Type 0}
    (T : C → List ℕ → Type 0) (make : A → B → C) (l : List ℕ) → ((k : List ℕ) → Says (Front f Q k) (r k)) → ((k : List ℕ) → Says (Front g R k) (s k))
    → ((a : A) (b : B) (l₂ : List ℕ) → l ≡ (f a ++ g b) ++ l₂ → Q a → R b → T (make a b) l₂)
    → Says T (in_turn r s make l)
then_says {r = r} {s} {f} {g} T make l hr hs k =
    says_then (hr l) (λ a l₁ p. says_then (hs l₁) (λ b l₂ q.
    taken (k a b l₂ (p.text ∙ ap (λ (x : List ℕ). f a ++ x) q.text ∙ sym (append_assoc (f a) (g b) l₂)) p.such q.such)))

-- ---- Numbers

-- the character of a place that was found
place_of_found : (c : ℕ) (xs : List ℕ) → place_of c xs < length xs → get_or xs (place_of c xs) 0 ≡ c
unfolding place_of
place_of_found c [] h = absurd (not-suc-le-zero h)
place_of_found c (x ∷ xs) h = by_bool (eqb c x)
    (λ t. rw t (sym (eqb-true c x t)))
    (λ t. rw t (place_of_found c xs (le_of_suc-le-suc (rw t at h))))

-- the digits at the front of a text are its characters
digits_at_front : (l : List ℕ) → Front (λ ds. map digit ds) (Every (λ d. d < 10)) l (digits_at l).0 (digits_at l).1
unfolding digits_at
digits_at_front [] = record { text = refl; such = tt }
digits_at_front (c ∷ l) = by_bool (ltb (digit_of c) 10)
    (λ t. let d = ltb-true (digit_of c) 10 t in let r = digits_at_front l in
    rw t (record { text = rw (place_of_found c digits d) (ap (λ (k : List ℕ). c ∷ k) r.text); such = (d, r.such) }))
    (λ t. rw t (record { text = refl; such = tt }))

-- at most three digits
abbrev pub Small : ℕ → Type 0
Small n = n ≤ 999

-- a number of one to three digits is printed as these digits
decimal_digits : (ds : List ℕ) → is_number ds ≡ true → Every (λ d. d < 10) ds → (map digit ds ≡ decimal (decimal_value 0 ds)) × Small (decimal_value 0 ds)
unfolding is_number decimal_value decimal
decimal_digits [] h e = absurd (false≢true h)
decimal_digits (a ∷ []) h e =
    let n = 0 + a in
    let u : n % 10 ≡ a = omega arith in
    (rw (lt-ltb n 10000 (omega arith), lt-ltb n 1000 (omega arith), lt-ltb n 100 (omega arith), lt-ltb n 10 (omega arith), u), omega arith)
decimal_digits (a ∷ b ∷ []) h e =
    let n = (0 + a) * 10 + b in
    let z = eqb-false a 0 (not-true _ h) in
    let t : n / 10 % 10 ≡ a = omega arith in
    let u : n % 10 ≡ b = omega arith in
    (rw (lt-ltb n 10000 (omega arith), lt-ltb n 1000 (omega arith), lt-ltb n 100 (omega arith), le-ltb n 10 (omega arith), t, u), omega arith)
decimal_digits (a ∷ b ∷ c ∷ []) h e =
    let n = ((0 + a) * 10 + b) * 10 + c in
    let z = eqb-false a 0 (not-true _ h) in
    let s : n / 100 % 10 ≡ a = omega arith in
    let t : n / 10 % 10 ≡ b = omega arith in
    let u : n % 10 ≡ c = omega arith in
    (rw (lt-ltb n 10000 (omega arith), lt-ltb n 1000 (omega arith), le-ltb n 100 (omega arith), le-ltb n 10 (omega arith), s, t, u), omega arith)
decimal_digits (a ∷ b ∷ c ∷ d ∷ ds) h e =
    let z = leb-true (length (b ∷ c ∷ d ∷ ds)) _ (and_true (leb (length (b ∷ c ∷ d ∷ ds)) _) _ h).0 in
    absurd (omega arith)

pub number_front : (l : List ℕ) → Says (Front decimal Small l) (number l)
unfolding number
number_front l = by_bool (is_number (digits_at l).0)
    (λ t. let p = digits_at_front l in let q = decimal_digits (digits_at l).0 t p.such in
    rw t (taken (record { text = rw q.0 at p.text; such = q.1 })))
    (λ t. rw t untaken)

-- ---- Operands, capabilities, lists

abbrev pub SmallSlot : Operand → Type 0
SmallSlot w = Small (slot_of w)

operand_by_front : (w : List ℕ) (f : ℕ → Operand) → ((s : ℕ) → print_operand (f s) ≡ w ++ (decimal s ++ bytes ")")) → ((s : ℕ) → slot_of (f s) ≡ s)
    → (l : List ℕ) → Says (Front print_operand SmallSlot l) (operand_by w f l)
unfolding operand_by
operand_by_front w f hp hs l =
    says_then (literal_front w l) (λ _ l₁ p. says_then (number_front l₁)
    (λ s l₂ q. says_then (literal_front (bytes ")") l₂) (λ _ l₃ r. taken (record {
      text = p.text ∙ rw (hp s, q.text, r.text, append_assoc, append_assoc);
      such = rw (hs s) q.such;
    }))))

pub operand_front : (l : List ℕ) → Says (Front print_operand SmallSlot l) (operand l)
unfolding operand print_operand
operand_front l = says_either
    (operand_by_front _ reads (λ s. refl) (λ s. refl) l)
    (operand_by_front _ takes (λ s. refl) (λ s. refl) l)

cap_by_front : (k : Cap) (l : List ℕ) → Says (Front cap_word Any l) (cap_by k l)
unfolding cap_by
cap_by_front k l = says_then (literal_front (cap_word k) l) (λ _ l₁ p. taken (record { text = p.text; such = tt }))

capability_front : (l : List ℕ) → Says (Front cap_word Any l) (capability l)
unfolding capability
capability_front l =
    says_either (cap_by_front Imm l)
    (says_either (cap_by_front Iso l)
    (says_either (cap_by_front Local l) (cap_by_front Unsafe l)))

many_front : {A : Type 0} {r : List ℕ → Taken A} {f : A → List ℕ} {Q : A → Type 0} → ((k : List ℕ) → Says (Front f Q k) (r k))
    → (n : ℕ) (l : List ℕ) → Says (Front (print_many f) (Every Q) l) (many r n l)
unfolding many print_many
many_front h zero l = taken (record { text = refl; such = tt })
many_front h (suc n) [] = taken (record { text = refl; such = tt })
many_front h (suc n) (c ∷ l) = by_bool (eqb c space)
    (λ t. rw t (then_says _ (λ a rest. a ∷ rest) l h (many_front h n)
    (λ a rest l₂ e q qs. record { text = rw (eqb-true c space t) (ap (λ (k : List ℕ). space ∷ k) e); such = (q, qs) })))
    (λ t. rw t (taken (record { text = refl; such = tt })))

-- ---- Templates

-- the numbers of a template's parts have at most three digits
abbrev pub Short : (t : List Part) → Holds t → Type 0
Short [] p = Unit {0}
Short (character c ∷ t) p = Short t p
Short (one_number ∷ t) p = Small p.0 × Short t p.1
Short (one_operand ∷ t) p = SmallSlot p.0 × Short t p.1
Short (one_cap ∷ t) p = Short t p.1
Short (many_numbers ∷ t) p = Every Small p.0 × Short t p.1
Short (many_operands ∷ t) p = Every SmallSlot p.0 × Short t p.1

pub fit_front : (t : List Part) (l : List ℕ) → Says (Front (print t) (Short t) l) (fit t l)
unfolding fit print
fit_front [] l = taken (record { text = refl; such = tt })
fit_front (character c ∷ t) l =
    says_then (literal_front (c ∷ []) l)
    (λ _ l₁ p. says_more (fit_front t l₁) (λ parts l₂ q. record { text = p.text ∙ ap (λ (k : List ℕ). c ∷ k) q.text; such = q.such }))
fit_front (one_number ∷ t) l = then_says _ pair l number_front (fit_front t) (λ n p l₂ e q r. record { text = e; such = (q, r) })
fit_front (one_operand ∷ t) l = then_says _ pair l operand_front (fit_front t) (λ w p l₂ e q r. record { text = e; such = (q, r) })
fit_front (one_cap ∷ t) l = then_says _ pair l capability_front (fit_front t) (λ k p l₂ e q r. record { text = e; such = r })
fit_front (many_numbers ∷ t) l = then_says _ pair l (λ k. many_front number_front (length k) k) (fit_front t) (λ ns p l₂ e q r. record { text = e; such = (q, r) })
fit_front (many_operands ∷ t) l = then_says _ pair l (λ k. many_front operand_front (length k) k) (fit_front t) (λ ws p l₂ e q r. record { text = e; such = (q, r) })

pub fit_prints : (t : List Part) (l : List ℕ) (p : Holds t) (l₁ : List ℕ) → fit t l ≡ took p l₁ → l ≡ print t p ++ l₁
fit_prints t l p l₁ h = (says_of (fit_front t l) h).text

-- ---- Lines

-- a form is written by its template
abbrev Written : Rule → Type 0
Written r = (p : Holds r.template) → show (r.make p) ≡ print r.template p

forms_written : Every Written forms
unfolding show
forms_written = (λ _. refl, (λ _. refl, (λ _. refl, (λ _. refl, (λ _. refl, (λ _. refl, (λ _. refl, (λ _. refl, (λ _. refl, (λ _. refl, (λ _. refl, (λ _. refl, (λ _. refl, (λ _. refl, tt))))))))))))))

-- a whole line is the form that it makes, written
abbrev Line-of : List ℕ → Form → List ℕ → Type 0
Line-of l F l₁ = (l ≡ show F) × (l₁ ≡ [])

whole_says : {A : Type 0} {R : A → List ℕ → Type 0} (x : Taken A) → Says R x → Says (λ a l. R a [] × (l ≡ [])) (whole x)
whole_says (took a []) s = taken (says_of s refl, refl)
whole_says (took a (c ∷ l)) s = untaken
whole_says unfit s = untaken

first_fit_prints : (rs : List Rule) (l : List ℕ) → Every Written rs → Says (Line-of l) (first_fit rs l)
unfolding first_fit
first_fit_prints [] l e = untaken
first_fit_prints (r ∷ rs) l e = says_either
    (says_then (whole_says (fit r.template l) (fit_front r.template l)) (λ p l₁ q. taken (q.0.text ∙ append-nil (print r.template p) ∙ sym (e.0 p), q.1)))
    (first_fit_prints rs l e.1)

pub decode_prints : (l : List ℕ) (F : Form) (l₁ : List ℕ) → decode l ≡ took F l₁ → (l ≡ show F) × (l₁ ≡ [])
unfolding decode
decode_prints l F l₁ h = says_of (first_fit_prints forms l forms_written) h

-- ---- Texts

pub join_lines : (s : List ℕ) → join (lines s) ≡ s
unfolding join lines
join_lines [] = refl
join_lines (c ∷ s) = go (eqb c lf) (lines s) (join_lines s)
  where
    go : (t : Bool) (ls : List (List ℕ)) → join ls ≡ s → join (on_line t c ls) ≡ c ∷ s
    go true ls h = ap (λ (k : List ℕ). c ∷ k) h
    go false [] h = ap (λ (k : List ℕ). c ∷ k) h
    go false (l ∷ ls) h = ap (λ (k : List ℕ). c ∷ k) h

-- a fault; or a form that is written as this line
data Step-of (l : List ℕ) : Step → Type 0 where
  faulted : {k : ℕ} → Step-of l (fault k)
  gone : {F : Form} {r : Sofar} → l ≡ show F → Step-of l (next F r)

past_check : (l : List ℕ) (b : Bool) (k : ℕ) (x : Step) → Step-of l x → Step-of l (cond b (fault k) x)
past_check l true k x s = faulted
past_check l false k x s = s

-- (whatever the order of the checks)
form_step_prints : (m : Mosts) (r : Sofar) (l : List ℕ) {x : Taken Form} → Says (Line-of l) x → Step-of l (form_step m r x)
unfolding form_step
form_step_prints m r l untaken = faulted
form_step_prints m r l (taken {a = F} p) =
    search (past_check l (not (in_place r F)), past_check l (over_most m r F || over255 F), past_check l (is_unbound r F), past_check l (takes_self r F), gone) depth 7

line_step_prints : (m : Mosts) (r : Sofar) (l : List ℕ) → Step-of l (line_step m r l)
unfolding line_step decode
line_step_prints m r l = past_check l (stray l) _ _ (form_step_prints m r l (first_fit_prints forms l forms_written))

-- a fault; or forms that are written as this text
data Scan-of (text : List ℕ) : Scan → Type 0 where
  misread : {k n : ℕ} → Scan-of text (faulty k n)
  wellread : {Fs : List Form} → join (map show Fs) ≡ text → Scan-of text (scanned Fs)

scan_of : {text : List ℕ} {Fs : List Form} → Scan-of text (scanned Fs) → join (map show Fs) ≡ text
scan_of (wellread e) = e

finish_prints : (r : Sofar) (n : ℕ) → Scan-of [] (finish r n)
unfolding finish join
finish_prints r n = by_bool (eqb r.blocks 0 || not (is_outside r.place)) (λ t. rw t misread) (λ t. rw t (wellread refl))

with_form_prints : (F : Form) (l text : List ℕ) {x : Scan} → l ≡ show F → Scan-of text x → Scan-of (l ++ text) (with_form F x)
unfolding join
with_form_prints F l text e misread = misread
with_form_prints F l text e (wellread {Fs = Fs} h) = wellread {Fs = F ∷ Fs} (rw (e, h))

-- from any line on
lines_print : (m : Mosts) (r : Sofar) (n : ℕ) (ls : List (List ℕ)) → Scan-of (join ls) (scan m r n ls)
unfolding scan join
lines_print m r n [] = finish_prints r n
lines_print m r n (l ∷ ls) = go (line_step_prints m r l) (λ r₁. lines_print m r₁ (suc n) ls)
  where
    go : {x : Step} → Step-of l x → ((r₁ : Sofar) → Scan-of (join ls) (scan m r₁ (suc n) ls)) → Scan-of (l ++ join ls) (on_step n x (λ r₁. scan m r₁ (suc n) ls))
    go faulted rest = misread
    go (gone e) rest = with_form_prints _ l (join ls) e (rest _)

pub scan_prints : (m : Mosts) (r : Sofar) (n : ℕ) (text : List ℕ) (Fs : List Form) → scan m r n (lines text) ≡ scanned Fs → join (map show Fs) ≡ text
scan_prints m r n text Fs h = scan_of (subst (Scan-of (join (lines text))) h (lines_print m r n (lines text))) ∙ join_lines text

-- ---- And back: what is printed reads as what it was printed from, where its numbers have at most three digits

-- a text whose first character passes a test
abbrev pub Starts : (ℕ → Bool) → List ℕ → Type 0
Starts f [] = Unit {0}
Starts f (c ∷ l) = f c ≡ true

-- what may follow one part: no digit; and what may follow a list: no digit and no space
abbrev pub after_one : ℕ → Bool
after_one c = not (ltb (digit_of c) 10)

abbrev pub after_many : ℕ → Bool
after_many c = after_one c && not (eqb c space)

-- a digit's character stands for the digit
digit_back : (d : ℕ) → d < 10 → digit_of (digit d) ≡ d
unfolding all_below place_of
digit_back d h = eqb-true (digit_of (digit d)) d (below_true (λ x. eqb (digit_of (digit x)) x) 10 d refl h)

digits_at_back : (ds l : List ℕ) → Every (λ d. d < 10) ds → Starts after_one l → digits_at (map digit ds ++ l) ≡ (ds, l)
unfolding digits_at
digits_at_back [] [] e h = refl
digits_at_back [] (c ∷ l) e h = rw (not-true (ltb (digit_of c) 10) h)
digits_at_back (d ∷ ds) l e h = rw (digit_back d e.0, lt-ltb d 10 e.0, digits_at_back ds l e.1 h)

-- the digits of a number
record Digits (n : ℕ) : Type 0 where
  list : List ℕ
  short : is_number list ≡ true
  each : Every (λ d. d < 10) list
  value : decimal_value 0 list ≡ n

digits_of : (n : ℕ) → Small n → Digits n
unfolding is_number decimal_value
digits_of n h = go (dec_lt n 10) (dec_lt n 100)
  where
    go : Dec (n < 10) → Dec (n < 100) → Digits n
    go (yes a) b = record { list = n ∷ []; short = refl; each = omega arith; value = omega arith }
    go (no a) (yes b) = record { list = n / 10 ∷ n % 10 ∷ []; short = rw (ne_eqb (n / 10) 0 (λ e. omega arith)); each = omega arith; value = omega arith }
    go (no a) (no b) = record { list = n / 100 ∷ n / 10 % 10 ∷ n % 10 ∷ []; short = rw (ne_eqb (n / 100) 0 (λ e. omega arith)); each = omega arith; value = omega arith }

number_back : (n : ℕ) (l : List ℕ) → Small n → Starts after_one l → number (decimal n ++ l) ≡ took n l
unfolding number
number_back n l h e =
    let d = digits_of n h in
    let p = (decimal_digits d.list d.short d.each).0 in
    rw (← d.value, ← p, digits_at_back d.list l d.each e, d.short)

operand_back : (w : Operand) (l : List ℕ) → SmallSlot w → Starts after_one l → operand (print_operand w ++ l) ≡ took w l
unfolding operand operand_by literal or_else ◌>>=◌ print_operand place_of
operand_back (reads s) l h e = rw (append_assoc (decimal s) (bytes ")") l, number_back s (bytes ")" ++ l) h refl)
operand_back (takes s) l h e = rw (append_assoc (decimal s) (bytes ")") l, number_back s (bytes ")" ++ l) h refl)

capability_back : (k : Cap) (l : List ℕ) → capability (cap_word k ++ l) ≡ took k l
unfolding capability cap_by literal or_else ◌>>=◌
capability_back Imm l = refl
capability_back Iso l = refl
capability_back Local l = refl
capability_back Unsafe l = refl

-- two parts one after the other
then_back : {A B C : Type 0} (r : List ℕ → Taken A) (s : List ℕ → Taken B) (make : A → B → C) (a : A) (b : B) (x y l : List ℕ)
    → r (x ++ (y ++ l)) ≡ took a (y ++ l) → s (y ++ l) ≡ took b l → in_turn r s make ((x ++ y) ++ l) ≡ took (make a b) l
unfolding ◌>>=◌
then_back r s make a b x y l h k = rw (append_assoc x y l, h, k)

-- a list's text, with what follows it, starts with a space or as what follows does
many_starts : {A : Type 0} (test : ℕ → Bool) (f : A → List ℕ) (xs : List A) (l : List ℕ) → test space ≡ true → Starts test l → Starts test (print_many f xs ++ l)
unfolding print_many
many_starts test f [] l s h = h
many_starts test f (x ∷ xs) l s h = s

after_one_lem : (l : List ℕ) → Starts after_many l → Starts after_one l
after_one_lem [] h = tt
after_one_lem (c ∷ l) h = (and_true (after_one c) (not (eqb c space)) h).0

-- a list is no longer than its text
many_length : {A : Type 0} (f : A → List ℕ) (xs : List A) (l : List ℕ) → length xs ≤ length (print_many f xs ++ l)
unfolding print_many
many_length f [] l = omega arith
many_length f (x ∷ xs) l = omega (arith, many_length f xs l, length-append (f x ++ print_many f xs) l, length-append (f x) (print_many f xs), length-append (print_many f xs) l)

many_back : {A : Type 0} (r : List ℕ → Taken A) (f : A → List ℕ) {Q : A → Type 0} → ((a : A) (l : List ℕ) → Q a → Starts after_one l → r (f a ++ l) ≡ took a l)
    → (n : ℕ) (xs : List A) (l : List ℕ) → length xs ≤ n → Every Q xs → Starts after_many l → many r n (print_many f xs ++ l) ≡ took xs l
unfolding many print_many place_of
many_back r f b zero [] l k q h = refl
many_back r f b zero (x ∷ xs) l k q h = absurd (not-suc-le-zero k)
many_back r f b (suc n) [] [] k q h = refl
many_back r f b (suc n) [] (c ∷ l) k q h = rw (not-true (eqb c space) (and_true (after_one c) (not (eqb c space)) h).1)
many_back r f b (suc n) (x ∷ xs) l k q h =
    then_back r (many r n) (λ a rest. a ∷ rest) x xs (f x) (print_many f xs) l
    (b x (print_many f xs ++ l) q.0 (many_starts after_one f xs l refl (after_one_lem l h))) (many_back r f b n xs l (le_of_suc-le-suc k) q.1 h)

-- whatever its parts, a template's printing starts with a character that passes the test
unfoldable pub starts : (ℕ → Bool) → List Part → Bool
starts test [] = false
starts test (character c ∷ t) = test c
starts test (one_number ∷ t) = false
starts test (one_operand ∷ t) = false
starts test (one_cap ∷ t) = false
starts test (many_numbers ∷ t) = test space && starts test t
starts test (many_operands ∷ t) = test space && starts test t

starts_print : (test : ℕ → Bool) (t : List Part) (p : Holds t) (l : List ℕ) → starts test t ≡ true → Starts test (print t p ++ l)
unfolding starts print
starts_print test [] p l h = absurd (false≢true h)
starts_print test (character c ∷ t) p l h = h
starts_print test (one_number ∷ t) p l h = absurd (false≢true h)
starts_print test (one_operand ∷ t) p l h = absurd (false≢true h)
starts_print test (one_cap ∷ t) p l h = absurd (false≢true h)
starts_print test (many_numbers ∷ t) p l h = let k = and_true (test space) (starts test t) h in
    rw (append_assoc (print_many decimal p.0) (print t p.1) l) (many_starts test decimal p.0 _ k.0 (starts_print test t p.1 l k.1))
starts_print test (many_operands ∷ t) p l h = let k = and_true (test space) (starts test t) h in
    rw (append_assoc (print_many print_operand p.0) (print t p.1) l) (many_starts test print_operand p.0 _ k.0 (starts_print test t p.1 l k.1))

-- in a template each part ends before a character that cannot go on with it
unfoldable pub parted : List Part → Bool
parted [] = true
parted (character c ∷ t) = parted t
parted (one_number ∷ t) = starts after_one t && parted t
parted (one_operand ∷ t) = starts after_one t && parted t
parted (one_cap ∷ t) = starts after_one t && parted t
parted (many_numbers ∷ t) = starts after_many t && parted t
parted (many_operands ∷ t) = starts after_many t && parted t

-- one part of a template, and then the others
part_back : {A : Type 0} (r : List ℕ → Taken A) (x : List ℕ) (test : ℕ → Bool) (t : List Part) (a : A) (p : Holds t) (l : List ℕ) → (starts test t && parted t) ≡ true
    → ((k : List ℕ) → Starts test k → r (x ++ k) ≡ took a k) → (parted t ≡ true → fit t (print t p ++ l) ≡ took p l)
    → in_turn r (fit t) pair ((x ++ print t p) ++ l) ≡ took (pair a p) l
part_back r x test t a p l h b k =
    let s = and_true (starts test t) (parted t) h in
    then_back r (fit t) pair a p x (print t p) l (b (print t p ++ l) (starts_print test t p l s.0)) (k s.1)

pub fit_back : (t : List Part) (p : Holds t) (l : List ℕ) → parted t ≡ true → Short t p → fit t (print t p ++ l) ≡ took p l
unfolding parted fit print literal ◌>>=◌
fit_back [] p l h q = refl
fit_back (character c ∷ t) p l h q = rw (eq-eqb c c refl) (fit_back t p l h q)
fit_back (one_number ∷ t) p l h q =
    part_back number (decimal p.0) after_one t p.0 p.1 l h (λ k s. number_back p.0 k q.0 s) (λ g. fit_back t p.1 l g q.1)
fit_back (one_operand ∷ t) p l h q =
    part_back operand (print_operand p.0) after_one t p.0 p.1 l h (λ k s. operand_back p.0 k q.0 s) (λ g. fit_back t p.1 l g q.1)
fit_back (one_cap ∷ t) p l h q =
    part_back capability (cap_word p.0) after_one t p.0 p.1 l h (λ k s. capability_back p.0 k) (λ g. fit_back t p.1 l g q)
fit_back (many_numbers ∷ t) p l h q =
    part_back (λ k. many number (length k) k) (print_many decimal p.0) after_many t p.0 p.1 l h
    (λ k s. many_back number decimal number_back _ p.0 k (many_length decimal p.0 k) q.0 s) (λ g. fit_back t p.1 l g q.1)
fit_back (many_operands ∷ t) p l h q =
    part_back (λ k. many operand (length k) k) (print_many print_operand p.0) after_many t p.0 p.1 l h
    (λ k s. many_back operand print_operand operand_back _ p.0 k (many_length print_operand p.0 k) q.0 s) (λ g. fit_back t p.1 l g q.1)

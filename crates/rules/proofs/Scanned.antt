-- What a scan without fault shows: each form passed every check where it stands, so the forms are the lines of the program that they make.
use Prim.Native.Nat.{ℕ, suc, ◌+◌}
use native.Mathlib.Omega.{arith}
use mathlib.Core.Path.{◌≡◌, refl, ap, sym, ◌∙◌, subst}
use mathlib.Core.Bool.{true, false, not, ◌||◌, false≢true}
use mathlib.Core.List.{List, [], ◌∷◌}
use lib.Dec.{eqb}
use borrow.Author.Tests.{ne_eqb, not-false}
use Rattle.rules.specs.declared.Mosts.{Mosts}
use Rattle.rules.specs.Text.{stray}
use Rattle.rules.specs.Script.{Edition, bind, give, Form, kind, opens, line, kinds_of, lets_of, result_of, blocks_of, program_of, let_lines, block_lines, kind_lines, lines_of}
use Rattle.rules.specs.Templates.{Taken, took, unfit, decode}
use Rattle.rules.specs.Reading.{Place, outside, within, Sofar, nothing, first_slots, is_outside, in_place, over_most, over255, is_unbound, takes_self, one_more, read_on, Step, fault, next, form_step, line_step, Scan, faulty, scanned, finish, with_form, on_step, scan}
use Rattle.rules.proofs.ListLaws.{impossible, or_false, other_arm}

-- ---- From the scan to the checks

-- what has been read so far of an edition: k kinds, b blocks, l lets, and the place
abbrev pub sofar : Edition → ℕ → ℕ → ℕ → Place → Sofar
sofar e k b l p = record { edition = e; kinds = k; blocks = b; lets = l; place = p }

-- the checks that a form passed
pub record Passed (m : Mosts) (r : Sofar) (F : Form) : Type 0 where
  pub is_in_place : in_place r F ≡ true
  pub in_mosts : over_most m r F ≡ false
  pub in_255 : over255 F ≡ false
  pub bound : is_unbound r F ≡ false
  pub not_self : takes_self r F ≡ false

-- the forms from r on: each passed, and at the end some block is there and the last one is closed
pub data Scanned (m : Mosts) : Sofar → List Form → Type 0 where
  ended : {r : Sofar} → eqb r.blocks 0 ≡ false → is_outside r.place ≡ true → Scanned m r []
  passed : {r : Sofar} {F : Form} {Fs : List Form} → Passed m r F → Scanned m (read_on r F) Fs → Scanned m r (F ∷ Fs)

fault≢next : {k : ℕ} {F : Form} {r : Sofar} → fault k ≡ next F r → ⊥
fault≢next h = impossible cc

faulty≢scanned : {k n : ℕ} {Fs : List Form} → faulty k n ≡ scanned Fs → ⊥
faulty≢scanned h = impossible cc

-- a step that goes on is past every fault
pub form_passed : (m : Mosts) (r : Sofar) (t : Taken Form) (F : Form) (r₁ : Sofar) → form_step m r t ≡ next F r₁ → Passed m r F × (read_on r F ≡ r₁)
unfolding form_step
form_passed m r unfit F r₁ h = absurd (fault≢next h)
form_passed m r (took G l) F r₁ h =
    let a = other_arm (not (in_place r G)) _ _ _ fault≢next h in
    let b = other_arm (over_most m r G || over255 G) _ _ _ fault≢next a.1 in
    let c = other_arm (is_unbound r G) _ _ _ fault≢next b.1 in
    let d = other_arm (takes_self r G) _ (next G (read_on r G)) _ fault≢next c.1 in
    let o = or_false (over_most m r G) (over255 G) b.0 in
    let same : G ≡ F = cc in
    let after : read_on r G ≡ r₁ = cc in
    subst (λ (X : Form). Passed m r X × (read_on r X ≡ r₁)) same
    (record { is_in_place = not-false (in_place r G) a.0; in_mosts = o.0; in_255 = o.1; bound = c.0; not_self = d.0 }, after)

line_passed : (m : Mosts) (r : Sofar) (l : List ℕ) (F : Form) (r₁ : Sofar) → line_step m r l ≡ next F r₁ → Passed m r F × (read_on r F ≡ r₁)
unfolding line_step
line_passed m r l F r₁ h = form_passed m r (decode l) F r₁ (other_arm (stray l) _ _ _ fault≢next h).1

finish_ended : (m : Mosts) (r : Sofar) (n : ℕ) (Fs : List Form) → finish r n ≡ scanned Fs → Scanned m r Fs
unfolding finish
finish_ended m r n Fs h =
    let a = other_arm (eqb r.blocks 0 || not (is_outside r.place)) _ (scanned []) _ faulty≢scanned h in
    let o = or_false (eqb r.blocks 0) (not (is_outside r.place)) a.0 in
    let same : [] ≡ Fs = cc in
    subst (λ (X : List Form). Scanned m r X) same (ended o.0 (not-false (is_outside r.place) o.1))

-- what follows the first form is scanned from where that form leads
first_passed : (m : Mosts) (r : Sofar) (F : Form) (s : Scan) (Fs : List Form) → Passed m r F
    → ((Gs : List Form) → s ≡ scanned Gs → Scanned m (read_on r F) Gs) → with_form F s ≡ scanned Fs → Scanned m r Fs
first_passed m r F (faulty k n) Fs p ih h = absurd (faulty≢scanned h)
first_passed m r F (scanned Gs) Fs p ih h =
    let same : F ∷ Gs ≡ Fs = cc in
    subst (λ (X : List Form). Scanned m r X) same (passed p (ih Gs refl))

step_passed : (m : Mosts) (r : Sofar) (n : ℕ) (s : Step) (go : Sofar → Scan) (Fs : List Form)
    → ((F : Form) (r₁ : Sofar) → s ≡ next F r₁ → Passed m r F × (read_on r F ≡ r₁))
    → ((r₁ : Sofar) (Gs : List Form) → go r₁ ≡ scanned Gs → Scanned m r₁ Gs) → on_step n s go ≡ scanned Fs → Scanned m r Fs
step_passed m r n (fault k) go Fs p ih h = absurd (faulty≢scanned h)
step_passed m r n (next F r₁) go Fs p ih h =
    let (q, e) = p F r₁ refl in
    first_passed m r F (go r₁) Fs q (λ Gs g. rw e (ih r₁ Gs g)) h

pub scan_passed : (m : Mosts) (ls : List (List ℕ)) (r : Sofar) (n : ℕ) (Fs : List Form) → scan m r n ls ≡ scanned Fs → Scanned m r Fs
unfolding scan
scan_passed m [] r n Fs h = finish_ended m r n Fs h
scan_passed m (l ∷ ls) r n Fs h = step_passed m r n (line_step m r l) (λ r₁. scan m r₁ (suc n) ls) Fs (line_passed m r l) (λ r₁. scan_passed m ls r₁ (suc n)) h

-- ---- The order of the lines

-- the lines from a place on: those left of a block that is open there, and those of the blocks after it
abbrev rest_lines : Place → List Form → List Form
rest_lines outside Fs = block_lines (blocks_of Fs)
rest_lines (within o n) Fs = let_lines (lets_of Fs) (line (give (result_of Fs)) ∷ block_lines (blocks_of Fs))

-- no kind follows, and the forms are those lines
record Ordered (p : Place) (Fs : List Form) : Type 0 where
  kinds : kinds_of Fs ≡ []
  lines : rest_lines p Fs ≡ Fs

-- one line more, from place p to place q
with_line : {p q : Place} {F : Form} {Fs : List Form} → kinds_of (F ∷ Fs) ≡ kinds_of Fs → rest_lines p (F ∷ Fs) ≡ F ∷ rest_lines q Fs → Ordered q Fs → Ordered p (F ∷ Fs)
with_line {F} k l rest = record { kinds = k ∙ rest.kinds; lines = l ∙ ap (λ (X : List Form). F ∷ X) rest.lines }

some_more : (n : ℕ) → eqb (n + 1) 0 ≡ false
some_more n = ne_eqb (n + 1) 0 (λ h. omega arith)

-- so it is once a block is opened
ordered : {m : Mosts} {e : Edition} {k b l : ℕ} (p : Place) (Fs : List Form) → Scanned m (sofar e k b l p) Fs → eqb b 0 ≡ false → Ordered p Fs
unfolding kinds_of blocks_of lets_of result_of let_lines block_lines in_place is_outside read_on one_more
ordered outside [] s h = record { kinds = refl; lines = refl }
ordered (within o n) [] (ended some closed) h = absurd (false≢true closed)
ordered p (kind K ∷ Fs) (passed x s) h = absurd (false≢true (sym h ∙ x.is_in_place))
ordered {m = m} {e = e} {k = k} {b = b} {l = l} outside (opens o ∷ Fs) (passed x s) h =
    with_line refl refl (ordered {b = (read_on (sofar e k b l outside) (opens o)).blocks} (within o (first_slots o)) Fs s (some_more b))
ordered (within _ n) (opens o ∷ Fs) (passed x s) h = absurd (false≢true x.is_in_place)
ordered outside (line (bind e) ∷ Fs) (passed x s) h = absurd (false≢true x.is_in_place)
ordered (within o n) (line (bind e) ∷ Fs) (passed x s) h = with_line refl refl (ordered (within o (n + 1)) Fs s h)
ordered outside (line (give w) ∷ Fs) (passed x s) h = absurd (false≢true x.is_in_place)
ordered (within o n) (line (give w) ∷ Fs) (passed x s) h = with_line refl refl (ordered outside Fs s h)

-- before that, kinds may stand
ordered_kinds : {m : Mosts} {e : Edition} {k l : ℕ} (Fs : List Form) → Scanned m (sofar e k 0 l outside) Fs → kind_lines (kinds_of Fs) (block_lines (blocks_of Fs)) ≡ Fs
unfolding kinds_of blocks_of kind_lines block_lines in_place is_outside read_on
ordered_kinds [] s = refl
ordered_kinds {m = m} {e = e} {k = k} {l = l} (kind K ∷ Fs) (passed x s) =
    ap (λ (X : List Form). kind K ∷ X) (ordered_kinds {k = (read_on (sofar e k 0 l outside) (kind K)).kinds} Fs s)
ordered_kinds (opens o ∷ Fs) (passed x s) =
    let rest = ordered (within o (first_slots o)) Fs s refl in
    rw rest.kinds (ap (λ (X : List Form). opens o ∷ X) rest.lines)
ordered_kinds (line y ∷ Fs) (passed x s) = absurd (false≢true x.is_in_place)

-- kinds come first, and every block is opened, has its lets and is closed by a give
pub lines_scanned : (m : Mosts) (e : Edition) (Fs : List Form) → Scanned m (nothing e) Fs → lines_of (program_of e Fs) ≡ Fs
unfolding lines_of program_of
lines_scanned m e Fs s = ordered_kinds Fs s

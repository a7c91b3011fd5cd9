-- The checks of a line, from the number of its form and from what the code keeps of it.
use Prim.Native.Nat.{ℕ, ◌+◌, ◌≤◌, ◌<◌, max}
use native.Mathlib.Nat.{le-max_left, le-max_right, max-le}
use native.Mathlib.Omega.{arith}
use mathlib.Core.Path.{◌≡◌, refl, sym, ap, ◌∙◌, subst}
use mathlib.Core.Bool.{Bool, true, false, not, ◌&&◌, ◌||◌, cond, or-false, or-true, or_assoc, or_comm, false≢true}
use mathlib.Core.List.{List, [], ◌∷◌, map}
use mathlib.Core.Logic.{inl, inr}
use lib.Dec.{T, ltb, leb}
use lib.ListN.{get_or}
use borrow.Author.Tests.{lt-ltb, le-ltb, leb-true, leb-false, ltb-true, ltb-false, not-true}
use mir.Val.{has_key}
use Rattle.std.specs.Prelude.{Result}
use Rattle.rules.specs.declared.Cap.{Cap}
use Rattle.rules.specs.declared.faults.Fault.{Fault}
use Rattle.rules.specs.declared.forms.Form.{Form as Name}
use Rattle.rules.specs.declared.forms.Form.TheVariants as N
use Rattle.rules.specs.declared.Mosts.{Mosts}
use Rattle.rules.specs.Mosts as Most
use Rattle.rules.specs.Numbers as No
use Rattle.rules.specs.Lists.{any, pad}
use Rattle.rules.specs.Script.{Operand, Expr, value, field, swap, call, new, cast, spawn, send, recv, copy, Line as Script-line, bind, give, Sort, thread, method, Kind, Form, kind, opens, line, Edition, rank}
use Rattle.rules.specs.Templates.{took}
use Rattle.rules.specs.Forms.{form_number, form_of}
use Rattle.rules.specs.Tables.{line_words, row}
use Rattle.rules.specs.Reading as R
use Rattle.rules.specs.Reading.{targets_in, operands_in, numbers_in, slots_in, Place, outside, within, slots_filled, is_outside, in_method, in_edition, in_place, over_most, over255, is_unbound, takes_first, takes_self, one_more, read_on, Step, fault, next, form_step}
use Rattle.rules.proofs.ListLaws.{by_bool, and_true, or_false as or_both_false}
use Rattle.rules.proofs.FormNumbers.{place, number_told, IsOneOf, not_told}
use Rattle.grammar.specs.declared.forms.Line.{Line}
use Rattle.grammar.specs.Items.{past}
use Rattle.grammar.specs.Decoded.{over_line, Tells}
use Rattle.table.specs.ProgramTable.{sort_number}
use Rattle.reader.specs.contracts.faults.Place as C
use Rattle.reader.specs.declared.faults.Place.{Place as CodePlace}
use Rattle.reader.specs.declared.faults.Place.TheVariants as P
use Rattle.reader.specs.declared.faults.Sofar.{Sofar}
use Rattle.reader.specs.Sofar.{place_of, edition_of, so_far, full_before, InPlace, Tidy, Full, fault_of, found, Faults}

-- ---- The number of a form

abbrev pub number_of : Form → ℕ
number_of F = get_or (row F) 0 0

let_number : (e : Expr) → 5 ≤ number_of (line (bind e))
unfolding row line_words pad
let_number (value w) = omega arith
let_number (field s f) = omega arith
let_number (swap s f w) = omega arith
let_number (call s i w) = omega arith
let_number (new k n ws) = omega arith
let_number (cast k w) = omega arith
let_number (spawn b) = omega arith
let_number (send s w) = omega arith
let_number (recv s) = omega arith
let_number (copy k s) = omega arith

-- the numbers that the forms of a sort have
abbrev pub Numbered : Form → ℕ → Type 0
Numbered (kind K) n = n ≡ 1
Numbered (opens thread) n = n ≡ 2
Numbered (opens method) n = n ≡ 3
Numbered (line (give w)) n = n ≡ 4
Numbered (line (bind e)) n = 5 ≤ n

numbered : (F : Form) → Numbered F (number_of F)
unfolding row line_words pad
numbered (kind K) = refl
numbered (opens thread) = refl
numbered (opens method) = refl
numbered (line (give w)) = refl
numbered (line (bind e)) = let_number e

pub told : {n : ℕ} (F : Form) → n ≡ number_of F → Numbered F n
told F e = rw e (numbered F)

-- and back: what a form is by its number

pub is_kind : {n : ℕ} (F : Form) → Numbered F n → n ≡ 1 → (K : Kind) × (F ≡ kind K)
is_kind (kind K) t h = (K, refl)
is_kind (opens thread) t h = absurd (omega arith)
is_kind (opens method) t h = absurd (omega arith)
is_kind (line (give w)) t h = absurd (omega arith)
is_kind (line (bind e)) t h = absurd (omega arith)

pub is_opener : {n : ℕ} (F : Form) → Numbered F n → 2 ≤ n → n < 4 → (o : Sort) × (F ≡ opens o) × (n ≡ sort_number o)
is_opener (kind K) t h k = absurd (omega arith)
is_opener (opens thread) t h k = (thread, refl, t)
is_opener (opens method) t h k = (method, refl, t)
is_opener (line (give w)) t h k = absurd (omega arith)
is_opener (line (bind e)) t h k = absurd (omega arith)

pub is_give : {n : ℕ} (F : Form) → Numbered F n → n ≡ 4 → (w : Operand) × (F ≡ line (give w))
is_give (kind K) t h = absurd (omega arith)
is_give (opens thread) t h = absurd (omega arith)
is_give (opens method) t h = absurd (omega arith)
is_give (line (give w)) t h = (w, refl)
is_give (line (bind e)) t h = absurd (omega arith)

pub is_thread : {n : ℕ} (F : Form) → Numbered F n → n ≡ 2 → F ≡ opens thread
is_thread {n} F t h = go (is_opener F t (omega arith) (omega arith))
  where
    go : (o : Sort) × (F ≡ opens o) × (n ≡ sort_number o) → F ≡ opens thread
    go (thread, k, e) = k
    go (method, k, e) = absurd (omega arith)

pub is_method : {n : ℕ} (F : Form) → Numbered F n → n ≡ 3 → F ≡ opens method
is_method {n} F t h = go (is_opener F t (omega arith) (omega arith))
  where
    go : (o : Sort) × (F ≡ opens o) × (n ≡ sort_number o) → F ≡ opens method
    go (thread, k, e) = absurd (omega arith)
    go (method, k, e) = k

-- a number that is none of the others
pub is_line : {n : ℕ} (F : Form) → Numbered F n → (n ≡ 1 → ⊥) → (2 ≤ n → n < 4 → ⊥) → (x : Script-line) × (F ≡ line x)
is_line (kind K) t h k = absurd (h t)
is_line (opens thread) t h k = absurd (k (omega arith) (omega arith))
is_line (opens method) t h k = absurd (k (omega arith) (omega arith))
is_line (line x) t h k = (x, refl)

pub is_let : {n : ℕ} (F : Form) → Numbered F n → (n ≡ 1 → ⊥) → (2 ≤ n → n < 4 → ⊥) → (n ≡ 4 → ⊥) → (e : Expr) × (F ≡ line (bind e))
is_let {n} F t h k g = go (is_line F t h k)
  where
    go : (x : Script-line) × (F ≡ line x) → (e : Expr) × (F ≡ line (bind e))
    go (bind e, p) = (e, p)
    go (give w, p) = absurd (g (subst (λ (X : Form). Numbered X n) p t))

-- ---- The name of a form, told by its number

-- the form of a number is the form with that number
pub named : (f : Name) → f ≡ form_of (form_number f)
named N.NoForm = refl
named N.Kind = refl
named N.Thread = refl
named N.Method = refl
named N.Give = refl
named N.Value = refl
named N.Field = refl
named N.Swap = refl
named N.Call = refl
named N.New = refl
named N.Cast = refl
named N.Spawn = refl
named N.Send = refl
named N.Recv = refl
named N.Copy = refl

-- every line has one
has_name : (F : Form) → 1 ≤ form_number (form_of (number_of F))
unfolding row line_words pad
has_name (kind K) = omega arith
has_name (opens thread) = omega arith
has_name (opens method) = omega arith
has_name (line (give w)) = omega arith
has_name (line (bind (value w))) = omega arith
has_name (line (bind (field s f))) = omega arith
has_name (line (bind (swap s f w))) = omega arith
has_name (line (bind (call s i w))) = omega arith
has_name (line (bind (new k n ws))) = omega arith
has_name (line (bind (cast k w))) = omega arith
has_name (line (bind (spawn b))) = omega arith
has_name (line (bind (send s w))) = omega arith
has_name (line (bind (recv s))) = omega arith
has_name (line (bind (copy k s))) = omega arith

module _ {n : ℕ} {f : Name} (told-by : f ≡ form_of n) where
  -- in an arm for the openers, and in one without them
  pub opener_number : IsOneOf (N.Thread ∷ N.Method ∷ []) f → (2 ≤ n) × (n < 4)
  opener_number (inl t) = let is : n ≡ 2 = number_told told-by t (omega arith) in (omega arith, omega arith)
  opener_number (inr t) = let is : n ≡ 3 = number_told told-by t (omega arith) in (omega arith, omega arith)

  -- (an arm may have beside them what no line is)
  pub line_opener_number : (F : Form) → n ≡ number_of F → IsOneOf (N.NoForm ∷ N.Thread ∷ N.Method ∷ []) f → (2 ≤ n) × (n < 4)
  line_opener_number F is (inl t) = absurd (let none = ap form_number (ap form_of (sym is) ∙ sym told-by ∙ t) in omega (arith, has_name F))
  line_opener_number F is (inr one) = opener_number one

  pub no_opener : (gs : List Name) → IsOneOf gs f → T (not (has_key (map place gs) (place N.Thread))) → T (not (has_key (map place gs) (place N.Method))) → 2 ≤ n → n < 4 → ⊥
  no_opener gs one no-thread no-method low high = omega (arith, not_told gs {n = n} {k = 2} told-by one no-thread, not_told gs {n = n} {k = 3} told-by one no-method)

  -- in an arm without kinds, openers and gives
  pub let_told : (gs : List Name) → IsOneOf gs f → T (not (has_key (map place gs) (place N.Kind))) → T (not (has_key (map place gs) (place N.Thread))) → T (not (has_key (map place gs) (place N.Method)))
      → T (not (has_key (map place gs) (place N.Give))) → (F : Form) → n ≡ number_of F → (e : Expr) × (F ≡ line (bind e))
  let_told gs one no_kind no-thread no-method no-give F e =
      is_let F (told F e) (not_told gs told-by one no_kind) (no_opener gs one no-thread no-method) (not_told gs told-by one no-give)

-- ---- Copies

-- 14 is the number of a copy, and its capability is its first part
pub is_copy : {n : ℕ} (F : Form) → n ≡ number_of F → n ≡ 14 → (k : Cap) × (s : ℕ) × (F ≡ line (bind (copy k s)))
unfolding row line_words pad
is_copy (kind K) e h = absurd (omega arith)
is_copy (opens thread) e h = absurd (omega arith)
is_copy (opens method) e h = absurd (omega arith)
is_copy (line (give w)) e h = absurd (omega arith)
is_copy (line (bind (value w))) e h = absurd (omega arith)
is_copy (line (bind (field s f))) e h = absurd (omega arith)
is_copy (line (bind (swap s f w))) e h = absurd (omega arith)
is_copy (line (bind (call s i w))) e h = absurd (omega arith)
is_copy (line (bind (new k n ws))) e h = absurd (omega arith)
is_copy (line (bind (cast k w))) e h = absurd (omega arith)
is_copy (line (bind (spawn b))) e h = absurd (omega arith)
is_copy (line (bind (send s w))) e h = absurd (omega arith)
is_copy (line (bind (recv s))) e h = absurd (omega arith)
is_copy (line (bind (copy k s))) e h = (k, s, refl)

pub copy_part : (k : Cap) (s : ℕ) → get_or (row (line (bind (copy k s)))) 1 0 ≡ rank k
unfolding row line_words pad
copy_part k s = refl

-- every other line may be used in both editions
pub in_both_editions : {n : ℕ} (d : Edition) (x : Script-line) → n ≡ number_of (line x) → (n ≡ 14 → ⊥) → in_edition d x ≡ true
unfolding row line_words pad in_edition
in_both_editions d (give w) e h = refl
in_both_editions d (bind (value w)) e h = refl
in_both_editions d (bind (field s f)) e h = refl
in_both_editions d (bind (swap s f w)) e h = refl
in_both_editions d (bind (call s i w)) e h = refl
in_both_editions d (bind (new k n ws)) e h = refl
in_both_editions d (bind (cast k w)) e h = refl
in_both_editions d (bind (spawn b)) e h = refl
in_both_editions d (bind (send s w)) e h = refl
in_both_editions d (bind (recv s)) e h = refl
in_both_editions d (bind (copy k s)) e h = absurd (h e)

-- ---- The place

-- a derived `==` of places, by the three cases
abbrev pub no_block_open : CodePlace → Bool
no_block_open P.Outside = true
no_block_open P.Thread = false
no_block_open P.Method = false

abbrev pub method_open : CodePlace → Bool
method_open P.Outside = false
method_open P.Thread = false
method_open P.Method = true

pub equals_outside : (p : CodePlace) → denote.Enum.Bare.sameb C.the_type p P.Outside ≡ no_block_open p
equals_outside P.Outside = refl
equals_outside P.Thread = refl
equals_outside P.Method = refl

pub equals_method : (p : CodePlace) → denote.Enum.Bare.sameb C.the_type p P.Method ≡ method_open p
equals_method P.Outside = refl
equals_method P.Thread = refl
equals_method P.Method = refl

pub place_outside : (p : CodePlace) (filled : ℕ) → is_outside (place_of p filled) ≡ no_block_open p
unfolding is_outside
place_outside P.Outside filled = refl
place_outside P.Thread filled = refl
place_outside P.Method filled = refl

place_method : (p : CodePlace) (filled : ℕ) → in_method (place_of p filled) ≡ method_open p
unfolding in_method
place_method P.Outside filled = refl
place_method P.Thread filled = refl
place_method P.Method filled = refl

place_more : (p : CodePlace) (filled : ℕ) → place_of p (filled + 1) ≡ one_more (place_of p filled)
unfolding one_more
place_more P.Outside filled = refl
place_more P.Thread filled = refl
place_more P.Method filled = refl

-- after a let, in a block that has a slot to spare
pub let_goes_on : (r : Sofar) (e : Expr)
    → so_far (record { second = r.second; kinds = r.kinds; blocks = r.blocks; lets = r.lets + 1; place = r.place; filled = r.filled + 1 }) ≡ read_on (so_far r) (line (bind e))
unfolding read_on
let_goes_on r e = ap (λ (p : Place). record { edition = edition_of r.second; kinds = r.kinds; blocks = r.blocks; lets = r.lets + 1; place = p }) (place_more r.place r.filled)

filled_more : (p : Place) → is_outside p ≡ false → slots_filled (one_more p) ≡ slots_filled p + 1
unfolding is_outside slots_filled one_more
filled_more outside h = absurd (false≢true (sym h))
filled_more (within o n) h = refl

pub tidy_let : (m : Mosts) (r : Sofar) (e : Expr) → Tidy r → in_place (so_far r) (line (bind e)) ≡ true → full_before m (so_far r) (line (bind e)) ≡ false
    → Tidy (record { second = r.second; kinds = r.kinds; blocks = r.blocks; lets = r.lets + 1; place = r.place; filled = r.filled + 1 })
unfolding in_place full_before
tidy_let m r e tidy placed free =
    let room = leb-false Most.slots (slots_filled (so_far r).place) (or_both_false (leb Most.slots (slots_filled (so_far r).place)) (leb m.lets r.lets) free).0 in
    record {
      filled = ap slots_filled (place_more r.place r.filled) ∙ filled_more (so_far r).place (not-true (is_outside (so_far r).place) (and_true (not (is_outside (so_far r).place)) (in_edition (so_far r).edition (bind e)) placed).0) ∙ ap (λ k. k + 1) tidy.filled;
      bounded = omega (arith, tidy.filled);
    }

-- ---- 4 to 6

or_turned : (a b c d : Bool) → ((a || b || c) || d) ≡ ((b || (c || d)) || a)
or_turned true b c d = sym (or-true (b || (c || d)))
or_turned false b c d = or_assoc b c d ∙ sym (or-false (b || (c || d)))

or_turned₂ : (a b c d : Bool) → ((a || b || c) || d) ≡ ((c || d) || (a || b))
or_turned₂ a b c d = or_assoc (a || b) c d ∙ or_comm (a || b) (c || d)

opener_small : (o : Sort) → over255 (opens o) ≡ false
unfolding over255 slots_in targets_in operands_in numbers_in any
opener_small o = refl

-- 4: the line exceeds a most by itself, or by what was read before it
pub over_most_lem : (m : Mosts) (r : R.Sofar) (F : Form) → (over_most m r F || over255 F) ≡ (over_line F || full_before m r F)
unfolding over_most over_line full_before operands_in
over_most_lem m r (kind K) = or_turned (leb m.kinds r.kinds) _ _ (over255 (kind K))
over_most_lem m r (opens o) = rw (opener_small o) (or-false (leb m.blocks r.blocks))
over_most_lem m r (line (give w)) = sym (or-false (over255 (line (give w))))
over_most_lem m r (line (bind e)) = or_turned₂ (leb Most.slots (slots_filled r.place)) _ _ (over255 (line (bind e)))

-- a number is below the greater of two where it is below one of them
below_max : (n k p : ℕ) → ltb n (max (k + 1) p) ≡ (leb n k || ltb n p)
below_max n k p = by_bool (leb n k)
    (λ h. rw h (lt-ltb n (max (k + 1) p) (let z = leb-true n k h in omega (arith, le-max_left (k + 1) p))))
    (λ h. rw h (by_bool (ltb n p)
    (λ t. rw t (lt-ltb n (max (k + 1) p) (let z = ltb-true n p t in omega (arith, le-max_right (k + 1) p))))
    (λ t. rw t (le-ltb n (max (k + 1) p) (max-le (let z = leb-false n k h in omega arith) (ltb-false n p t))))))

-- some slot is not yet filled where the highest one is not
unbound_past : (n : ℕ) (slots : List ℕ) → any (leb n) slots ≡ ltb n (past slots)
unfolding any past
unbound_past n [] = sym (le-ltb n 0 (omega arith))
unbound_past n (s ∷ slots) = rw (unbound_past n slots) (sym (below_max n s (past slots)))

-- the refusal that the tests come to: in place; over a most by itself, or by what was read; unbound; in a method, and taking slot 0
abbrev pub fault_by : (placed over full unbound inside own : Bool) → ℕ
fault_by placed over full unbound inside own =
    cond (not placed) No.malformed (cond (over || full) No.over_count (cond unbound No.unbound (cond (inside && own) No.self_taken 0)))

-- and the step of a form by the same tests
abbrev step_by : (placed over unbound self : Bool) → Form → R.Sofar → Step
step_by placed over unbound self F r =
    cond (not placed) (fault No.malformed) (cond over (fault No.over_count) (cond unbound (fault No.unbound) (cond self (fault No.self_taken) (next F r))))

fault_of_lem : (placed over unbound self : Bool) (F : Form) (r : R.Sofar)
    → fault_of (step_by placed over unbound self F r) ≡ cond (not placed) No.malformed (cond over No.over_count (cond unbound No.unbound (cond self No.self_taken 0)))
fault_of_lem false over unbound self F r = refl
fault_of_lem true true unbound self F r = refl
fault_of_lem true false true self F r = refl
fault_of_lem true false false true F r = refl
fault_of_lem true false false false F r = refl

goes_on : (placed over unbound self : Bool) (F : Form) (r : R.Sofar) → fault_of (step_by placed over unbound self F r) ≡ 0 → step_by placed over unbound self F r ≡ next F r
goes_on false over unbound self F r h = absurd (omega arith)
goes_on true true unbound self F r h = absurd (omega arith)
goes_on true false true self F r h = absurd (omega arith)
goes_on true false false true F r h = absurd (omega arith)
goes_on true false false false F r h = refl

-- a step without a fault goes on with its form
pub step_goes_on : (m : Mosts) (r : R.Sofar) (F : Form) → fault_of (form_step m r (took F [])) ≡ 0 → form_step m r (took F []) ≡ next F (read_on r F)
unfolding form_step
step_goes_on m r F h = goes_on (in_place r F) (over_most m r F || over255 F) (is_unbound r F) (takes_self r F) F (read_on r F) h

-- the refusal of a form's step, from what the code keeps of its line
fault_by_lem : (m : Mosts) (r : Sofar) (l : Line) (F : Form) → Tidy r → Tells l F
    → fault_of (form_step m (so_far r) (took F [])) ≡ fault_by (in_place (so_far r) F) l.over (full_before m (so_far r) F) (ltb r.filled l.need) (method_open r.place) l.own
unfolding form_step is_unbound takes_self
fault_by_lem m r l F tidy tells =
    rw (over_most_lem m (so_far r) F, unbound_past (slots_filled (so_far r).place) (slots_in F), place_method r.place r.filled, tidy.filled, tells.over, tells.need, tells.own)
    (fault_of_lem (in_place (so_far r) F) (over_line F || full_before m (so_far r) F) (ltb r.filled (past (slots_in F))) (method_open r.place && any takes_first (operands_in F)) F (read_on (so_far r) F))

module _ {m : Mosts} {r : Sofar} {l : Line} {placed : Bool} where
  pub faults : {full : Bool} {x : Result Unit Fault} → InPlace r l.form l.a placed → Full m r l.form full
      → fault_by placed l.over full (ltb r.filled l.need) (method_open r.place) l.own ≡ found x → Faults m r l x
  faults p f e = record {
    is = λ tidy F tells. sym e ∙ rw (p.is F tells.number tells.part, f.is tidy F tells.number) (sym (fault_by_lem m r l F tidy tells));
  }

  -- where it does not matter what was read before the line
  pub faults_alone : {x : Result Unit Fault} → InPlace r l.form l.a placed
      → ((full : Bool) → fault_by placed l.over full (ltb r.filled l.need) (method_open r.place) l.own ≡ found x) → Faults m r l x
  faults_alone p e = record {
    is = λ tidy F tells. sym (e (full_before m (so_far r) F)) ∙ rw (p.is F tells.number tells.part) (sym (fault_by_lem m r l F tidy tells));
  }

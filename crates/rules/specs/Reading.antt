-- Reading a script: refusals 1 to 9 in document 01's order, each with its number and line.
use Rattle.std.specs.Prelude.{ℕ, suc, ◌+◌, Bool, true, false, not, ◌&&◌, ◌||◌, cond, List, [], ◌∷◌, ◌++◌, map, ltb, leb, eqb, length}
use Rattle.rules.specs.declared.Cap.{Cap}
use Rattle.rules.specs.declared.Cap.TheVariants.{Imm, Iso, Local, Unsafe}
use Rattle.rules.specs.declared.Mosts.{Mosts}
use Rattle.rules.specs.Mosts as Most
use Rattle.rules.specs.Numbers as No
use Rattle.rules.specs.Lists.{any}
use Rattle.rules.specs.Text.{stray, lines}
use Rattle.rules.specs.Script.{Operand, reads, takes, value, field, swap, call, new, cast, spawn, send, recv, copy, bind, give, Sort, thread, method, Line, Form, kind, opens, line, Edition, edition1, edition2, Program, program_of, kind_at, block_at}
use Rattle.rules.specs.Templates.{Taken, took, unfit, fit, script_t, decode}

-- ---- What a form names

abbrev pub slot_of : Operand → ℕ
slot_of (reads s) = s
slot_of (takes s) = s

-- its target slot
unfoldable pub targets_in : Form → List ℕ
targets_in (kind K) = []
targets_in (opens o) = []
targets_in (line (give w)) = []
targets_in (line (bind (value w))) = []
targets_in (line (bind (field s f))) = s ∷ []
targets_in (line (bind (swap s f w))) = s ∷ []
targets_in (line (bind (call s m w))) = s ∷ []
targets_in (line (bind (new k n ws))) = []
targets_in (line (bind (cast k w))) = []
targets_in (line (bind (spawn b))) = []
targets_in (line (bind (send s w))) = s ∷ []
targets_in (line (bind (recv s))) = s ∷ []
targets_in (line (bind (copy k s))) = s ∷ []

-- its operands
unfoldable pub operands_in : Form → List Operand
operands_in (kind K) = []
operands_in (opens o) = []
operands_in (line (give w)) = w ∷ []
operands_in (line (bind (value w))) = w ∷ []
operands_in (line (bind (field s f))) = []
operands_in (line (bind (swap s f w))) = w ∷ []
operands_in (line (bind (call s m w))) = w ∷ []
operands_in (line (bind (new k n ws))) = ws
operands_in (line (bind (cast k w))) = w ∷ []
operands_in (line (bind (spawn b))) = []
operands_in (line (bind (send s w))) = w ∷ []
operands_in (line (bind (recv s))) = []
operands_in (line (bind (copy k s))) = []

-- its other numbers: counts and places of fields, methods, kinds and blocks
unfoldable pub numbers_in : Form → List ℕ
numbers_in (kind K) = K.fields ∷ K.methods
numbers_in (opens o) = []
numbers_in (line (give w)) = []
numbers_in (line (bind (value w))) = []
numbers_in (line (bind (field s f))) = f ∷ []
numbers_in (line (bind (swap s f w))) = f ∷ []
numbers_in (line (bind (call s m w))) = m ∷ []
numbers_in (line (bind (new k n ws))) = n ∷ []
numbers_in (line (bind (cast k w))) = []
numbers_in (line (bind (spawn b))) = b ∷ []
numbers_in (line (bind (send s w))) = []
numbers_in (line (bind (recv s))) = []
numbers_in (line (bind (copy k s))) = []

-- all slots that it names
unfoldable pub slots_in : Form → List ℕ
slots_in F = targets_in F ++ map slot_of (operands_in F)

-- ---- Line by line

-- where the next line stands: before, between or after blocks; or in a block of a sort, of which so many slots are filled
pub data Place : Type 0 where
  outside : Place
  within : Sort → (filled : ℕ) → Place

-- what has been read so far
pub record Sofar : Type 0 where
  pub edition : Edition
  pub kinds : ℕ
  pub blocks : ℕ
  pub lets : ℕ
  pub place : Place

abbrev pub nothing : Edition → Sofar
nothing e = record { edition = e; kinds = 0; blocks = 0; lets = 0; place = outside }

-- "In a method slot 0 is self and slot 1 the argument. In a thread slot 0 is its channel"
abbrev pub first_slots : Sort → ℕ
first_slots thread = 1
first_slots method = 2

unfoldable pub slots_filled : Place → ℕ
slots_filled outside = 0
slots_filled (within o n) = n

unfoldable pub is_outside : Place → Bool
is_outside outside = true
is_outside (within o n) = false

unfoldable pub in_method : Place → Bool
in_method outside = false
in_method (within thread n) = false
in_method (within method n) = true

-- document 02, L6: "A text whose first line is (script 2) may use (copy K S), where K is not iso."
unfoldable pub may_copy : Edition → Cap → Bool
may_copy edition1 k = false
may_copy edition2 Imm = true
may_copy edition2 Iso = false
may_copy edition2 Local = true
may_copy edition2 Unsafe = true

-- so "copy in it is 3" and "a copy to iso is 3"; every other line may be used in both editions
unfoldable pub in_edition : Edition → Line → Bool
in_edition e (give w) = true
in_edition e (bind (value w)) = true
in_edition e (bind (field s f)) = true
in_edition e (bind (swap s f w)) = true
in_edition e (bind (call s i w)) = true
in_edition e (bind (new k n ws)) = true
in_edition e (bind (cast k w)) = true
in_edition e (bind (spawn b)) = true
in_edition e (bind (send s w)) = true
in_edition e (bind (recv s)) = true
in_edition e (bind (copy k s)) = may_copy e k

-- 3: "Kinds come before all blocks. (thread) or (method) opens a block; (let E) lines follow; (give W) closes it."
unfoldable pub in_place : Sofar → Form → Bool
in_place r (kind K) = eqb r.blocks 0
in_place r (opens o) = is_outside r.place
in_place r (line x) = not (is_outside r.place) && in_edition r.edition x

-- 4: a most exceeded by what the line makes
unfoldable pub over_most : Mosts → Sofar → Form → Bool
over_most m r (kind K) = leb m.kinds r.kinds || ltb Most.fields K.fields || ltb Most.methods (length K.methods)
over_most m r (opens o) = leb m.blocks r.blocks
over_most m r (line (give w)) = false
over_most m r (line (bind e)) =
    leb Most.slots (slots_filled r.place) || leb m.lets r.lets || ltb Most.operands (length (operands_in (line (bind e))))

-- 4: a number over 255
unfoldable pub over255 : Form → Bool
over255 F = any (ltb Most.number) (slots_in F) || any (ltb Most.number) (numbers_in F)

-- 5: a slot not yet filled in its block
unfoldable pub is_unbound : Sofar → Form → Bool
is_unbound r F = any (leb (slots_filled r.place)) (slots_in F)

-- 6: take of slot 0 in a method
unfoldable pub takes_first : Operand → Bool
takes_first (reads s) = false
takes_first (takes s) = eqb s 0

unfoldable pub takes_self : Sofar → Form → Bool
takes_self r F = in_method r.place && any takes_first (operands_in F)

-- what has been read after the line; "Each let fills the next slot."
unfoldable pub one_more : Place → Place
one_more outside = outside
one_more (within o n) = within o (n + 1)

unfoldable pub read_on : Sofar → Form → Sofar
read_on r (kind K) = record { edition = r.edition; kinds = r.kinds + 1; blocks = r.blocks; lets = r.lets; place = r.place }
read_on r (opens o) = record { edition = r.edition; kinds = r.kinds; blocks = r.blocks + 1; lets = r.lets; place = within o (first_slots o) }
read_on r (line (give w)) = record { edition = r.edition; kinds = r.kinds; blocks = r.blocks; lets = r.lets; place = outside }
read_on r (line (bind e)) = record { edition = r.edition; kinds = r.kinds; blocks = r.blocks; lets = r.lets + 1; place = one_more r.place }

-- "then line by line 2 to 6 (lowest within a line)"
pub data Step : Type 0 where
  fault : (number : ℕ) → Step
  next : Form → Sofar → Step

unfoldable pub form_step : Mosts → Sofar → Taken Form → Step
form_step m r unfit = fault No.malformed
form_step m r (took F l) =
    cond (not (in_place r F)) (fault No.malformed)
    (cond (over_most m r F || over255 F) (fault No.over_count)
    (cond (is_unbound r F) (fault No.unbound)
    (cond (takes_self r F) (fault No.self_taken) (next F (read_on r F)))))

unfoldable pub line_step : Mosts → Sofar → List ℕ → Step
line_step m r l = cond (stray l) (fault No.stray_byte) (form_step m r (decode l))

-- all lines, from line n on; "then 7": "no block, or the last one open", placed at "the number of lines"
pub data Scan : Type 0 where
  faulty : (number line : ℕ) → Scan
  scanned : List Form → Scan

unfoldable pub finish : Sofar → ℕ → Scan
finish r n = cond (eqb r.blocks 0 || not (is_outside r.place)) (faulty No.unfinished n) (scanned [])

abbrev pub with_form : Form → Scan → Scan
with_form F (faulty k n) = faulty k n
with_form F (scanned Fs) = scanned (F ∷ Fs)

abbrev pub on_step : ℕ → Step → (Sofar → Scan) → Scan
on_step n (fault k) go = faulty k n
on_step n (next F r) go = with_form F (go r)

unfoldable pub scan : Mosts → Sofar → ℕ → List (List ℕ) → Scan
scan m r n [] = finish r n
scan m r n (l ∷ ls) = on_step n (line_step m r l) (λ r₁. scan m r₁ (suc n) ls)

-- ---- "then 8 in line order"

unfoldable pub same_sort : Sort → Sort → Bool
same_sort thread thread = true
same_sort thread method = false
same_sort method thread = false
same_sort method method = true

-- block b is there and of this sort
unfoldable pub is_sort : Program → Sort → ℕ → Bool
is_sort P o b = ltb b (length P.blocks) && same_sort (block_at P b).sort o

-- "no such kind or block, wrong sort of block, operands unlike the kind's fields, block 0 not a thread"; b blocks are opened before the line
unfoldable pub dangles : Program → ℕ → Form → Bool
dangles P b (kind K) = any (λ i. not (is_sort P method i)) K.methods
dangles P b (opens thread) = false
dangles P b (opens method) = eqb b 0
dangles P b (line (give w)) = false
dangles P b (line (bind (value w))) = false
dangles P b (line (bind (field s f))) = false
dangles P b (line (bind (swap s f w))) = false
dangles P b (line (bind (call s i w))) = false
dangles P b (line (bind (new k n ws))) = not (ltb n (length P.kinds) && eqb (length ws) (kind_at P n).fields)
dangles P b (line (bind (cast k w))) = false
dangles P b (line (bind (spawn i))) = not (is_sort P thread i)
dangles P b (line (bind (send s w))) = false
dangles P b (line (bind (recv s))) = false
dangles P b (line (bind (copy k s))) = false

unfoldable pub opened : Form → ℕ → ℕ
opened (kind K) b = b
opened (opens o) b = suc b
opened (line x) b = b

-- "A script is accepted when reading it meets none of 1 to 8."
pub data Reading : Type 0 where
  turned_away : (number line : ℕ) → Reading
  accepted : Program → Reading

-- the forms of a program from line n on
unfoldable pub link : Program → ℕ → ℕ → List Form → Reading
link P b n [] = accepted P
link P b n (F ∷ Fs) = cond (dangles P b F) (turned_away No.dangling n) (link P (opened F b) (suc n) Fs)

-- Place: "the line from 0"; the line that names the edition counts
abbrev pub lines_before : Edition → ℕ
lines_before edition1 = 0
lines_before edition2 = 1

abbrev pub linked : Edition → Scan → Reading
linked e (faulty k n) = turned_away k n
linked e (scanned Fs) = link (program_of e Fs) 0 (lines_before e) Fs

-- 2 to 8, in the lines of a text of this edition
unfoldable pub script_of : Mosts → Edition → List ℕ → Reading
script_of m e text = linked e (scan m (nothing e) (lines_before e) (lines text))

-- document 02, L6: "A text whose first line is (script 2)". That line ends in LF, so that what is left are the lines after it. "A text without that
-- line reads as today .. and (script 2) anywhere else is 3": there it is no form.
abbrev pub headed : Mosts → List ℕ → Taken (Unit {0}) → Reading
headed m text (took _ left) = script_of m edition2 left
headed m text unfit = script_of m edition1 text

unfoldable pub script : Mosts → List ℕ → Reading
script m text = headed m text (fit script_t text)

-- "Order: 1, 9, then line by line 2 to 6 .., then 7, then 8 in line order. Place: the line from 0; .. for 1, 9, .. zero."
-- `long`: the text or the turns are too long; `short`: a lent table or list is under its length
unfoldable pub reading : Mosts → (long short : Bool) → List ℕ → Reading
reading m long short text = cond long (turned_away No.overlong 0) (cond short (turned_away No.short_table 0) (script m text))

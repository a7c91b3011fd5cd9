-- A decoded line: which form it is, its words in the table, and what its own numbers say about refusals 4 to 6.
use Rattle.std.specs.Prelude.{ℕ, ◌+◌, max, ◌≡◌, Bool, false, ◌||◌, cond, List, [], ◌∷◌, Option, Some, None, ltb, eqb, length, drop, get_or}
use Prim.Native.Char.{code}
use Rattle.rules.specs.declared.forms.Form.TheVariants as N
use Rattle.rules.specs.declared.forms.Form.{Form as FormName}
use Rattle.rules.specs.Mosts as Most
use Rattle.rules.specs.Lists.{any}
use Rattle.rules.specs.Script.{Operand, Form, kind, opens, line}
use Rattle.rules.specs.Templates.{Taken, took, unfit, ◌>>=◌, or_else, Part, template, Holds, fit, Rule, forms, rule_at, script_t}
use Rattle.rules.specs.Reading.{slot_of, operands_in, slots_in, takes_first, over255}
use Rattle.rules.specs.Forms.{form_number}
use Rattle.rules.specs.Tables.{operand_word, row}
use Rattle.grammar.specs.Words.{begins}
use Rattle.grammar.specs.Items.{past}
use Rattle.grammar.specs.declared.forms.Line.{Line}

-- the form that a text begins with, its LF included, and what is left
unfoldable pub front_by : List Rule → List ℕ → Taken Form
front_by [] l = unfit
front_by (r ∷ rs) l = or_else (fit r.template l >>= λ p l₁. took (r.make p) l₁) (front_by rs l)

unfoldable pub front : List ℕ → Taken Form
front l = front_by forms l

-- refusal 4 as far as the line alone decides it
unfoldable pub over_line : Form → Bool
over_line (kind K) = ltb Most.fields K.fields || (ltb Most.methods (length K.methods) || over255 (kind K))
over_line (opens o) = false
over_line (line x) = ltb Most.operands (length (operands_in (line x))) || over255 (line x)

abbrev pub line_row : Line → List ℕ
line_row r = form_number r.form ∷ r.a ∷ r.b ∷ r.c ∷ r.d ∷ r.e ∷ r.f ∷ 0 ∷ []

-- what the code keeps of a form
pub record Tells (r : Line) (F : Form) : Type 0 where
  pub number : form_number r.form ≡ get_or (row F) 0 0
  pub part : r.a ≡ get_or (row F) 1 0
  pub words : r.over ≡ false → line_row r ≡ row F
  pub over : r.over ≡ over_line F
  pub need : r.need ≡ past (slots_in F)
  pub own : r.own ≡ any takes_first (operands_in F)

-- one form, by its number from 0, tried at a place
pub record Fitted (i : ℕ) (s : List ℕ) (at : ℕ) (r : Line) : Type 0 where
  pub parts : Holds (rule_at i).template
  pub fits : fit (rule_at i).template (drop at s) ≡ took parts (drop r.end s)
  pub tells : Tells r ((rule_at i).make parts)

abbrev pub FormAt : ℕ → List ℕ → ℕ → Option Line → Type 0
FormAt i s at None = fit (rule_at i).template (drop at s) ≡ unfit
FormAt i s at (Some r) = Fitted i s at r

-- what two forms share is read after a word that tells them apart
abbrev pub after_word : List ℕ → (t : List Part) → List ℕ → ℕ → Taken (Holds t)
after_word w t s at = cond (begins w (drop at s)) (fit t (drop (at + length w) s)) unfit

-- ")" with its LF: the rest of a line that opens a block
pub record Opener (form : FormName) (w : List ℕ) (s : List ℕ) (at : ℕ) (r : Line) : Type 0 where
  pub fits : after_word w (template ")\n") s at ≡ took tt (drop r.end s)
  pub words : line_row r ≡ form_number form ∷ 0 ∷ 0 ∷ 0 ∷ 0 ∷ 0 ∷ 0 ∷ 0 ∷ []
  pub over : r.over ≡ false
  pub need : r.need ≡ 0
  pub own : r.own ≡ false

abbrev pub OpenerAt : FormName → List ℕ → List ℕ → ℕ → Option Line → Type 0
OpenerAt form w s at None = after_word w (template ")\n") s at ≡ unfit
OpenerAt form w s at (Some r) = Opener form w s at r

-- "W)" with its LF: the rest of a give and of a let that has an operand alone
abbrev pub operand_rest : List Part
operand_rest = template "W)\n"

pub record OperandLine (form : FormName) (w : List ℕ) (s : List ℕ) (at : ℕ) (r : Line) : Type 0 where
  pub operand : Operand
  pub fits : after_word w operand_rest s at ≡ took (operand, tt) (drop r.end s)
  pub words : line_row r ≡ form_number form ∷ operand_word operand ∷ 0 ∷ 0 ∷ 0 ∷ 0 ∷ 0 ∷ 0 ∷ []
  pub over : r.over ≡ ltb Most.number (slot_of operand)
  pub need : r.need ≡ slot_of operand + 1
  pub own : r.own ≡ takes_first operand

abbrev pub OperandLineAt : FormName → List ℕ → List ℕ → ℕ → Option Line → Type 0
OperandLineAt form w s at None = after_word w operand_rest s at ≡ unfit
OperandLineAt form w s at (Some r) = OperandLine form w s at r

-- "S F W))" with its LF: the rest of a swap and of a call
abbrev pub place_rest : List Part
place_rest = template "S F W))\n"

pub record PlaceLine (form : FormName) (w : List ℕ) (s : List ℕ) (at : ℕ) (r : Line) : Type 0 where
  pub target : ℕ
  pub number : ℕ
  pub operand : Operand
  pub fits : after_word w place_rest s at ≡ took (target, (number, (operand, tt))) (drop r.end s)
  pub words : line_row r ≡ form_number form ∷ target ∷ number ∷ operand_word operand ∷ 0 ∷ 0 ∷ 0 ∷ 0 ∷ []
  pub over : r.over ≡ ((ltb Most.number target || ltb Most.number (slot_of operand)) || ltb Most.number number)
  pub need : r.need ≡ max (target + 1) (slot_of operand + 1)
  pub own : r.own ≡ takes_first operand

abbrev pub PlaceLineAt : FormName → List ℕ → List ℕ → ℕ → Option Line → Type 0
PlaceLineAt form w s at None = after_word w place_rest s at ≡ unfit
PlaceLineAt form w s at (Some r) = PlaceLine form w s at r

-- the number of the only form that a text can begin with, by a few of its bytes; a value's where none can
unfoldable pub let_form : List ℕ → ℕ
let_form l =
    cond (eqb (get_or l 6 0) (code "f")) (form_number N.Field)
    (cond (eqb (get_or l 6 0) (code "n")) (form_number N.New)
    (cond (eqb (get_or l 6 0) (code "c")) (cond (eqb (get_or l 8 0) (code "l")) (form_number N.Call) (cond (eqb (get_or l 7 0) (code "o")) (form_number N.Copy) (form_number N.Cast)))
    (cond (eqb (get_or l 6 0) (code "s")) (cond (eqb (get_or l 7 0) (code "w")) (form_number N.Swap) (cond (eqb (get_or l 7 0) (code "p")) (form_number N.Spawn) (form_number N.Send)))
    (cond (eqb (get_or l 6 0) (code "r")) (cond (eqb (get_or l 8 0) (code "c")) (form_number N.Recv) (form_number N.Value)) (form_number N.Value)))))

unfoldable pub only_form : List ℕ → ℕ
only_form l =
    cond (eqb (get_or l 1 0) (code "k")) (form_number N.Kind)
    (cond (eqb (get_or l 1 0) (code "t")) (form_number N.Thread)
    (cond (eqb (get_or l 1 0) (code "m")) (form_number N.Method)
    (cond (eqb (get_or l 1 0) (code "g")) (form_number N.Give) (let_form l))))

-- the line at a place
pub record Leads (s : List ℕ) (at : ℕ) (r : Line) : Type 0 where
  pub form : Form
  pub fits : front (drop at s) ≡ took form (drop r.end s)
  pub tells : Tells r form

abbrev pub LineAt : List ℕ → ℕ → Option Line → Type 0
LineAt s at None = front (drop at s) ≡ unfit
LineAt s at (Some r) = Leads s at r

-- the place after the line that a text in script form 2 begins with
abbrev pub told_end : List ℕ → Option ℕ → Taken (Holds script_t)
told_end s None = unfit
told_end s (Some e) = took tt (drop e s)

-- The forms of a line by name, and the number of each in the program table, as docs/LAYOUT.md lists them.
use Rattle.std.specs.Prelude.{ℕ, cond, List, [], ◌∷◌, eqb}
use Rattle.rules.specs.declared.forms.Form.{Form}
use Rattle.rules.specs.declared.forms.Form.TheVariants.{NoForm, Kind, Thread, Method, Give, Value, Field, Swap, Call, New, Cast, Spawn, Send, Recv, Copy}

-- (0 is no form's)
abbrev pub form_number : Form → ℕ
form_number NoForm = 0
form_number Kind = 1
form_number Thread = 2
form_number Method = 3
form_number Give = 4
form_number Value = 5
form_number Field = 6
form_number Swap = 7
form_number Call = 8
form_number New = 9
form_number Cast = 10
form_number Spawn = 11
form_number Send = 12
form_number Recv = 13
form_number Copy = 14

abbrev pub all_forms : List Form
all_forms = Kind ∷ Thread ∷ Method ∷ Give ∷ Value ∷ Field ∷ Swap ∷ Call ∷ New ∷ Cast ∷ Spawn ∷ Send ∷ Recv ∷ Copy ∷ []

-- the form that has the number; NoForm where none has
abbrev pub with_number : List Form → ℕ → Form
with_number [] n = NoForm
with_number (f ∷ fs) n = cond (eqb n (form_number f)) f (with_number fs n)

abbrev pub form_of : ℕ → Form
form_of n = with_number all_forms n

-- What has been read so far, as the code keeps it, and the checks of a line on it.
use Rattle.std.specs.Prelude.{ℕ, Result, Ok, Err, ◌≤◌, ◌≡◌, Bool, true, false, ◌||◌, cond, [], leb, get_or}
use Rattle.rules.specs.declared.Mosts.{Mosts}
use Rattle.rules.specs.declared.faults.Fault.{Fault}
use Rattle.rules.specs.declared.forms.Form.{Form as Name}
use Rattle.rules.specs.Mosts as Most
use Rattle.rules.specs.Numbers.{number}
use Rattle.rules.specs.Script.{bind, give, thread, method, Form, kind, opens, line, Edition, edition1, edition2}
use Rattle.rules.specs.Templates.{took}
use Rattle.rules.specs.Forms.{form_number}
use Rattle.rules.specs.Tables.{row}
use Rattle.rules.specs.Reading as R
use Rattle.rules.specs.Reading.{outside, within, slots_filled, Step, fault, next, in_place, read_on, form_step}
use Rattle.grammar.specs.declared.forms.Line.{Line}
use Rattle.grammar.specs.Decoded.{Tells}
use Rattle.reader.specs.declared.faults.Place.{Place}
use Rattle.reader.specs.declared.faults.Place.TheVariants as P
use Rattle.reader.specs.declared.faults.Sofar.{Sofar}

abbrev pub place_of : Place → (filled : ℕ) → R.Place
place_of P.Outside filled = outside
place_of P.Thread filled = within thread filled
place_of P.Method filled = within method filled

-- the edition, by whether the first line names the second
abbrev pub edition_of : Bool → Edition
edition_of second = cond second edition2 edition1

abbrev pub so_far : Sofar → R.Sofar
so_far r = record { edition = edition_of r.second; kinds = r.kinds; blocks = r.blocks; lets = r.lets; place = place_of r.place r.filled }

-- of any line of this form with this first part
pub record InPlace (r : Sofar) (form : Name) (part : ℕ) (ok : Bool) : Type 0 where
  pub is : (F : Form) → form_number form ≡ get_or (row F) 0 0 → part ≡ get_or (row F) 1 0 → ok ≡ in_place (so_far r) F

-- 4, but for what the line alone decides
unfoldable pub full_before : Mosts → R.Sofar → Form → Bool
full_before m r (kind K) = leb m.kinds r.kinds
full_before m r (opens o) = leb m.blocks r.blocks
full_before m r (line (give w)) = false
full_before m r (line (bind e)) = leb Most.slots (slots_filled r.place) || leb m.lets r.lets

-- the code's slot count is the open block's
pub record Tidy (r : Sofar) : Type 0 where
  pub filled : slots_filled (so_far r).place ≡ r.filled
  pub bounded : r.filled ≤ Most.slots

pub record Full (m : Mosts) (r : Sofar) (form : Name) (full : Bool) : Type 0 where
  pub is : Tidy r → (F : Form) → form_number form ≡ get_or (row F) 0 0 → full ≡ full_before m (so_far r) F

-- the refusal of a step, or 0
abbrev pub fault_of : Step → ℕ
fault_of (fault k) = k
fault_of (next F r) = 0

-- the number of a check's answer, or 0
abbrev pub found : Result Unit Fault → ℕ
found (Ok u) = 0
found (Err f) = number f

pub record Faults (m : Mosts) (r : Sofar) (l : Line) (x : Result Unit Fault) : Type 0 where
  pub is : Tidy r → (F : Form) → Tells l F → found x ≡ fault_of (form_step m (so_far r) (took F []))

pub record GoesOn (r : Sofar) (form : Name) (r₁ : Sofar) : Type 0 where
  pub is : (F : Form) → form_number form ≡ get_or (row F) 0 0 → so_far r₁ ≡ read_on (so_far r) F
  pub tidy : (m : Mosts) (F : Form) → form_number form ≡ get_or (row F) 0 0 → Tidy r → in_place (so_far r) F ≡ true → full_before m (so_far r) F ≡ false → Tidy r₁

-- Both tables stripped: of the program each line with unsafe for its capability, of the state each object made unsafe.
use Rattle.std.specs.Prelude.{◌≡◌, ℕ, ◌≤◌, Bool, true, false, List, ◌++◌, length, slice_index_or, slice_set}
use Rattle.rules.specs.declared.forms.Form as Named
use Rattle.rules.specs.declared.forms.Form.TheVariants.{NoForm, Kind, Thread, Method, Give, Value, Field, Swap, Call, New, Cast, Spawn, Send, Recv, Copy}
use Rattle.rules.specs.Mosts.{mosts}
use Rattle.rules.specs.Script.{bind, give, Form, kind, opens, line, Program, lines_of}
use Rattle.rules.specs.State.{State, object_at}
use Rattle.rules.specs.Turn.{put_objects}
use Rattle.rules.specs.Stripped.{strip_expr, strip, erase_object}
use Rattle.rules.specs.Tables.{program_words}
use Rattle.table.specs.ProgramTable.{Filled, no_form}

-- ---- The program

-- the forms whose first part is a capability
abbrev pub names_cap : Named.Form → Bool
names_cap NoForm = false
names_cap Kind = false
names_cap Thread = false
names_cap Method = false
names_cap Give = false
names_cap Value = false
names_cap Field = false
names_cap Swap = false
names_cap Call = false
names_cap New = true
names_cap Cast = true
names_cap Spawn = false
names_cap Send = false
names_cap Recv = false
names_cap Copy = true

-- a line of the stripped script
unfoldable pub strip_form : Form → Form
strip_form (kind K) = kind K
strip_form (opens o) = opens o
strip_form (line (bind e)) = line (bind (strip_expr e))
strip_form (line (give w)) = line (give w)

-- line n is stripped; past the last one nothing is
pub record LineStripped (n : ℕ) (t t₁ : List ℕ) : Type 0 where
  pub strips : (counts rest : List ℕ) (Fs : List Form) → Filled t counts Fs rest → Filled t₁ counts (slice_set Fs n (strip_form (slice_index_or Fs n no_form))) rest

-- "once it is read, every K in it is changed to unsafe": by its lines, and by all its words
pub record Strips (t t₁ : List ℕ) : Type 0 where
  pub lines : (P : Program) (counts rest : List ℕ) → Filled t counts (lines_of P) rest → Filled t₁ counts (lines_of (strip P)) rest
  pub words : (P : Program) (rest : List ℕ) → length (lines_of P) ≤ 672 → length P.blocks ≤ mosts.blocks
      → t ≡ program_words P ++ rest → t₁ ≡ program_words (strip P) ++ rest

-- ---- The state

-- object o is made unsafe; past the last one nothing is
unfoldable pub erased_at : ℕ → State → State
erased_at o S = put_objects S (slice_set S.objects o (erase_object (object_at S.objects o)))

-- The text of a form from the words of its line in the table, whatever words they are; and the lines and the script that a table holds, written.
use Prim.{Unit}
use Rattle.std.specs.Prelude.{ℕ, zero, suc, ◌+◌, ◌≤◌, ◌<◌, ◌^◌, ◌≡◌, cond, List, [], ◌∷◌, ◌++◌, map, eqb, length, get_or}
use Rattle.rules.specs.Lists.{Every}
use Rattle.rules.specs.Mosts as Most
use Rattle.rules.specs.Text.{space, join}
use Rattle.rules.specs.Script.{value, field, swap, call, new, cast, spawn, send, recv, copy, bind, give, thread, method, Form, kind, opens, line, Edition, edition1, edition2}
use Rattle.rules.specs.Templates.{print_operand, show, head_of}
use Rattle.rules.specs.Reading.{operands_in}
use Rattle.rules.specs.Tables.{operand_of, cap_of, edition_word}
use Rattle.std.specs.Fn.{Shared}
use Rattle.std.specs.Borrow.{MutBor}
use Rattle.buffer.specs.declared.Output.{Output}
use Rattle.rules.specs.declared.forms.Form as Named
use Rattle.rules.specs.declared.forms.Form.TheVariants as N
use Rattle.buffer.specs.Writing.{Wrote as WroteAt}
use Rattle.buffer.specs.Outputs.{HasRoom, Wrote}
use Rattle.table.specs.ProgramTable.{Filled, no_form}

-- ---- A line by its words

-- an operand after a space
abbrev pub operand_part : ℕ → List ℕ
operand_part w = space ∷ print_operand (operand_of w)

-- an item is one more than what it stands for; 0 is none
abbrev pub item_part : (ℕ → List ℕ) → ℕ → List ℕ
item_part f zero = []
item_part f (suc i) = space ∷ f i

abbrev pub items_of : List ℕ → List ℕ
items_of [] = []
items_of (zero ∷ ws) = items_of ws
items_of (suc i ∷ ws) = i ∷ items_of ws

-- each call of `put` writes an item after a space, in at most k bytes
pub record PutsItems {F : Type 0} (g : Shared F (MutBor Output × (ℕ × Unit {0})) (Unit {0} × (MutBor Output × Unit {0})))
    (put : F) (f : ℕ → List ℕ) (k : ℕ) : Type 0 where
  pub callable : (o : MutBor Output) (i : ℕ) → i < 2 ^ 16 → HasRoom k o.now → g.pre put (o, (i, tt))
  pub writes : (o o₁ : MutBor Output) (i : ℕ) → i < 2 ^ 16 → HasRoom k o.now → g.post put (o, (i, tt)) (tt, (o₁, tt)) → Wrote k o.now o₁.now (space ∷ f i)

-- a form by its name and its words; nothing where there is no form
unfoldable pub form_text : Named.Form → (a b c d e f : ℕ) → List ℕ
form_text N.NoForm a b c d e f = []
form_text N.Kind a b c d e f = show (kind (record { fields = a; methods = items_of (b ∷ c ∷ d ∷ e ∷ []) }))
form_text N.Thread a b c d e f = show (opens thread)
form_text N.Method a b c d e f = show (opens method)
form_text N.Give a b c d e f = show (line (give (operand_of a)))
form_text N.Value a b c d e f = show (line (bind (value (operand_of a))))
form_text N.Field a b c d e f = show (line (bind (field a b)))
form_text N.Swap a b c d e f = show (line (bind (swap a b (operand_of c))))
form_text N.Call a b c d e f = show (line (bind (call a b (operand_of c))))
form_text N.New a b c d e f = show (line (bind (new (cap_of a) b (map operand_of (items_of (c ∷ d ∷ e ∷ f ∷ []))))))
form_text N.Cast a b c d e f = show (line (bind (cast (cap_of a) (operand_of b))))
form_text N.Spawn a b c d e f = show (line (bind (spawn a)))
form_text N.Send a b c d e f = show (line (bind (send a (operand_of b))))
form_text N.Recv a b c d e f = show (line (bind (recv a)))
form_text N.Copy a b c d e f = show (line (bind (copy (cap_of a) b)))

abbrev pub line_text : Named.Form → (parts : List ℕ) → List ℕ
line_text form ps = form_text form (get_or ps 0 0) (get_or ps 1 0) (get_or ps 2 0) (get_or ps 3 0) (get_or ps 4 0) (get_or ps 5 0)

-- ---- The lines of a table

-- a kind's method blocks, a line's operands are no more than their most
abbrev pub FewParts : Form → Type 0
FewParts (kind K) = length K.methods ≤ Most.methods
FewParts (opens o) = Unit {0}
FewParts (line x) = length (operands_in (line x)) ≤ Most.operands

-- the longest that a line's words can say, in bytes
abbrev pub line_bytes : ℕ
line_bytes = 77

-- some text is written whatever the table is, which is that of line n
pub record WritesLine (t : List ℕ) (n : ℕ) (o o₁ : Output) : Type 0 where
  pub text : List ℕ
  pub writes : Wrote line_bytes o o₁ text
  pub is_line : (counts rest : List ℕ) (Fs : List Form) → Filled t counts Fs rest → n < length Fs → FewParts (get_or Fs n no_form) → text ≡ show (get_or Fs n no_form)

-- all lines, where they end no later than a text may
pub record WritesLines (t : List ℕ) (o o₁ : Output) : Type 0 where
  pub text : List ℕ
  pub writes : Wrote (Most.text + line_bytes) o o₁ text
  pub are_lines : (counts rest : List ℕ) (Fs : List Form) → Filled t counts Fs rest → get_or counts 2 0 ≡ length Fs → Every FewParts Fs
      → o.at + length (join (map show Fs)) ≤ Most.text → text ≡ join (map show Fs)
  pub most : o₁.at ≤ Most.text + line_bytes

-- ---- The script of a table

-- what stands before the lines, by the edition's word; every other word names no edition
unfoldable pub head_text : ℕ → List ℕ
head_text w = cond (eqb w (edition_word edition2)) (head_of edition2) (head_of edition1)

-- the line that names the edition and all lines, where they are no longer than a text may be
pub record WritesScript (t l l₁ : List ℕ) (r : ℕ) : Type 0 where
  pub writes : (kinds blocks : ℕ) (d : Edition) (rest : List ℕ) (Fs : List Form) → Filled t (kinds ∷ blocks ∷ length Fs ∷ edition_word d ∷ []) Fs rest → Every FewParts Fs
      → length (head_of d ++ join (map show Fs)) ≤ Most.text → WroteAt (Most.text + line_bytes) l l₁ 0 r (head_of d ++ join (map show Fs))
  pub most : r ≤ Most.text + line_bytes

-- The scan of all lines, as the code's answer and the table that it fills.
use Rattle.std.specs.Prelude.{ℕ, Result, Ok, Err, ◌≤◌, ◌≡◌, false, List, [], ◌∷◌, ◌++◌, length}
use Rattle.rules.specs.declared.faults.Refusal.{Refusal}
use Rattle.rules.specs.declared.Mosts.{Mosts}
use Rattle.rules.specs.Mosts.{mosts}
use Rattle.rules.specs.Numbers.{number}
use Rattle.rules.specs.Text.{lines}
use Rattle.rules.specs.Script.{Form, Edition, kinds_of, blocks_of}
use Rattle.rules.specs.Reading as R
use Rattle.rules.specs.Reading.{faulty, scanned, lines_before}
use Rattle.grammar.specs.declared.forms.Line.{Line}
use Rattle.grammar.specs.Decoded.{Tells}
use Rattle.table.specs.ProgramTable.{Filled}
use Rattle.reader.specs.declared.faults.Sofar.{Sofar}
use Rattle.reader.specs.declared.counts.Counts.{Counts}
use Rattle.reader.specs.Sofar.{so_far}

-- line n is written, after b blocks
pub record Put (n b : ℕ) (l : Line) (t t' : List ℕ) : Type 0 where
  pub added : (counts rest : List ℕ) (Fs : List Form) (F : Form) → Filled t counts Fs rest → n ≡ length Fs → b ≡ length (blocks_of Fs)
      → Tells l F → l.over ≡ false → length (blocks_of (Fs ++ (F ∷ []))) ≤ mosts.blocks → Filled t' counts (Fs ++ (F ∷ [])) rest

-- after the last of so many lines, where the next would have this number
abbrev pub Finished : R.Sofar → (lines line : ℕ) → Result Counts Refusal → Type 0
Finished r lines line (Err e) = R.finish r line ≡ faulty (number e.fault) e.line
Finished r lines line (Ok c) = (R.finish r line ≡ scanned []) × (c.kinds ≡ r.kinds) × (c.blocks ≡ r.blocks) × (c.lines ≡ lines)

pub record Finishes (r : Sofar) (lines line : ℕ) (x : Result Counts Refusal) : Type 0 where
  pub is : Finished (so_far r) lines line x

-- the scan that the definition gives of a text of this edition; where it has no fault, a table that held none holds its lines
pub record DoneWith (m : Mosts) (e : Edition) (text : List ℕ) (c : Counts) (t t' : List ℕ) : Type 0 where
  pub forms : List Form
  pub scans : R.scan m (R.nothing e) (lines_before e) (lines text) ≡ scanned forms
  pub kinds_count : c.kinds ≡ length (kinds_of forms)
  pub blocks_count : c.blocks ≡ length (blocks_of forms)
  pub line_count_is : c.lines ≡ length forms
  pub filled : (rest : List ℕ) → Filled t [] [] rest → Filled t' [] forms rest

abbrev pub ScansTo : Mosts → Edition → List ℕ → Result Counts Refusal → (t t' : List ℕ) → Type 0
ScansTo m e text (Err x) t t' = R.scan m (R.nothing e) (lines_before e) (lines text) ≡ faulty (number x.fault) x.line
ScansTo m e text (Ok c) t t' = DoneWith m e text c t t'

pub record Scans (m : Mosts) (e : Edition) (text t : List ℕ) (x : Result Counts Refusal) (t' : List ℕ) : Type 0 where
  pub is : ScansTo m e text x t t'

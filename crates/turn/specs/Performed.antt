-- What a turn on the tables does: the rule's own result, and where the thread stands then.
use Rattle.std.specs.Prelude.{ℕ, zero, suc, ◌+◌, ◌/◌, ◌<◌, ◌≡◌, Bool, List, [], ◌∷◌, map, length, Result, Ok, Err}
use Rattle.rules.specs.declared.Cap.{Cap}
use Rattle.rules.specs.declared.Value.{Value}
use Rattle.rules.specs.declared.faults.Fault.{Fault}
use Rattle.rules.specs.Numbers.{number}
use Rattle.rules.specs.Mosts as Most
use Rattle.rules.specs.Mosts.{mosts}
use Rattle.rules.specs.Lists.{pad, Every}
use Rattle.rules.specs.Script.{Operand, reads, takes, Line, bind, new, send, Program, lines_of, line_at}
use Rattle.rules.specs.Valid.{Valid}
use Rattle.rules.specs.State.{Frame, State, thread_at}
use Rattle.rules.specs.Tables.{operand_item, operand_of, sender_word}
use Rattle.rules.specs.Turn as R
use Rattle.rules.specs.Turn.{Res, ok, wait, stop, left_by, with_slots}
use Rattle.rules.specs.Run.{waits}
use Rattle.rules.specs.Fits.{Fits}
use Rattle.table.specs.declared.standing.Here.{Here}
use Rattle.table.specs.ProgramTable.{Filled}
use Rattle.table.specs.StateTable.{Counted, Held, OnLine, HasSlot, edit_frame, all_raised}
use Rattle.checks.specs.declared.form_checks.Halt.{Halt}
use Rattle.checks.specs.declared.form_checks.Halt.TheVariants.{Waits, Stops}
use Rattle.checks.specs.Checked.{here_at, Stand}
use Rattle.checks.specs.NewItems.{item_slots}
use Rattle.turn.specs.declared.Move.{Move}
use Rattle.turn.specs.declared.Move.TheVariants.{Next, Stay, Turned}

-- ---- What operands leave

-- the slots of frame k of thread t as the operand leaves them
unfoldable pub emptied : ℕ → ℕ → Operand → State → State
emptied t k w S = edit_frame S t k (λ f. with_slots f (left_by f.slots w)) (thread_at S t).sender

-- an item of a new: 0 is none
unfoldable pub item_emptied : ℕ → ℕ → ℕ → State → State
item_emptied t k zero S = S
item_emptied t k (suc w) S = emptied t k (operand_of w) S

-- what gets a holder more once the value v of an operand stands elsewhere too: a read leaves it in its slot, a take moves it
abbrev pub kept_by : Operand → Value → List Value
kept_by (reads s) v = v ∷ []
kept_by (takes s) v = []

abbrev pub item_kept : ℕ → Value → List Value
item_kept zero v = []
item_kept (suc w) v = kept_by (operand_of w) v

pub record Leaves (t k w : ℕ) (v : Value) (e e₁ : List ℕ) : Type 0 where
  pub leaves : {N : ℕ → ℕ} (S : State) (rest : List ℕ) → Counted e N S rest → w / 2 < Most.slots → HasSlot t k (w / 2) S
      → Counted e₁ (all_raised (kept_by (operand_of w) v) N) (emptied t k (operand_of w) S) rest

pub record LeavesItem (t k i : ℕ) (v : Value) (e e₁ : List ℕ) : Type 0 where
  pub leaves : {N : ℕ → ℕ} (S : State) (rest : List ℕ) → Counted e N S rest → Every (λ j. (j < Most.slots) × HasSlot t k j S) (item_slots i)
      → Counted e₁ (all_raised (item_kept i v) N) (item_emptied t k i S) rest

-- ---- Where the thread stands afterwards

-- thread t stands at line l of block b, inside of k frames
pub record StandsAt (t b l k : ℕ) (S : State) : Type 0 where
  pub frame : Frame
  pub callers : List Frame
  pub frames : (thread_at S t).frames ≡ frame ∷ callers
  pub depth : length callers ≡ k
  pub block : frame.block ≡ b
  pub line : frame.line ≡ l

-- after the line of frame f, whose callers are fs: at the next line, at the same line, or in another frame
pub data Went (t : ℕ) (f : Frame) (fs : List Frame) (S : State) : Move → Type 0 where
  to_next : StandsAt t f.block (f.line + 1) (length fs) S → Went t f fs S Next
  to_same : StandsAt t f.block f.line (length fs) S → Went t f fs S Stay
  to_other : Went t f fs S Turned

-- the answer and the table afterwards, for each result of the rule; where it waits or stops the table is as it was
pub data Performed (t : ℕ) (f : Frame) (fs : List Frame) (s rest : List ℕ) : Result Move Halt → List ℕ → Res State → Type 0 where
  moved : {m : Move} {s₁ : List ℕ} {S : State} → Held s₁ S rest → Went t f fs S m → Performed t f fs s rest (Ok m) s₁ (ok S)
  waited : Performed t f fs s rest (Err Waits) s wait
  stopped : {x : Fault} {k : ℕ} → number x ≡ k → Performed t f fs s rest (Err (Stops x)) s (stop k)

-- ---- The lines

-- the line x is performed, where Q holds of the program and the state
pub record Performs (Q : Program → State → Type 0) (s : List ℕ) (h : Here) (x : Line) (r : Result Move Halt) (s₁ : List ℕ) : Type 0 where
  pub performs : (P : Program) (n : ℕ) (S : State) (f : Frame) (fs : List Frame) (rest : List ℕ) → Q P S → Stand s h P n S f fs rest → n < Most.turns
      → line_at P f.block f.line ≡ x → Performed h.thread f fs s rest r s₁ (R.perform mosts P (here_at S h.thread f fs) x)

abbrev pub Always : Program → State → Type 0
Always P S = Unit {0}

-- the table p holds the program
pub record Loaded (p : List ℕ) (P : Program) : Type 0 where
  pub counts : List ℕ
  pub rest : List ℕ
  pub filled : Filled p counts (lines_of P) rest

-- a new whose operands are these items
pub record PerformsNew (s : List ℕ) (h : Here) (c : Cap) (kind : ℕ) (items : List ℕ) (r : Result Move Halt) (s₁ : List ℕ) : Type 0 where
  pub performs : (ws : List Operand) → items ≡ pad Most.operands 0 (map operand_item ws) → Performs Always s h (bind (new c kind ws)) r s₁

-- a send on the channel in slot i, by a sender whose word is d
pub record PerformsSent (s : List ℕ) (h : Here) (i d : ℕ) (r : Result Move Halt) (s₁ : List ℕ) : Type 0 where
  pub performs : (w : Operand) → Performs (λ P S. sender_word (thread_at S h.thread).sender ≡ d) s h (bind (send i w)) r s₁

-- the line where the thread stands is performed
pub record PerformsHere (p s : List ℕ) (h : Here) (r : Result Move Halt) (s₁ : List ℕ) : Type 0 where
  pub performs : (P : Program) (n : ℕ) (S : State) (f : Frame) (fs : List Frame) (rest : List ℕ) → Loaded p P → Stand s h P n S f fs rest → n < Most.turns
      → OnLine p P f.block f.line h
      → Performed h.thread f fs s rest r s₁ (R.perform mosts P (here_at S h.thread f fs) (line_at P f.block f.line))

-- whether the line x would wait
pub record WaitsHere (s : List ℕ) (h : Here) (x : Line) (r : Bool) : Type 0 where
  pub is : (P : Program) (n : ℕ) (S : State) (f : Frame) (fs : List Frame) (rest : List ℕ) → Stand s h P n S f fs rest
      → line_at P f.block f.line ≡ x → r ≡ waits (R.perform mosts P (here_at S h.thread f fs) x)

-- ---- The turn

-- the same without the place
pub data Taken (s rest : List ℕ) : Result Move Halt → List ℕ → Res State → Type 0 where
  moved : {m : Move} {s₁ : List ℕ} {S : State} → Held s₁ S rest → Taken s rest (Ok m) s₁ (ok S)
  waited : Taken s rest (Err Waits) s wait
  stopped : {x : Fault} {k : ℕ} → number x ≡ k → Taken s rest (Err (Stops x)) s (stop k)

-- of any program and any state of a run of it: what the turn of thread t does
pub record TakesTurn (p s : List ℕ) (t : ℕ) (r : Result Move Halt) (s₁ : List ℕ) : Type 0 where
  pub takes : (P : Program) (n : ℕ) (S : State) (rest : List ℕ) → Loaded p P → Held s S rest → Valid mosts P → Fits mosts P n S → n < Most.turns
      → Taken s rest r s₁ (R.turn mosts P S t)

-- whether it would wait
pub record WouldWait (p s : List ℕ) (t : ℕ) (r : Bool) : Type 0 where
  pub is : (P : Program) (n : ℕ) (S : State) (rest : List ℕ) → Loaded p P → Held s S rest → Valid mosts P → Fits mosts P n S
      → r ≡ waits (R.turn mosts P S t)

-- What the checks of a line answer: the rule's own result, read off the tables.
use Rattle.std.specs.Prelude.{ℕ, ◌≤◌, ◌<◌, ◌≡◌, Bool, true, false, List, ◌∷◌, ltb, length, slice_get, Option, Result, Ok, Err}
use Rattle.rules.specs.declared.Value.{Value}
use Rattle.rules.specs.declared.Value.TheVariants.{Absent, Obj, Chan}
use Rattle.rules.specs.declared.faults.Fault.{Fault}
use Rattle.rules.specs.Mosts as Most
use Rattle.rules.specs.Mosts.{mosts}
use Rattle.rules.specs.Numbers as No
use Rattle.rules.specs.Lists.{Every}
use Rattle.rules.specs.Script.{Program, lines_of, kind_at}
use Rattle.rules.specs.Valid.{Valid}
use Rattle.rules.specs.State.{Object, Frame, State, object_at, thread_at, channel_at}
use Rattle.rules.specs.Turn as R
use Rattle.rules.specs.Turn.{Res, ok, wait, stop, ◌>>=◌, ◌>>◌, check, wait_unless, permit, is_local, is_absent, as_object, permit_swap}
use Rattle.rules.specs.Fits.{IsObject, Fits}
use Rattle.table.specs.declared.standing.Here.{Here}
use Rattle.table.specs.ProgramTable.{Filled}
use Rattle.table.specs.StateTable.{Held}
use Rattle.checks.specs.declared.form_checks.Halt.{Halt}
use Rattle.checks.specs.declared.form_checks.Halt.TheVariants.{Waits, Stops}

-- what ends a line, as a result of the rules
abbrev pub halted : Halt → Res (Unit {0})
halted Waits = wait
halted (Stops f) = stop (No.number f)

-- the answer of a check or a line, its value aside
abbrev pub result_of : {A : Type 0} → Result A Halt → Res (Unit {0})
result_of (Ok a) = ok tt
result_of (Err h) = halted h

-- a result of the rules, its value aside
abbrev pub outcome_of : {A : Type 0} → Res A → Res (Unit {0})
outcome_of (ok a) = ok tt
outcome_of wait = wait
outcome_of (stop n) = stop n

-- the answer of what cannot wait, as a result of the rules; and its value aside
abbrev pub answered : {A : Type 0} → Result A Fault → Res A
answered (Ok a) = ok a
answered (Err f) = stop (No.number f)

abbrev pub checked : {A : Type 0} → Result A Fault → Res (Unit {0})
checked (Ok a) = ok tt
checked (Err f) = stop (No.number f)

abbrev pub passed : Res (Unit {0}) → Bool
passed (ok a) = true
passed wait = false
passed (stop n) = false

abbrev pub waited : Res (Unit {0}) → Bool
waited (ok a) = false
waited wait = true
waited (stop n) = false

-- ---- What is asked of the state

abbrev pub Made : ℕ → State → Type 0
Made n S = n < length S.objects

-- an object that is there, whose fields are objects that have a place in the table
pub record Fielded (n : ℕ) (S : State) : Type 0 where
  pub made : n < length S.objects
  pub few : length (object_at S.objects n).fields ≤ Most.fields
  pub fields : Every (IsObject mosts.objects) (object_at S.objects n).fields

abbrev pub InObjects : Value → State → Type 0
InObjects Absent S = Unit {0}
InObjects (Obj n) S = n < length S.objects
InObjects (Chan c) S = Unit {0}

abbrev pub Few : State → Type 0
Few S = length S.threads ≤ mosts.threads

-- ---- Parts of the rules

-- swap, past its target n
unfoldable pub swap_into : ℕ → List Object → ℕ → ℕ → Value → Res (Unit {0})
swap_into t os n f v = do
  u ← as_object v
  check (ltb f (length (object_at os n).fields)) No.no_field
  permit_swap t (object_at os n) (object_at os u)

-- send, past its target c
unfoldable pub put_into : State → ℕ → Value → Res (Unit {0})
put_into S c v = do
  n ← as_object v
  permit false false (is_local (object_at S.objects n).cap)
  wait_unless (is_absent (channel_at S c).message)

-- ---- Where a thread stands

abbrev pub here_at : State → ℕ → Frame → List Frame → R.Here
here_at S t f fs = record { state = S; self = t; sender = (thread_at S t).sender; frame = f; callers = fs }

-- the table holds a state of a run of P, and the code's place is that of the thread's innermost frame
pub record Stand (s : List ℕ) (h : Here) (P : Program) (n : ℕ) (S : State) (f : Frame) (fs : List Frame) (rest : List ℕ) : Type 0 where
  pub held : Held s S rest
  pub valid : Valid mosts P
  pub fits : Fits mosts P n S
  pub frames : (thread_at S h.thread).frames ≡ f ∷ fs
  pub depth : length fs ≡ h.depth

-- the slots that a line names are filled
abbrev pub Named : List ℕ → Frame → Type 0
Named is f = Every (λ i. i < length f.slots) is

-- a check of a line that names these slots answers what the rule does
pub record Checks {A : Type 0} (s : List ℕ) (h : Here) (is : List ℕ) (line : Program → R.Here → Res A) (k : Res (Unit {0})) : Type 0 where
  pub checks : (P : Program) (n : ℕ) (S : State) (f : Frame) (fs : List Frame) (rest : List ℕ) → Stand s h P n S f fs rest → Named is f
      → k ≡ outcome_of (line P (here_at S h.thread f fs))

-- the block of method j of object n's kind, if there is one
pub record MethodBlock (p s : List ℕ) (n j : ℕ) (r : Option ℕ) : Type 0 where
  pub is : (P : Program) (S : State) (counts rest₁ rest₂ : List ℕ) → Filled p counts (lines_of P) rest₁ → Held s S rest₂ → Valid mosts P → n < length S.objects
      → (object_at S.objects n).kind < length P.kinds → r ≡ slice_get (kind_at P (object_at S.objects n).kind).methods j

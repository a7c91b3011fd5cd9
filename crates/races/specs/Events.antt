-- What a turn does, read off the tables, and the objects that it meets.
use Rattle.std.specs.Prelude.{ℕ, ◌<◌, ◌≡◌, List, [], ◌∷◌, length, take}
use Rattle.rules.specs.declared.Value.{Value}
use Rattle.rules.specs.declared.Value.TheVariants.{Absent, Obj, Chan}
use Rattle.rules.specs.declared.Event.{Event}
use Rattle.rules.specs.declared.Event.TheVariants.{Quiet, Reads, Swaps, Puts, Receives, Copies}
use Rattle.rules.specs.Mosts.{mosts}
use Rattle.rules.specs.Script.{Program, line_at}
use Rattle.rules.specs.State.{Object, Frame, State}
use Rattle.rules.specs.Walk.{met_from}
use Rattle.rules.specs.Valid.{Valid}
use Rattle.rules.specs.Fits.{Fits}
use Rattle.rules.specs.Races.{line_event, event}
use Rattle.table.specs.declared.standing.Here.{Here}
use Rattle.table.specs.StateTable.{Held, OnLine}
use Rattle.checks.specs.Checked.{here_at, Stand}
use Rattle.turn.specs.Performed.{Loaded}

-- the object of an event is below n
abbrev pub ObjectBelow : ℕ → Event → Type 0
ObjectBelow n Quiet = Unit {0}
ObjectBelow n (Reads x f) = x < n
ObjectBelow n (Swaps x f) = x < n
ObjectBelow n (Puts x) = x < n
ObjectBelow n (Receives x) = x < n
ObjectBelow n (Copies x) = x < n

-- what is done to an object, where a value is one
abbrev pub OnObject : (ℕ → Event → Type 0) → Value → Event → Type 0
OnObject Does Absent e = e ≡ Quiet
OnObject Does (Obj n) e = Does n e
OnObject Does (Chan c) e = e ≡ Quiet

-- the event of the line where a thread stands
pub record LineTells (p s : List ℕ) (h : Here) (r : Event) : Type 0 where
  pub tells : (P : Program) (n : ℕ) (S : State) (f : Frame) (fs : List Frame) (rest : List ℕ) → Stand s h P n S f fs rest → OnLine p P f.block f.line h
      → r ≡ line_event (here_at S h.thread f fs) (line_at P f.block f.line)

-- of the turn of thread t, in any state of a run of a program
pub record TurnTells (p s : List ℕ) (t : ℕ) (r : Event) : Type 0 where
  pub tells : (P : Program) (n : ℕ) (S : State) (rest : List ℕ) → Loaded p P → Held s S rest → Valid mosts P → Fits mosts P n S → r ≡ event P S t

-- the objects met from a message, or from what is copied
abbrev pub met_by : List Object → Event → List ℕ
met_by os Quiet = []
met_by os (Reads x f) = []
met_by os (Swaps x f) = []
met_by os (Puts x) = met_from os (Obj x ∷ [])
met_by os (Receives x) = met_from os (Obj x ∷ [])
met_by os (Copies x) = met_from os (Obj x ∷ [])

-- the first r words of a list are the objects met by an event, in any state of a run that has its object
pub record Meets (s : List ℕ) (e : Event) (order : List ℕ) (r : ℕ) : Type 0 where
  pub meets : (P : Program) (n : ℕ) (S : State) (rest : List ℕ) → Held s S rest → Fits mosts P n S → ObjectBelow (length S.objects) e
      → take r order ≡ met_by S.objects e

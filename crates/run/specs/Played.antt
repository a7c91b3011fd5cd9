-- What the parts of a run do: the turns played, and the end told.
use Rattle.std.specs.Prelude.{ℕ, ◌+◌, ◌≤◌, ◌<◌, ◌≡◌, Bool, List, [], Option, Some, None, Result, Ok, Err, length, get_or, set}
use Rattle.rules.specs.declared.faults.Fault.{Fault}
use Rattle.rules.specs.declared.forms.Form.TheVariants.{Copy}
use Rattle.rules.specs.Forms.{form_number}
use Rattle.rules.specs.Mosts.{mosts}
use Rattle.rules.specs.Numbers.{number}
use Rattle.rules.specs.Script.{Program}
use Rattle.rules.specs.Valid.{Valid}
use Rattle.rules.specs.State.{State, thread_at, start}
use Rattle.rules.specs.Run as R
use Rattle.rules.specs.Run.{none, stopped, run, ended, end_of, all_wait, answer}
use Rattle.rules.specs.Fits.{Fits}
use Rattle.table.specs.ProgramTable.{fresh_table}
use Rattle.table.specs.declared.standing.Here.{Here}
use Rattle.table.specs.StateTable.{Held, Sees, Any, Stands, frame_at}
use Rattle.turn.specs.Performed.{Loaded}
use Rattle.run.specs.declared.Outcome.{Outcome}
use Rattle.run.specs.declared.Stop.{Stop}
use Rattle.run.specs.declared.playing.Stretch.{Stretch}
use Rattle.run.specs.declared.playing.Stretch.TheVariants.{Through, AtCopy}
use Rattle.run.specs.Reached.{Reached, Knows}
use Rattle.run.specs.RunAnswers.{outcome}

-- the stop of the line where a thread stands, in any state that the table holds
pub record StopsAt (s : List ℕ) (h : Here) (f : Fault) (m : ℕ) (x : Stop) : Type 0 where
  pub fault : x.fault ≡ f
  pub thread : x.thread ≡ h.thread
  pub block : Sees s Any (λ S. (frame_at S h.thread h.depth).block) x.block
  pub line : Sees s Any (λ S. (frame_at S h.thread h.depth).line) x.line
  pub moves : x.moves ≡ m

-- where thread t stands, if it has a frame: kept before, or looked for and kept
abbrev pub place_at : List (Option Here) → ℕ → Option Here
place_at places t = get_or places t None

pub data LooksUp (p s : List ℕ) (places : List (Option Here)) (t : ℕ) : Option Here → List (Option Here) → Type 0 where
  is_kept : {h : Here} → place_at places t ≡ Some h → LooksUp p s places t (Some h) places
  is_found : {h : Here} {d : ℕ} → (d ≡ 0 → ⊥) → Sees s Any (λ S. length (thread_at S t).frames) d → h.thread ≡ t → Stands p s d h
      → LooksUp p s places t (Some h) (set places t (Some h))
  no_frame : place_at places t ≡ None → Sees s Any (λ S. length (thread_at S t).frames) 0 → LooksUp p s places t None places

-- the moves of turns that were played, or the turn that stopped them, told as the rules do
abbrev pub stop_told : Result ℕ Stop → R.Stop
stop_told (Ok m) = none
stop_told (Err x) = stopped (number x.fault) x.thread x.block x.line

abbrev pub moves_told : Result ℕ Stop → ℕ
moves_told (Ok m) = m
moves_told (Err x) = x.moves

pub record Tells (P : Program) (turns : List ℕ) (r : Result ℕ Stop) : Type 0 where
  pub stop_is : stop_told r ≡ (run mosts P turns).stop
  pub moves_are : moves_told r ≡ (run mosts P turns).moves

-- from the fresh start of any program
pub record Plays (p s turns : List ℕ) (r : Result ℕ Stop) (s₁ : List ℕ) : Type 0 where
  pub answers : (P : Program) (rest : List ℕ) → Loaded p P → Valid mosts P → Held s start rest → Tells P turns r
  pub leaves : (P : Program) (rest : List ℕ) → Loaded p P → Valid mosts P → Held s start rest → Held s₁ (run mosts P turns).state rest

-- turn i, with m moves before it, is of a thread that stands at h, where the words are those of a copy
pub record CopyNext (p turns : List ℕ) (i m : ℕ) (h : Here) : Type 0 where
  pub more : i < length turns
  pub few : m ≤ i
  pub thread : h.thread ≡ get_or turns i 0
  pub form : get_or p (h.row + 0) 0 ≡ form_number Copy

-- what a stretch of turns comes to, of one program: the rules' own end, or the state reached before a copy
pub data Comes (p turns : List ℕ) (P : Program) (s rest : List ℕ) : Result Stretch Stop → Type 0 where
  to_end : {m : ℕ} → Tells P turns (Ok m) → Held s (run mosts P turns).state rest → Comes p turns P s rest (Ok (Through m))
  to_stop : {x : Stop} → Tells P turns (Err x) → Held s (run mosts P turns).state rest → Comes p turns P s rest (Err x)
  to_copy : {S : State} {i m : ℕ} {h : Here} → Reached turns P s rest S m i → Knows p P S h → Comes p turns P s rest (Ok (AtCopy i m h))

-- from any state of which Q holds; a copy that ends it is turn i or a later one
pub record Stretches (Q : Program → State → List ℕ → Type 0) (p turns : List ℕ) (i : ℕ) (r : Result Stretch Stop) (s₁ : List ℕ) : Type 0 where
  pub next : (j m : ℕ) (h : Here) → r ≡ Ok (AtCopy j m h) → (i ≤ j) × CopyNext p turns j m h
  pub comes : (P : Program) (S : State) (rest : List ℕ) → Loaded p P → Valid mosts P → Q P S rest → Comes p turns P s₁ rest r

-- from a state reached after i turns with m moves
abbrev pub PlaysFrom : (p s turns : List ℕ) (i m : ℕ) → Result Stretch Stop → List ℕ → Type 0
PlaysFrom p s turns i m r s₁ = Stretches (λ P S rest. Reached turns P s rest S m i) p turns i r s₁

-- the same where turn i is of the thread that stands at h
abbrev pub PlaysPast : (p s turns : List ℕ) (i m : ℕ) (h : Here) → Result Stretch Stop → List ℕ → Type 0
PlaysPast p s turns i m h r s₁ = Stretches (λ P S rest. Reached turns P s rest S m i × Knows p P S h) p turns (i + 1) r s₁

-- of any state of a run of a program
pub record AllWait (p s : List ℕ) (r : Bool) : Type 0 where
  pub is : (P : Program) (n : ℕ) (S : State) (rest : List ℕ) → Loaded p P → Held s S rest → Valid mosts P → Fits mosts P n S → r ≡ all_wait mosts P S

pub record Ends (p s : List ℕ) (moves : ℕ) (r : Outcome) : Type 0 where
  pub is : (P : Program) (n : ℕ) (S : State) (rest : List ℕ) → Loaded p P → Held s S rest → Valid mosts P → Fits mosts P n S
      → outcome r ≡ ended (end_of mosts P S) moves

-- a program that was read, in a fresh table: the answer, and every word of the state table
pub record RunsProgram (p turns s : List ℕ) (r : Outcome) (s₁ : List ℕ) : Type 0 where
  pub answers : (P : Program) → Loaded p P → Valid mosts P → s ≡ fresh_table → outcome r ≡ answer mosts P (run mosts P turns)
  pub leaves : (P : Program) → Loaded p P → Valid mosts P → s ≡ fresh_table → Held s₁ (run mosts P turns).state []

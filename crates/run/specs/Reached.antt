-- A run under way, on the tables: the state that it has reached, and where a thread of it stands.
use Rattle.std.specs.Prelude.{ℕ, ◌≡◌, List, ◌∷◌, length, drop}
use Rattle.rules.specs.Mosts.{mosts}
use Rattle.rules.specs.Script.{Program}
use Rattle.rules.specs.State.{Frame, State, thread_at}
use Rattle.rules.specs.Run.{none, Run, run_from, run}
use Rattle.rules.specs.Fits.{Fits}
use Rattle.table.specs.declared.standing.Here.{Here}
use Rattle.table.specs.StateTable.{Held, OnLine}

-- a run that goes on
abbrev pub going : State → ℕ → Run
going S n = record { state = S; moves = n; stop = none }

-- after i of the turns, with n moves, the table s holds the state S, from which the run goes on
pub record Reached (turns : List ℕ) (P : Program) (s rest : List ℕ) (S : State) (n i : ℕ) : Type 0 where
  pub held : Held s S rest
  pub fits : Fits mosts P n S
  pub goes_on : run mosts P turns ≡ run_from mosts P (going S n) (drop i turns)

-- h is the place where its thread stands
pub record Knows (p : List ℕ) (P : Program) (S : State) (h : Here) : Type 0 where
  pub frame : Frame
  pub callers : List Frame
  pub frames : (thread_at S h.thread).frames ≡ frame ∷ callers
  pub depth : length callers ≡ h.depth
  pub line : OnLine p P frame.block frame.line h

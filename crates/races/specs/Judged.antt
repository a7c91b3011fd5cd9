-- What the races' entry answers and leaves: the verdict of the run, or why there is none.
use Rattle.std.specs.Prelude.{ℕ, ◌%◌, ◌≤◌, ◌<◌, ◌≡◌, List, length, get_or, Option, None, Some, Result, Ok}
use Rattle.rules.specs.Mosts as Most
use Rattle.rules.specs.Mosts.{mosts}
use Rattle.rules.specs.Numbers as No
use Rattle.rules.specs.Refusals.{Refuses}
use Rattle.rules.specs.declared.faults.Refusal.{Refusal}
use Rattle.rules.specs.Script.{Program}
use Rattle.rules.specs.Reading.{Reading}
use Rattle.rules.specs.Valid.{Valid}
use Rattle.rules.specs.State.{State, start}
use Rattle.rules.specs.Turn.{Res, ok, wait, stop, turn}
use Rattle.rules.specs.Fits.{Fits}
use Rattle.rules.specs.Calls.{program_after, state_after}
use Rattle.rules.specs.Races.{event, Verdict, norace, race, verdict, race_call, Judged, unjudged, judged, judged_of}
use Rattle.table.specs.StateTable.{Held}
use Rattle.turn.specs.Performed.{Loaded}
use Rattle.races.specs.declared.Race.{Race}
use Rattle.races.specs.declared.marks.Found.{Found}
use Rattle.races.specs.declared.marks.Marks.{Marks}
use Rattle.races.specs.Events.{met_by}
use Rattle.races.specs.Marks.{Roomy, Notes}

-- the verdict, and what a call answers, as the code has them
abbrev pub race_of : Verdict → Option Race
race_of norace = None
race_of (race i j n f) = Some (record { first = i; second = j; object = n; field = f })

abbrev pub Answers : Judged → Result (Option Race) Refusal → Type 0
Answers (unjudged k n) r = Refuses r k n
Answers (judged v) r = r ≡ Ok (race_of v)

-- no turn is noted: n words, all 0
pub record Unmarked (n : ℕ) (ws : List ℕ) : Type 0 where
  pub wide : length ws ≡ n
  pub none : (i : ℕ) → get_or ws i 0 ≡ 0

pub record NothingMarked (M : Marks) : Type 0 where
  pub receives : Unmarked 4096 M.receives
  pub reads : Unmarked 16384 M.reads.last
  pub read_puts : Unmarked 16384 M.reads.puts
  pub swaps : Unmarked 16384 M.swaps.last
  pub swap_puts : Unmarked 16384 M.swaps.puts

-- ---- A turn of thread t, played and noted under its mark

-- from the state S, by the rule's own result: it stops the run; it waits, and nothing is noted; or it moves, and what it does is noted
pub data Comes (P : Program) (S : State) (t mark : ℕ) (M M₁ : Marks) (s₁ rest : List ℕ) : Res State → Option (Option Found) → Type 0 where
  to_stop : {k : ℕ} → Comes P S t mark M M₁ s₁ rest (stop k) None
  to_wait : Held s₁ S rest → M₁ ≡ M → Comes P S t mark M M₁ s₁ rest wait (Some None)
  to_move : {S₁ : State} {F : Option Found} {objects : List ℕ} → Roomy M → Held s₁ S₁ rest → objects ≡ met_by S.objects (event P S t)
      → Notes (event P S t) objects (t % 16) mark M M₁ F → Comes P S t mark M M₁ s₁ rest (ok S₁) (Some F)

pub record Plays (p s : List ℕ) (t mark : ℕ) (M : Marks) (r : Option (Option Found)) (s₁ : List ℕ) (M₁ : Marks) : Type 0 where
  pub plays : (P : Program) (n : ℕ) (S : State) (rest : List ℕ) → Loaded p P → Held s S rest → Valid mosts P → Fits mosts P n S → n < Most.turns
      → Comes P S t mark M M₁ s₁ rest (turn mosts P S t) r

-- ---- All turns

-- the turns of any program that the table holds, from a fresh start in the table s
pub record JudgesTurns (p turns s : List ℕ) (r : Option Race) : Type 0 where
  pub judges : (P : Program) (rest : List ℕ) → Loaded p P → Valid mosts P → Held s start rest → r ≡ race_of (verdict mosts P turns)

pub record Judges (p turns : List ℕ) (r : Result (Option Race) Refusal) : Type 0 where
  pub judges : length turns ≤ Most.race_turns → Most.words ≤ length p → (P : Program) → Loaded p P → Valid mosts P → r ≡ Ok (race_of (verdict mosts P turns))
  -- a list that is too long, then a table that is too short
  pub overlong : (length turns ≤ Most.race_turns → ⊥) → Refuses r No.overlong 0
  pub short : length turns ≤ Most.race_turns → (Most.words ≤ length p → ⊥) → Refuses r No.short_table 0

-- what a call answers and leaves in what it was lent, by what its inputs come to
pub record HasJudged (C : Reading) (turns program state : List ℕ) (r : Result (Option Race) Refusal) (program₁ state₁ : List ℕ) : Type 0 where
  pub answers : Answers (judged_of mosts turns C) r
  pub program_is : program₁ ≡ program_after C program
  pub state_is : state₁ ≡ state_after mosts turns C state

-- "an entry that takes a run's inputs .. Its tables then hold the run.", of its inputs as lent
abbrev pub Finds : (text turns program state : List ℕ) → Result (Option Race) Refusal → (program₁ state₁ : List ℕ) → Type 0
Finds text turns program state r program₁ state₁ = HasJudged (race_call mosts text turns program state) turns program state r program₁ state₁

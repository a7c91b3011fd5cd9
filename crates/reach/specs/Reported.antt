-- What each part of the report does.
use Rattle.std.specs.Prelude.{ℕ, ◌+◌, ◌≤◌, ◌≡◌, not, cond, List, eqb, ltb, length, get_or, Result, Ok}
use Rattle.rules.specs.declared.Value.{Value}
use Rattle.rules.specs.declared.Value.TheVariants.{Absent}
use Rattle.rules.specs.Mosts as Most
use Rattle.rules.specs.Mosts.{mosts}
use Rattle.rules.specs.Reading.{Reading}
use Rattle.rules.specs.Numbers as No
use Rattle.rules.specs.Refusals.{Refuses}
use Rattle.rules.specs.declared.faults.Refusal.{Refusal}
use Rattle.rules.specs.Lists.{rising}
use Rattle.rules.specs.Script.{Program}
use Rattle.rules.specs.Valid.{Valid}
use Rattle.rules.specs.State.{State, thread_at, channel_at}
use Rattle.rules.specs.Fits.{Fits}
use Rattle.rules.specs.Reach.{count, slots_of, in_flight, roots}
use Rattle.rules.specs.Calls as Calls
use Rattle.rules.specs.Calls.{unreported, reached, report_on, reach_call, reach_report, program_after, state_after, list_after}
use Rattle.table.specs.StateTable.{Held}
use Rattle.walk.specs.Walking.{Tally, Numbered, WalkedTo}
use Rattle.turn.specs.Performed.{Loaded}

-- the report as the code answers it: "with their number"
abbrev pub Answers : Calls.Report → Result ℕ Refusal → Type 0
Answers (unreported k n) r = Refuses r k n
Answers (reached objects) r = r ≡ Ok (length objects)

-- the answer is this report's, and so is the list
pub record Reports (R : Calls.Report) (list : List ℕ) (r : Result ℕ Refusal) (list₁ : List ℕ) : Type 0 where
  pub answers : Answers R r
  pub leaves : list₁ ≡ list_after R list

-- ---- The walk

-- over values of a thread in some order: only how often each stands among them matters
pub record WalkedAll (S : State) (us : List Value) (met : List ℕ) (w : Tally) : Type 0 where
  pub values : List Value
  pub same : (x : ℕ) → count x values ≡ count x us
  pub walked_to : WalkedTo S.objects met values w

-- the slots of all its frames
pub record WalksThread (s : List ℕ) (w : Tally) (t : ℕ) (w₁ : Tally) : Type 0 where
  pub walks : (P : Program) (n : ℕ) (S : State) (rest met : List ℕ) → Held s S rest → Fits mosts P n S → Numbered w met
      → WalkedAll S (slots_of (thread_at S t).frames) met w₁

-- and the message that it put: that of channel c, if its number is the one that a sender whose word is d waits for
abbrev pub message_for : State → (c d : ℕ) → Value
message_for S c d = cond (eqb ((channel_at S c).number + 1) d) (channel_at S c).message Absent

pub record SeesInFlight (p s : List ℕ) (t : ℕ) (v : Value) : Type 0 where
  pub is : (P : Program) (n : ℕ) (S : State) (rest : List ℕ) → Loaded p P → Held s S rest → Valid mosts P → Fits mosts P n S → v ≡ in_flight P S t

pub record WalksRoots (p s : List ℕ) (w : Tally) (t : ℕ) (w₁ : Tally) : Type 0 where
  pub walks : (P : Program) (n : ℕ) (S : State) (rest met : List ℕ) → Loaded p P → Held s S rest → Valid mosts P → Fits mosts P n S → Numbered w met
      → WalkedAll S (roots P S t) met w₁

-- ---- The list

-- the objects below k that are met, in rising order
abbrev pub met_below : ℕ → (places : List ℕ) → List ℕ
met_below k places = rising k (λ x. not (eqb (get_or places x 0) 0))

-- ---- The report

-- on the program and the state that a run left in two tables
pub record ReportsState (p s : List ℕ) (t : ℕ) (list : List ℕ) (r : Result ℕ Refusal) (list₁ : List ℕ) : Type 0 where
  pub reports : Most.words ≤ length p → Most.words ≤ length s → Most.reach_list ≤ length list
      → (P : Program) (n : ℕ) (S : State) (rest : List ℕ) → Loaded p P → Held s S rest → Valid mosts P → Fits mosts P n S
      → Reports (report_on P S t (ltb t (length S.threads))) list r list₁
  -- where a slice is too short for that
  pub refuses : (Most.words ≤ length p → Most.words ≤ length s → Most.reach_list ≤ length list → ⊥) → Refuses r No.short_table 0 × (list₁ ≡ list)

-- what a report answers and leaves in what it was lent, by what its inputs come to
pub record Reached (C : Reading) (turns : List ℕ) (t : ℕ) (program state list : List ℕ) (r : Result ℕ Refusal) (program₁ state₁ list₁ : List ℕ) : Type 0 where
  pub report : Reports (reach_report mosts turns t C) list r list₁
  pub program_is : program₁ ≡ program_after C program
  pub state_is : state₁ ≡ state_after mosts turns C state

-- "a reach report", of its inputs as lent
abbrev pub Reaches : (text turns program state : List ℕ) → (t : ℕ) → (list : List ℕ) → Result ℕ Refusal → (program₁ state₁ list₁ : List ℕ) → Type 0
Reaches text turns program state t list r program₁ state₁ list₁ =
    Reached (reach_call mosts text turns program state list) turns t program state list r program₁ state₁ list₁

-- What the drawing answers and leaves in what it was lent: the text of the state that the run left, or why there is none.
use Rattle.std.specs.Prelude.{ℕ, ◌≤◌, ◌≡◌, List, Result, Ok, length}
use Rattle.rules.specs.declared.faults.Refusal.{Refusal}
use Rattle.rules.specs.Mosts as Most
use Rattle.rules.specs.Mosts.{mosts}
use Rattle.rules.specs.Reading.{Reading}
use Rattle.rules.specs.Numbers as No
use Rattle.rules.specs.Refusals.{Refuses}
use Rattle.rules.specs.Script.{Program}
use Rattle.rules.specs.State.{State}
use Rattle.rules.specs.Fits.{Fits}
use Rattle.rules.specs.Calls.{program_after, state_after}
use Rattle.rules.specs.Drawing as Drawing
use Rattle.rules.specs.Drawing.{drawing, draw_call, undrawn, drawn, drawn_of, buffer_after}
use Rattle.table.specs.StateTable.{Held}

-- the answer, said of the code's: "gives the length"
abbrev pub Answers : Drawing.Drawn → Result ℕ Refusal → Type 0
Answers (undrawn k n) r = Refuses r k n
Answers (drawn text) r = r ≡ Ok (length text)

-- the answer is this drawing's, and so is the buffer
pub record Drew (D : Drawing.Drawn) (buffer : List ℕ) (r : Result ℕ Refusal) (buffer₁ : List ℕ) : Type 0 where
  pub answers : Answers D r
  pub leaves : buffer₁ ≡ buffer_after D buffer

-- of the state that a run left in a table
pub record DrawsState (s buffer : List ℕ) (r : Result ℕ Refusal) (buffer₁ : List ℕ) : Type 0 where
  pub draws : Most.words ≤ length s → Most.drawing ≤ length buffer → (P : Program) (n : ℕ) (S : State) (rest : List ℕ) → Held s S rest → Fits mosts P n S
      → Drew (drawn (drawing S)) buffer r buffer₁
  -- where a slice is too short for that
  pub refuses : (Most.words ≤ length s → Most.drawing ≤ length buffer → ⊥) → Refuses r No.short_table 0 × (buffer₁ ≡ buffer)

-- what a call answers and leaves in what it was lent, by what its inputs come to
pub record HasDrawn (C : Reading) (turns program state buffer : List ℕ) (r : Result ℕ Refusal) (program₁ state₁ buffer₁ : List ℕ) : Type 0 where
  pub drew : Drew (drawn_of mosts turns C) buffer r buffer₁
  pub program_is : program₁ ≡ program_after C program
  pub state_is : state₁ ≡ state_after mosts turns C state

-- "The entry takes a run's inputs and a lent buffer", of its inputs as lent
abbrev pub Draws : (text turns program state buffer : List ℕ) → Result ℕ Refusal → (program₁ state₁ buffer₁ : List ℕ) → Type 0
Draws text turns program state buffer r program₁ state₁ buffer₁ =
    HasDrawn (draw_call mosts text turns program state buffer) turns program state buffer r program₁ state₁ buffer₁

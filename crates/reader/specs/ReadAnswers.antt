-- Document 01's answer to reading, said of the code's Result, and as two numbers.
use Rattle.std.specs.Prelude.{ℕ, ◌≡◌, Bool, List, Result, Ok}
use Rattle.rules.specs.declared.faults.Refusal.{Refusal}
use Rattle.rules.specs.Mosts.{mosts}
use Rattle.rules.specs.Reading.{Reading, turned_away, accepted, reading}
use Rattle.rules.specs.Refusals.{Refuses}
use Rattle.rules.specs.Tables.{program_words}
use Rattle.rules.specs.Calls.{long_text}
use Rattle.table.specs.ProgramTable.{fresh_table}

-- the script was read; or it is turned away, with document 01's number and the line
abbrev pub Answers : Reading → Result Unit Refusal → Type 0
Answers (turned_away k n) r = Refuses r k n
Answers (accepted P) r = r ≡ Ok tt

-- the number of the refusal, and its line; 0 and 0 where the script was read
abbrev pub number_of : Reading → ℕ
number_of (turned_away k n) = k
number_of (accepted P) = 0

abbrev pub line_of : Reading → ℕ
line_of (turned_away k n) = n
line_of (accepted P) = 0

-- what reading comes to in a fresh table: a refusal, after which its words are of no use; or the words of the program
abbrev pub Made : Reading → Result Unit Refusal → (table : List ℕ) → Type 0
Made (turned_away k n) r table = Refuses r k n
Made (accepted P) r table = (r ≡ Ok tt) × (table ≡ program_words P)

-- the caller tells whether a slice that it was lent is under its length
pub record Makes (text : List ℕ) (short : Bool) (table : List ℕ) (r : Result Unit Refusal) (table₁ : List ℕ) : Type 0 where
  pub makes : table ≡ fresh_table → Made (reading mosts (long_text text) short text) r table₁

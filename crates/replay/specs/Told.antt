-- What the code tells of the turns line, as the definitions have it: the answer and what the lent list holds.
use Rattle.std.specs.Prelude.{ℕ, ◌≡◌, false, List, ltb, length, take, drop, Option, None, Some, Result, Ok, Err}
use Rattle.rules.specs.Mosts as Most
use Rattle.rules.specs.Numbers.{number as number_of}
use Rattle.rules.specs.Lists.{any}
use Rattle.rules.specs.Templates.{took, unfit, number, many}
use Rattle.rules.specs.Input.{Turns, fault, turns}
use Rattle.rules.specs.declared.faults.Fault.{Fault}
use Rattle.replay.specs.declared.turns_line.Numbers.{Numbers}

-- the turns stand at the front of the list; after a fault the list is of no matter
abbrev pub turns_told : Result ℕ Fault → List ℕ → Turns
turns_told (Ok n) list = turns (take n list)
turns_told (Err f) list = fault (number_of f)

-- " T .." at a place, and the numbers at the front of the list where each of them is at most 255
pub record Stored (s : List ℕ) (at : ℕ) (r : Numbers) (list : List ℕ) : Type 0 where
  pub numbers : List ℕ
  pub fits : many number (length (drop at s)) (drop at s) ≡ took numbers (drop r.end s)
  pub over : r.over ≡ any (ltb Most.number) numbers
  pub stored : r.over ≡ false → take r.count list ≡ numbers

-- or something else stands there
abbrev pub NumbersStored : (s : List ℕ) (at : ℕ) → Option Numbers → List ℕ → Type 0
NumbersStored s at None list = many number (length (drop at s)) (drop at s) ≡ unfit
NumbersStored s at (Some r) list = Stored s at r list

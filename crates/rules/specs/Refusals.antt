-- A refusal as the code answers it: why, and the line that it tells.
use Rattle.std.specs.Prelude.{ℕ, ◌≡◌, Result, Err}
use Rattle.rules.specs.declared.faults.Refusal.{Refusal}
use Rattle.rules.specs.Numbers.{number}

-- the answer is a refusal with this number and this line
pub record Refuses {A : Type 0} (r : Result A Refusal) (k n : ℕ) : Type 0 where
  pub refusal : Refusal
  pub is : r ≡ Err refusal
  pub number_is : number refusal.fault ≡ k
  pub line_is : refusal.line ≡ n

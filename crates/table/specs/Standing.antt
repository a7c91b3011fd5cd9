-- Where a thread stands, by numbers.
use Rattle.std.specs.Prelude.{◌≡◌, ℕ, ◌+◌, ◌*◌, ◌%◌, ◌<◌, ◌≤◌}
use Rattle.rules.specs.Mosts as Most
use Rattle.rules.specs.Mosts.{mosts}

-- the places are those of the thread's frame; the line's words lie in the program table
pub record PlacedAt (t k at p : ℕ) : Type 0 where
  pub thread : t < mosts.threads
  pub depth : k < Most.frames
  pub frame : at ≡ 2058 + t * 306 + k * 19
  pub row : p + 8 ≤ Most.words
  pub aligned : p % 8 ≡ 0

-- What is told of a call that failed: what it was for, and why it failed. No definition can say which reason a system has.
use Rattle.std.specs.Prelude.{ℕ, List, Option, ◌++◌, codes}
use Rattle.std.specs.Io.KnownBytes.{Appends}

-- a stream that held the old bytes holds a line more, which begins with what failed
abbrev pub Tells : (old new : Option (List ℕ)) (what : List ℕ) → Type 0
Tells old new what = (reason : List ℕ) × Appends old new (what ++ (codes ": " ++ (reason ++ codes "\n")))

-- What can be said of a call that reads: how much it got lies within what was lent. No definition can say which bytes come.
use Rattle.std.specs.Prelude.{ℕ, ◌≡◌, ◌≤◌, List, length, take, Result, IfOk}

-- so many bytes stand at the front of a buffer: they are within it, and its front of that length has so many
abbrev pub IsPrefixLen : ℕ → List ℕ → Type 0
IsPrefixLen n buf = (n ≤ length buf) × (n ≡ length (take n buf))

-- what a reading got stands at the front of the buffer
abbrev pub Within : {E : Type 0} → List ℕ → Result ℕ E → Type 0
Within buf got = IfOk got (λ n. IsPrefixLen n buf)

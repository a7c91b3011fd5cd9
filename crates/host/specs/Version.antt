-- The version of the box, which a host compares with its header's.
use Rattle.std.specs.Prelude.{ℕ, ◌+◌, ◌*◌}

-- the base, document 01
abbrev pub major : ℕ
major = 1

-- how many requests of document 02 have landed
abbrev pub minor : ℕ
minor = 8

-- any other change since
abbrev pub patch : ℕ
patch = 0

abbrev pub version : ℕ
version = 10000 * major + 100 * minor + patch

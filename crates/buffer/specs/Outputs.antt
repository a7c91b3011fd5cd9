-- What it is to have room in an output, and to write a text there.
use Rattle.std.specs.Prelude.{ℕ, ◌+◌, ◌≤◌, ◌≡◌, List, length}
use Rattle.buffer.specs.Writing.{Wrote as WroteAt}
use Rattle.buffer.specs.declared.Output.{Output}

-- at least k bytes stand from its place on
abbrev pub HasRoom : ℕ → Output → Type 0
HasRoom k o = o.at + k ≤ length o.buf.now

-- the text stands where its place was, all else stays; its place is after it, at most k bytes on; it is the same buffer, as long as it was
pub record Wrote (k : ℕ) (o o₁ : Output) (text : List ℕ) : Type 0 where
  pub writes : WroteAt k o.buf.now o₁.buf.now o.at o₁.at text
  pub most : o₁.at ≤ o.at + k
  pub length_same : length o₁.buf.now ≡ length o.buf.now
  pub buffer_same : o₁.buf.ghost_name ≡ o.buf.ghost_name

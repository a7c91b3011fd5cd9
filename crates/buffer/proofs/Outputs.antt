-- Laws of `Wrote` over an output: nothing, one text after the other, the same text said otherwise.
use Rattle.std.proofs.Common.{ℕ, ◌+◌, ◌≤◌, arith, ◌≡◌, refl, ◌∙◌, List, [], ◌++◌, length}
use Rattle.buffer.specs.declared.Output.{Output}
use Rattle.buffer.specs.Outputs.{Wrote}
use Rattle.buffer.specs.Writing.{Wrote as WroteAt}
use Rattle.buffer.proofs.Appends as At

pub nothing : {o : Output} (k : ℕ) → o.at ≤ length o.buf.now → Wrote k o o []
nothing k there = record { writes = At.nothing k there; most = omega arith; length_same = refl; buffer_same = refl }

infixr 5 ◌▹◌
pub ◌▹◌ : {j k : ℕ} {o o₁ o₂ : Output} {s t : List ℕ} → Wrote j o o₁ s → Wrote k o₁ o₂ t → Wrote (j + k) o o₂ (s ++ t)
◌▹◌ a b =
    record {
      writes = At.◌▹◌ a.writes b.writes;
      most = omega (arith, a.most, b.most);
      length_same = b.length_same ∙ a.length_same;
      buffer_same = b.buffer_same ∙ a.buffer_same;
    }

-- the same text said otherwise, and a larger bound
pub same_text : {j : ℕ} (k : ℕ) {o o₁ : Output} {s t : List ℕ} → s ≡ t → j ≤ k → Wrote j o o₁ s → Wrote k o o₁ t
same_text k e wide a =
    record { writes = At.same_text k e wide a.writes; most = omega (arith, wide, a.most); length_same = a.length_same; buffer_same = a.buffer_same }

-- a bound from elsewhere
pub bounded : {j : ℕ} (k : ℕ) {o o₁ : Output} {t : List ℕ} → o₁.at ≤ o.at + k → Wrote j o o₁ t → Wrote k o o₁ t
bounded k within a =
    record {
      writes = record { is = a.writes.is; end = a.writes.end; most = within; from = a.writes.from };
      most = within;
      length_same = a.length_same;
      buffer_same = a.buffer_same;
    }

-- a whole text in a lent buffer: the output began at its front, and what the buffer became is what the output left
pub at_front : {k : ℕ} {o o₁ : Output} {l l₁ t : List ℕ} → o.at ≡ 0 → o.buf.now ≡ l → l₁ ≡ o₁.buf.now → Wrote k o o₁ t → WroteAt k l l₁ 0 o₁.at t
at_front start content left w = rw (← start, ← content, left) w.writes

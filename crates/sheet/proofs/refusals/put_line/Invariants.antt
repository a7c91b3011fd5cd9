-- Before turn i the first bytes of the line stand there, each as it is shown.
use Rattle.std.specs.Prelude.{ℕ, ◌≡◌, ◌<◌, ◌+◌, ◌≤◌, map, length, take}
use Rattle.buffer.specs.Outputs.{Wrote}
use Rattle.sheet.proofs.refusals.put_line.Given as goal

abbrev pub invariant-loop-b : goal.invariant-loop-b
invariant-loop-b g l =
    record {
      text : (h : ℕ → ℕ) → ((b r : ℕ) → b < 256 → goal.F-post g l.byte b r → r ≡ h b) → Wrote l.b-index l.initial.out l.out (map h (take l.b-index l.line));
      most : l.out.at ≤ l.initial.out.at + l.b-index;
      length_same : length l.out.buf.now ≡ length l.initial.out.buf.now;
      buffer_same : l.out.buf.ghost_name ≡ l.initial.out.buf.ghost_name;
    }

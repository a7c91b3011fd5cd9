-- `buffer::Output::put_cap` meets its contract: a space, and the word of the capability.
use Rattle.std.proofs.Common.{◌≤◌, arith, ap, ◌∷◌, length}
use Rattle.rules.specs.Text.{space}
use Rattle.rules.specs.Templates.{cap_word}
use Rattle.rules.specs.declared.Cap.{Cap}
use Rattle.rules.specs.declared.Cap.TheVariants.{Imm, Iso, Local, Unsafe}
use Rattle.buffer.proofs.Outputs.{◌▹◌, same_text}
use Rattle.buffer.proofs.Output.put_cap.Goals as goal

short_word : (c : Cap) → length (cap_word c) ≤ 6
short_word Imm = omega arith
short_word Iso = omega arith
short_word Local = omega arith
short_word Unsafe = omega arith

pub returns : goal.returns
returns c =
    let short = short_word c.args.cap in
    same_text 7 (ap (λ t. space ∷ t) c.word.ensures) (rw c.word.ensures (omega (arith, short))) (c.put_byte.ensures ▹ c.put_text.ensures)

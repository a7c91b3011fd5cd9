-- The refusal, and then the hint for what the line ends in.
use Rattle.std.proofs.Common.{refl, arith}
use Rattle.buffer.proofs.Outputs.{◌▹◌, same_text}
use Rattle.sheet.specs.SheetText.{script_refusal}
use Rattle.sheet.proofs.refusals.put_script_refusal.Goals as goal

pub returns : goal.returns
unfolding script_refusal
returns c =
    rw (← c.ends_in_cr.ensures, ← c.is_unended.ensures, ← c.hint.ensures.0) (same_text 402 refl (omega (arith, c.hint.ensures.1)) (c.put_refusal.ensures ▹ c.put_text.ensures))

-- The refusal, and then the hint for what the line ends in.
use Rattle.std.proofs.Common.{refl, arith}
use Rattle.buffer.proofs.Outputs.{◌▹◌, same_text}
use Rattle.sheet.specs.SheetText.{turns_refusal}
use Rattle.sheet.proofs.refusals.put_turns_refusal.Goals as goal

pub returns : goal.returns
unfolding turns_refusal
returns c =
    rw (← c.ends_in_cr.ensures, ← c.is_unended.ensures, ← c.turns_hint.ensures.0)
    (same_text 402 refl (omega (arith, c.turns_hint.ensures.1)) (c.put_refusal.ensures ▹ c.put_text.ensures))

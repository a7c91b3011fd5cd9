-- The first word, the numbers and the bracket are written one after the other.
use native.Mathlib.Omega.{arith}
use Rattle.buffer.proofs.Outputs.{◌▹◌, same_text}
use Rattle.reports.proofs.ReachedTexts.{reached_line_lem}
use Rattle.reports.proofs.put_reached.Goals as goal

pub returns : goal.returns
returns c = same_text 1546 (reached_line_lem c.args.objects.now) (omega arith) (c.put_text.ensures ▹ (c.put_numbers.ensures ▹ c.put_text-2.ensures))

-- The line of the race, or the one that says that there is none.
use native.Mathlib.Omega.{arith}
use Rattle.buffer.proofs.Outputs.{same_text}
use Rattle.reports.proofs.RaceOutcomes.{norace_line_lem}
use Rattle.reports.proofs.raced.put_found.Goals as goal

pub returns-in-None : goal.returns-in-None
returns-in-None c = rw c.in-None.is (same_text 31 norace_line_lem (omega arith) c.put_text.ensures)

-- `host::box_line` meets its contract: the start and the part that the line finder gives.
use Rattle.std.proofs.Common.{ap, length}
use Rattle.host.proofs.box_line.Goals as goal

pub returns : goal.returns
returns c = record { value = ap length c.find_line-line.ensures.result_value; start_after = c.line_start.ensures.2 }

-- `buffer::Output::put_number` meets its contract: a space, and the number.
use Rattle.buffer.proofs.Outputs.{◌▹◌}
use Rattle.buffer.proofs.Output.put_number.Goals as goal

pub returns : goal.returns
returns c = c.put_byte.ensures ▹ c.put_decimal.ensures

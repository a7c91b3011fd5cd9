-- `buffer::Output::put_decimal` meets its contract: the digits by place.
use Rattle.std.proofs.Common.{◌%◌, arith}
use Rattle.rules.specs.Templates.{decimal}
use Rattle.buffer.proofs.Outputs.{◌▹◌}
use Rattle.buffer.proofs.Digits.{digit_code}
use Rattle.buffer.proofs.Output.put_decimal.Goals as goal

pub returns : goal.returns
unfolding decimal
returns c =
    rw (← digit_code (c.args.n % 10) (omega arith))
    (c.put_digit.ensures ▹ c.put_digit-2.ensures ▹ c.put_digit-3.ensures ▹ c.put_digit-4.ensures ▹ c.put_byte.ensures)

-- `buffer::Output::put_digit` meets its contract: the number is below the place, or its digit there is written.
use Rattle.std.proofs.Common.{◌/◌, ◌%◌, arith, lt-ltb, le-ltb, rules}
use Rattle.buffer.proofs.Outputs.{nothing}
use Rattle.buffer.proofs.Digits.{digit_code}
use Rattle.buffer.proofs.Output.put_digit.Goals as goal

pub returns-then-n-place : goal.returns-then-n-place
returns-then-n-place c =
    let a = c.args in
    rw (lt-ltb a.n a.place c.if-n-place.true) (nothing 1 (search rules))

pub returns : goal.returns
returns c =
    let a = c.args in
    rw (le-ltb a.n a.place c.if-n-place.false, ← digit_code (a.n / a.place % 10) (omega arith)) c.put_byte.ensures

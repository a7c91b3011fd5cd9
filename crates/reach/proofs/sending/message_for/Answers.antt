-- `reach::sending::message_for` meets its contract: the channel's number is the sender's, or it is not and nothing is given.
use Rattle.reach.proofs.Sent.{number_fits, number_differs}
use Rattle.reach.proofs.sending.message_for.Goals as goal

pub returns-then-message_number-d : goal.returns-then-message_number-d
returns-then-message_number-d c =
    let a = c.args in record { in_table = c.message.ensures.value.1; sees = number_fits a.c c.message_number.ensures.sees c.if-message_number-d.true c.message.ensures.sees }

pub returns : goal.returns
returns c = record { in_table = tt; sees = number_differs c.args.c c.message_number.ensures.sees c.if-message_number-d.false }

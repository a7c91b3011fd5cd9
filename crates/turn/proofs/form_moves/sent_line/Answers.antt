-- `turn::form_moves::sent_line` meets its contract: its check is the line's; the channel in the slot is given.
use Rattle.turn.proofs.TurnSteps.{line_hands_on, line_moves}
use Rattle.turn.proofs.SendLines.{sent_answers, sent_writes}
use Rattle.turn.proofs.form_moves.sent_line.Goals as goal

pub returns-in_err-sent_check : goal.returns-in_err-sent_check
returns-in_err-sent_check c =
    record {
      performs = λ w. line_hands_on c.in_err-sent_check.field-0.0 c.from_residual.ensures.1 (sent_answers _ c.requires.1 w c.in_err-sent_check.ensures);
    }

pub returns : goal.returns
returns c =
    record {
      performs = λ w. line_moves (sent_answers _ c.requires.1 w c.in_ok-sent_check.ensures)
          (sent_writes _ c.requires.1 w c.slot-x.ensures.sees c.give_value.ensures);
    }

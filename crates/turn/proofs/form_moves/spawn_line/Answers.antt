-- `turn::form_moves::spawn_line` meets its contract: its check is the line's; the next thread is started, then its channel is given.
use Rattle.checks.specs.declared.form_checks.Halt.TheVariants.{Stops}
use Rattle.turn.proofs.TurnSteps.{line_hands_on, line_moves}
use Rattle.turn.proofs.ChannelLines.{spawn_answers, spawn_writes}
use Rattle.turn.proofs.form_moves.spawn_line.Goals as goal

pub returns-in_err-spawn_check : goal.returns-in_err-spawn_check
returns-in_err-spawn_check c =
    line_hands_on (Stops c.in_err-spawn_check.field-0.0) c.from_residual.ensures.1
    (spawn_answers _ c.in_err-spawn_check.ensures)

pub returns : goal.returns
returns c =
    line_moves (spawn_answers _ c.in_ok-spawn_check.ensures)
    (spawn_writes _ c.thread_count-n.ensures.sees c.start_thread.ensures c.give_value.ensures)

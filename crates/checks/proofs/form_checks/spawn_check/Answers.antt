-- `checks::form_checks::spawn_check` meets its contract: the word read is the number of threads.
use Rattle.checks.proofs.CallChecks.{spawn_room, spawn_used_up}
use Rattle.checks.proofs.form_checks.spawn_check.Goals as goal

pub returns-then-thread_count-lt16 : goal.returns-then-thread_count-lt16
returns-then-thread_count-lt16 c = spawn_room c.thread_count.ensures.sees c.if-thread_count-lt16.true

pub returns : goal.returns
returns c = spawn_used_up c.thread_count.ensures.sees c.if-thread_count-lt16.false

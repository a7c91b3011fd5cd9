-- A stop is the rules' own; past the last turn the end is told of the state reached.
use Rattle.run.proofs.Answering.{runs_stopped, runs_through}
use Rattle.run.proofs.run_program.Goals as goal

pub returns-in-Ok : goal.returns-in-Ok
returns-in-Ok c = runs_through c.start_state.ensures.starts c.play.ensures c.requires.2 c.in-Ok.is c.end.ensures

pub returns-in-Err : goal.returns-in-Err
returns-in-Err c = runs_stopped c.start_state.ensures.starts c.play.ensures c.in-Err.is

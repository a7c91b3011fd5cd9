-- Each stretch goes on where the one before it ended; past the last copy the run is the rules'.
use native.Mathlib.Omega.{arith}
use mathlib.Core.Path.{refl}
use Rattle.std.proofs.lemmas.Result.{err_from_is_err_and}
use Rattle.run.proofs.TurnByTurn.{plays_past, plays_all, plays_stopped, fewer_left}
use Rattle.run.proofs.playing.play.Goals as goal

pub returns-in_err-stretch : goal.returns-in_err-stretch
returns-in_err-stretch c =
    let stop = err_from_is_err_and c.from_residual.result c.from_residual.ensures.1 in
    rw (stop.1, stop.2) (plays_stopped c.in_err-stretch.ensures)

pub loop-stretch-init : goal.loop-stretch-init
loop-stretch-init c = λ l plays. plays

pub returns-in-Through : goal.returns-in-Through
returns-in-Through c = plays_all (c.loop-stretch.invariant _ c.in_ok-stretch.ensures) c.in-Through.is

pub play_past-requires : goal.play_past-requires
play_past-requires c =
    (c.requires.0, omega arith, c.requires.2, ((c.loop-stretch.invariant _ c.in_ok-stretch.ensures).next _ _ _ (rw c.in-AtCopy.is refl)).1)

pub returns-in_err-stretch-in-AtCopy : goal.returns-in_err-stretch-in-AtCopy
returns-in_err-stretch-in-AtCopy c =
    let stop = err_from_is_err_and c.from_residual-in_err-stretch-in-AtCopy.result c.from_residual-in_err-stretch-in-AtCopy.ensures.1 in
    rw (stop.1, stop.2) (plays_stopped (plays_past (c.loop-stretch.invariant _ c.in_ok-stretch.ensures) c.in-AtCopy.is c.in_err-stretch-in-AtCopy.ensures))

pub loop-stretch-smaller : goal.loop-stretch-smaller
loop-stretch-smaller c = fewer_left (c.loop-stretch.invariant _ c.in_ok-stretch.ensures) c.in-AtCopy.is c.in_ok-stretch-in-AtCopy.ensures

pub loop-stretch-preserved : goal.loop-stretch-preserved
loop-stretch-preserved c = λ l plays. plays_past (c.loop-stretch.invariant l plays) c.in-AtCopy.is c.in_ok-stretch-in-AtCopy.ensures

-- `races::judging::judge_turns` meets its contract: before each turn the marks are those of the turns so far, of which none raced.
use Rattle.std.proofs.Common.{arith, subst, ◌+◌, get_or, Some}
use Rattle.races.specs.Judged.{Plays}
use Rattle.races.proofs.TurnsJudged.{judging_starts, judging_stops, judging_finds, judging_goes_on, judging_ends}
use Rattle.races.proofs.judging.judge_turns.Goals as goal

pub loop-k-init : goal.loop-k-init
loop-k-init c = let a = c.args in judging_starts a.p.now a.turns.now a.s.now a.marks.now c.requires.unmarked

pub returns-in_err-found : goal.returns-in_err-found
returns-in_err-found c =
    rw c.from_residual.ensures (judging_stops c.loop-k.invariant c.loop-k-test.true c.requires.in_bounds.1 c.in_err-found.ensures)

pub returns-in-Some : goal.returns-in-Some
returns-in-Some c =
    let a = c.args in
    judging_finds c.loop-k.invariant c.loop-k-test.true c.requires.in_bounds.1
    (subst (λ r. Plays a.p.now c.loop-k.s (get_or a.turns.now c.loop-k.k 0) (c.loop-k.k + 1) c.loop-k.marks (Some r) c.play.new.s c.play.new.marks) c.in-Some.is
    c.in_ok-found.ensures)

pub loop-k-preserved : goal.loop-k-preserved
loop-k-preserved c =
    let a = c.args in
    judging_goes_on c.loop-k.invariant c.loop-k-test.true c.requires.in_bounds.1
    (subst (λ r. Plays a.p.now c.loop-k.s (get_or a.turns.now c.loop-k.k 0) (c.loop-k.k + 1) c.loop-k.marks (Some r) c.play.new.s c.play.new.marks) c.in_default.is
    c.in_ok-found.ensures)
    c.play.auto.s

pub returns : goal.returns
returns c = judging_ends c.loop-k.invariant (omega arith)

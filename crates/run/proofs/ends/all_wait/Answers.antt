-- The threads are asked one after the other; one that would not wait is one of all.
use mathlib.Core.Path.{refl}
use mathlib.Core.Bool.{true, false}
use native.Mathlib.Nat.{sub-zero}
use Rattle.std.proofs.Common.{rules, tests}
use Rattle.std.proofs.lemmas.Iterator.{YieldsList-from_range, cases_from_all}
use Rattle.turn.specs.Performed.{WouldWait}
use Rattle.run.proofs.EndLaws.{wait_asked}
use Rattle.run.proofs.ends.all_wait.Goals as goal

pub returns : goal.returns
returns c =
    let p = c.args.p.now in
    let s = c.args.s.now in
    let n = c.thread_count.result in
    wait_asked p s n c.all.result c.thread_count.ensures.sees
    (cases_from_all _ _ c.all.result (λ t. WouldWait p s t true) (λ t. WouldWait p s t false) c.all.ensures.ran (YieldsList-from_range 0 n n refl (sub-zero n))
    (λ t q k. search (rules, tests)) (λ t q k. search (rules, tests)))

-- The threads are asked one after the other; past the sixteenth there is none.
use mathlib.Core.Path.{refl}
use Rattle.std.proofs.Common.{rules, tests}
use Rattle.std.proofs.lemmas.Iterator.{YieldsList-from_range, cases_from_all}
use Rattle.run.proofs.EndLaws.{NoFrames, SomeFrames, finished_asked}
use Rattle.run.proofs.ends.all_finished.Goals as goal

pub returns : goal.returns
returns c =
    let s = c.args.s.now in
    finished_asked s c.all.result
    (cases_from_all _ _ c.all.result (NoFrames s) (SomeFrames s) c.all.ensures.ran (YieldsList-from_range 0 16 16 refl refl)
    (λ t q k. (search (rules, tests), search (rules, tests))) (λ t q k. search (rules, tests)))

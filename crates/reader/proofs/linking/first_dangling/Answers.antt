-- Before the line that is found none dangled, and linking goes on from there.
use mathlib.Core.Path.{refl}
use mathlib.Core.Bool.{true, false}
use native.Mathlib.Nat.{sub-zero}
use Rattle.std.proofs.Common.{rules, tests}
use Rattle.std.proofs.lemmas.Iterator.{YieldsList-from_range, first_from_find}
use Rattle.reader.specs.Linking.{LineDangles}
use Rattle.reader.proofs.Links.{first_found}
use Rattle.reader.proofs.linking.first_dangling.Goals as goal

pub returns-clause-first_dangling : goal.returns-clause-first_dangling
returns-clause-first_dangling c =
    let a = c.args in
    first_found a.t.now a.counts c.find.result
    (first_from_find _ _ c.find.result (λ n. LineDangles a.t.now a.counts.kinds a.counts.blocks n true) (λ n. LineDangles a.t.now a.counts.kinds a.counts.blocks n false)
    c.find.ensures.ran (YieldsList-from_range 0 a.counts.lines a.counts.lines refl (sub-zero a.counts.lines))
    (λ n q k. search (rules, tests)) (λ n q k. search (rules, tests)))

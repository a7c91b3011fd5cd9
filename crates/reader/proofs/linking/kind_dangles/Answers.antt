-- A kind has at most four methods, and each is asked for until one dangles.
use mathlib.Core.Path.{refl}
use mathlib.Core.Bool.{true, false}
use Rattle.std.proofs.Common.{rules, tests}
use Rattle.std.proofs.lemmas.Iterator.{YieldsList-from_range, cases_from_any}
use Rattle.reader.specs.Linking.{MethodDangles}
use Rattle.reader.proofs.Links.{kind_asked}
use Rattle.reader.proofs.linking.kind_dangles.Goals as goal

pub returns : goal.returns
returns c =
    let a = c.args in
    kind_asked a.t.now a.counts.blocks a.n c.any.result
    (cases_from_any _ _ c.any.result (λ i. MethodDangles a.t.now a.counts.blocks a.n i true) (λ i. MethodDangles a.t.now a.counts.blocks a.n i false)
    c.any.ensures.ran (YieldsList-from_range 0 4 4 refl refl) (λ i q k. search (rules, tests)) (λ i q k. search (rules, tests)))

-- `turn::copies::any_foreign_met` meets its contract: what the closure sees of each object is seen of the list.
use Rattle.std.proofs.Common.{◌%◌, true, false, rules, tests}
use Rattle.std.proofs.lemmas.Iterator.{YieldsList-from_slice, cases_from_any}
use Rattle.table.specs.StateTable.{Sees}
use Rattle.checks.specs.Checked.{Made}
use Rattle.checks.proofs.AnySeen.{SeenAs, any_seen}
use Rattle.turn.proofs.CopiesMade.{foreign_in, Placed, number_seen, met_seen}
use Rattle.turn.proofs.copies.any_foreign_met.Goals as goal

pub returns : goal.returns
returns c =
    let s = c.args.s.now in
    let t = c.args.t in
    met_seen t c.args.order.now
    (any_seen Placed (foreign_in t) 0 c.args.order.now c.any.result
    (cases_from_any _ _ c.any.result (SeenAs s Placed (foreign_in t) true) (SeenAs s Placed (foreign_in t) false) c.any.ensures.ran
    (YieldsList-from_slice c.args.order.now cc)
    (λ x q k. let seen : Sees s (Made (x.now % 256)) (λ S. foreign_in t S (x.now % 256)) true = search (rules, tests) in number_seen t x.now seen)
    (λ x q k. let seen : Sees s (Made (x.now % 256)) (λ S. foreign_in t S (x.now % 256)) false = search (rules, tests) in (search rules, number_seen t x.now seen))))

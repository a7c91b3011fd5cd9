-- `checks::items::any_above` meets its contract: what the closure sees of each value is seen of the list.
use Rattle.std.proofs.Common.{true, false, sym, subst, rules, tests}
use Rattle.std.proofs.lemmas.Iterator.{YieldsList-from_slice, cases_from_any}
use Rattle.std.proofs.lemmas.Iterator.Adapters.{serves_from_places}
use Rattle.rules.specs.declared.Value.TheVariants.{Absent}
use Rattle.rules.proofs.ListLaws.{every_at}
use Rattle.table.specs.StateTable.{InTable}
use Rattle.checks.specs.Checked.{InObjects}
use Rattle.checks.specs.NewItems.{above}
use Rattle.checks.proofs.AnySeen.{SeenAs, any_seen}
use Rattle.checks.proofs.items.any_above.Goals as goal

pub any-requires-clause-callable : goal.any-requires-clause-callable
any-requires-clause-callable c =
    serves_from_places (YieldsList-from_slice c.args.values.now cc) (λ x q k. search rules)
    (λ x k few is. let place : InTable x.now = subst InTable (sym is) (every_at InTable c.args.values.now k x.now few c.requires.1) in search rules)

pub returns : goal.returns
returns c =
    any_seen InObjects (λ S v. above c.args.k S v) Absent c.args.values.now c.any.result
    (cases_from_any _ _ c.any.result (SeenAs c.args.s.now InObjects (λ S v. above c.args.k S v) true) (SeenAs c.args.s.now InObjects (λ S v. above c.args.k S v) false) c.any.ensures.ran
    (YieldsList-from_slice c.args.values.now cc) (λ x q k. search (rules, tests)) (λ x q k. search (rules, tests)))

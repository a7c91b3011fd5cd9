-- `races::marks::over_fields` meets its contract: what is found on the first f fields is carried on.
use Rattle.std.proofs.Common.{refl, ◌∙◌}
use Rattle.races.specs.Marks.{over_fields}
use Rattle.races.proofs.MarkSteps.{fields_next}
use Rattle.races.proofs.marks.over_fields.Goals as goal

pub loop-f-init : goal.loop-f-init
unfolding over_fields
loop-f-init c = refl

pub loop-f-preserved : goal.loop-f-preserved
loop-f-preserved c =
    let a = c.args in
    fields_next a.swaps.now.last a.swaps.now.puts a.receives.now a.t a.n a.first c.loop-f.f c.loop-f.invariant
    (c.later-found.ensures ∙ rw (c.race_on.ensures, c.latest_on.ensures) refl)

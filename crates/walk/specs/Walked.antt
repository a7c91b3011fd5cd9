-- What a walk leaves of the objects met.
use Rattle.std.specs.Prelude.{◌≡◌}
use Rattle.walk.specs.declared.Met.{Met}
use Rattle.walk.specs.Walking.{Tally, tally}

abbrev pub tally_of : Met → Tally
tally_of m = tally m.places.now m.order.now m.count

-- it is the same lists that are lent
pub record SameLists (m m₁ : Met) : Type 0 where
  pub places : m₁.places.ghost_name ≡ m.places.ghost_name
  pub order : m₁.order.ghost_name ≡ m.order.ghost_name

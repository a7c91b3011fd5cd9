-- The walk that a copy and a reach report make: depth first, fields in order, each object once, as it is first met.
use Rattle.std.specs.Prelude.{ℕ, zero, suc, ◌+◌, Bool, true, false, List, [], ◌∷◌, ◌++◌, length}
use Rattle.rules.specs.declared.Value.{Value}
use Rattle.rules.specs.declared.Value.TheVariants.{Absent, Obj, Chan}
use Rattle.rules.specs.Lists.{among}
use Rattle.rules.specs.State.{Object, object_at}

-- From the numbers met, over the values to come, to all numbers met. `k` bounds the visits.
unfoldable mutual
  pub walk : (k : ℕ) → List Object → (met : List ℕ) → List Value → List ℕ
  walk zero os met vs = met
  walk (suc k) os met [] = met
  walk (suc k) os met (Absent ∷ vs) = walk k os met vs
  walk (suc k) os met (Chan c ∷ vs) = walk k os met vs
  walk (suc k) os met (Obj n ∷ vs) = visit k (among n met) os met n vs

  pub visit : (k : ℕ) → (is_met : Bool) → List Object → (met : List ℕ) → ℕ → List Value → List ℕ
  visit zero b os met n vs = met
  visit (suc k) true os met n vs = walk k os met vs
  visit (suc k) false os met n vs = walk k os (met ++ (n ∷ [])) ((object_at os n).fields ++ vs)

-- visits that suffice from v values: two for each value and each field
unfoldable pub visits : List Object → ℕ → ℕ
visits [] v = v + v + 1
visits (o ∷ os) v = length o.fields + length o.fields + visits os v

unfoldable pub met_from : List Object → List Value → List ℕ
met_from os vs = walk (visits os (length vs)) os [] vs

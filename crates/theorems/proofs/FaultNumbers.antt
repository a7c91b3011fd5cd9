-- A number tells its fault: so an answer that tells a number and a line tells the refusal.
use Rattle.std.specs.Prelude.{◌≡◌, ℕ, List, [], ◌∷◌, get_or}
use Rattle.std.proofs.Common.{refl, sym, ap, ◌∙◌}
use Rattle.rules.specs.declared.Ground.{Ground}
use Rattle.rules.specs.declared.Ground.TheVariants as G
use Rattle.rules.specs.declared.faults.Fault.{Fault}
use Rattle.rules.specs.declared.faults.Fault.TheVariants as F
use Rattle.rules.specs.Numbers.{number, permission, fault_on}

-- the faults in the order of their numbers, which begin at 1
abbrev faults : List Fault
faults = F.Overlong ∷ F.Overlong ∷ F.StrayByte ∷ F.Malformed ∷ F.OverCount ∷ F.Unbound ∷ F.SelfTaken ∷ F.Unfinished ∷ F.Dangling ∷ F.ShortTable ∷ F.Absent ∷ F.NoField ∷ F.NoMethod ∷ F.WrongThing ∷ F.Permission ∷ F.Cast ∷ F.UsedUp ∷ F.NoThread ∷ F.NoScript ∷ F.Alias ∷ F.Foreign ∷ F.NoObject ∷ []

abbrev with_number : ℕ → Fault
with_number n = get_or faults n F.Overlong

found : (f : Fault) → with_number (number f) ≡ f
found F.Overlong = refl
found F.StrayByte = refl
found F.Malformed = refl
found F.OverCount = refl
found F.Unbound = refl
found F.SelfTaken = refl
found F.Unfinished = refl
found F.Dangling = refl
found F.ShortTable = refl
found F.Absent = refl
found F.NoField = refl
found F.NoMethod = refl
found F.WrongThing = refl
found F.Permission = refl
found F.Cast = refl
found F.UsedUp = refl
found F.NoThread = refl
found F.NoScript = refl
found F.Alias = refl
found F.Foreign = refl
found F.NoObject = refl

pub number_tells_fault : (f g : Fault) → number f ≡ number g → f ≡ g
number_tells_fault f g same = sym (found f) ∙ ap with_number same ∙ found g

-- the number of the fault on a ground is the ground's
pub ground_has_its_number : (g : Ground) → number (fault_on g) ≡ permission g
ground_has_its_number G.Foreign = refl
ground_has_its_number G.Alias = refl
ground_has_its_number G.Other = refl

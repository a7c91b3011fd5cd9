-- An object is met before its fields are walked, so that the objects not yet met fall at each call.
use Rattle.std.proofs.Common.{take}
use Rattle.rules.specs.declared.Value.TheVariants.{Obj}
use Rattle.rules.specs.State.{object_at}
use Rattle.walk.specs.Walking.{unmet, Grows, Walks, Of}
use Rattle.walk.specs.Walked.{tally_of, SameLists}
use Rattle.walk.proofs.Met.+walk.Given as goal

abbrev pub decreases-walk : goal.decreases-walk
decreases-walk l = unmet 256 l.self.now.places.now

-- the fields before the j-th are walked
abbrev pub invariant-loop-j : goal.invariant-loop-j
invariant-loop-j l = record {
  walked : Walks l.s (tally_of l.initial.self) (Of (Obj l.o)) (λ S. take l.j (object_at S.objects l.o).fields) (tally_of l.self);
  grown : Grows (tally_of l.initial.self) (tally_of l.self);
  same_lists : SameLists l.initial.self l.self;
}

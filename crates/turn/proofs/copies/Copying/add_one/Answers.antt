-- `turn::copies::Copying::add_one` meets its contract: the kind and the renamed fields of the object are those of its copy, and each field is held.
use Rattle.turn.proofs.CopiesMade.{copy_made}
use Rattle.turn.proofs.copies.Copying.add_one.Goals as goal

pub returns : goal.returns
returns c =
    copy_made _ _ _ c.kind-kind.ensures.sees c.field-a.ensures.sees c.field-b.ensures.sees c.field-c.ensures.sees c.field-d.ensures.sees
    c.add_object.ensures c.hold_all.ensures

-- `checks::items::is_above` meets its contract: only an object has a capability, and it is read of the table.
use Rattle.checks.proofs.HeldChecks.{above_seen}
use Rattle.checks.proofs.items.is_above.Goals as goal

pub returns-in-Absent : goal.returns-in-Absent
returns-in-Absent c = record { sees = λ S rest held there. rw c.in-Absent.is }

pub returns-in-Chan : goal.returns-in-Chan
returns-in-Chan c = record { sees = λ S rest held there. rw c.in-Chan.is }

pub returns-in-Obj : goal.returns-in-Obj
returns-in-Obj c = above_seen _ c.in-Obj.is c.cap.ensures.sees c.may_hold.ensures

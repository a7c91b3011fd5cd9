-- `checks::items::is_foreign_value` meets its contract: only an object is local, and its answer is read of the table.
use Rattle.checks.proofs.HeldChecks.{foreign_seen}
use Rattle.checks.proofs.items.is_foreign_value.Goals as goal

pub returns-in-Absent : goal.returns-in-Absent
returns-in-Absent c = record { sees = λ S rest held there. rw c.in-Absent.is }

pub returns-in-Chan : goal.returns-in-Chan
returns-in-Chan c = record { sees = λ S rest held there. rw c.in-Chan.is }

pub returns-in-Obj : goal.returns-in-Obj
returns-in-Obj c = foreign_seen _ c.in-Obj.is c.is_foreign.ensures

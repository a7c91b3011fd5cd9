-- `checks::form_checks::is_iso_object` meets its contract: only an object has a capability, and it is read of the table.
use Rattle.std.proofs.Common.{◌∙◌}
use Rattle.rules.specs.Turn.{is_iso_object}
use Rattle.rules.proofs.Equal.{equals_iso}
use Rattle.checks.proofs.OperandChecks.{object_iso}
use Rattle.checks.proofs.form_checks.is_iso_object.Goals as goal

pub returns-in-Absent : goal.returns-in-Absent
unfolding is_iso_object
returns-in-Absent c = record { sees = λ S rest held there. rw c.in-Absent.is }

pub returns-in-Chan : goal.returns-in-Chan
unfolding is_iso_object
returns-in-Chan c = record { sees = λ S rest held there. rw c.in-Chan.is }

pub returns-in-Obj : goal.returns-in-Obj
returns-in-Obj c = object_iso _ _ _ _ _ c.in-Obj.is c.cap.ensures.sees (c.eq.ensures ∙ equals_iso _)

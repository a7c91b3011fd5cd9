-- `checks::form_checks::swap_permission` meets its contract: the grounds that it asks after are the rule's, read of both objects.
use Rattle.std.proofs.Common.{ap, ap₂, ◌∙◌}
use Rattle.rules.specs.Turn.{is_imm, may_hold}
use Rattle.rules.proofs.Equal.{equals_imm}
use Rattle.checks.proofs.ObjectChecks.{into_answered}
use Rattle.checks.proofs.form_checks.swap_permission.Goals as goal

pub returns : goal.returns
returns c = record {
  sees = λ S rest held made.
      let cap = c.cap-a.ensures.sees.sees S rest held made.0 in
      let value-cap = c.cap-b.ensures.sees.sees S rest held made.1 in
      let foreign = c.is_foreign_swap-foreign.ensures.sees S rest held made in
      into_answered _ _ _ _ foreign (c.eq.ensures ∙ equals_imm _ ∙ ap is_imm cap) (c.may_hold.ensures ∙ ap₂ may_hold cap value-cap)
      c.permission_check.ensures;
}

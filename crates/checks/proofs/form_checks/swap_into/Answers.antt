-- `checks::form_checks::swap_into` meets its contract: the value is an object, the field is there, and then the answer is the permission's.
use Rattle.std.proofs.Common.{sym, ap, ◌∙◌}
use Rattle.rules.specs.Turn.{is_absent}
use Rattle.checks.proofs.CheckLaws.{fault_handed, object_is}
use Rattle.checks.proofs.Equal.{equals_absent}
use Rattle.checks.proofs.Standing.{field_in}
use Rattle.checks.proofs.ObjectChecks.{into_no_object, into_missing, into_field}
use Rattle.checks.proofs.form_checks.swap_into.Goals as goal

pub returns-in_err-m : goal.returns-in_err-m
returns-in_err-m c =
    rw (fault_handed c.in_err-m.field-0.0 c.from_residual.result c.from_residual.ensures.1)
    (record { sees = λ S rest held asked. into_no_object _ _ _ _ c.args.v c.in_err-m.ensures })

pub returns-then-eq : goal.returns-then-eq
returns-then-eq c = record {
  sees = λ S rest held asked.
      let field = c.field.ensures.sees.sees S rest held (field_in _ _ asked.0) in
      rw (object_is c.in_ok-m.ensures)
      (into_missing _ _ _ _ _ asked.0.fields (ap is_absent (sym field) ∙ sym (equals_absent _) ∙ sym c.eq.ensures ∙ c.if-eq.true));
}

pub returns : goal.returns
returns c = record {
  sees = λ S rest held asked.
      let field = c.field.ensures.sees.sees S rest held (field_in _ _ asked.0) in
      let is = object_is c.in_ok-m.ensures in
      let permission = c.swap_permission.ensures.sees S rest held (asked.0.made, (rw is at asked).1) in
      rw is
      (permission ∙ into_field _ _ _ _ _ asked.0.fields (ap is_absent (sym field) ∙ sym (equals_absent _) ∙ sym c.eq.ensures ∙ c.if-eq.false));
}

-- The form that a few bytes tell is the only one that can fit, so what that form gives is the line; where the text is too short, none fits.
use Rattle.std.proofs.Common.{arith, sym, ap, ◌∙◌}
use Rattle.rules.specs.Forms.{form_number}
use Rattle.grammar.proofs.Fronts.{line_by_form, line_in_short, line_by_none}
use Rattle.grammar.proofs.WordForms.{a_thread, a_method, a_give, a_value, a_swap, a_call}
use Rattle.grammar.proofs.forms.line_at.Goals as goal

pub returns-then-s-lt9 : goal.returns-then-s-lt9
returns-then-s-lt9 c = line_in_short _ _ c.if-s-lt9.true

pub returns-in-NoForm : goal.returns-in-NoForm
returns-in-NoForm c = line_by_none c.args.s.now c.args.at (sym c.form_at.ensures ∙ ap form_number c.in-NoForm.is)

pub returns-in-Kind : goal.returns-in-Kind
returns-in-Kind c = line_by_form 0 c.args.s.now c.args.at _ (omega arith) (sym c.form_at.ensures ∙ ap form_number c.in-Kind.is) c.kind_at.ensures

pub returns-in-Thread : goal.returns-in-Thread
returns-in-Thread c = line_by_form 1 c.args.s.now c.args.at _ (omega arith) (sym c.form_at.ensures ∙ ap form_number c.in-Thread.is) (a_thread c.args.s.now c.args.at _ c.opener_at.ensures)

pub returns-in-Method : goal.returns-in-Method
returns-in-Method c = line_by_form 2 c.args.s.now c.args.at _ (omega arith) (sym c.form_at.ensures ∙ ap form_number c.in-Method.is) (a_method c.args.s.now c.args.at _ c.opener_at-in-Method.ensures)

pub returns-in-Give : goal.returns-in-Give
returns-in-Give c = line_by_form 3 c.args.s.now c.args.at _ (omega arith) (sym c.form_at.ensures ∙ ap form_number c.in-Give.is) (a_give c.args.s.now c.args.at _ c.operand_line.ensures)

pub returns-in-Value : goal.returns-in-Value
returns-in-Value c = line_by_form 4 c.args.s.now c.args.at _ (omega arith) (sym c.form_at.ensures ∙ ap form_number c.in-Value.is) (a_value c.args.s.now c.args.at _ c.operand_line-in-Value.ensures)

pub returns-in-Field : goal.returns-in-Field
returns-in-Field c = line_by_form 5 c.args.s.now c.args.at _ (omega arith) (sym c.form_at.ensures ∙ ap form_number c.in-Field.is) c.field_at.ensures

pub returns-in-Swap : goal.returns-in-Swap
returns-in-Swap c = line_by_form 6 c.args.s.now c.args.at _ (omega arith) (sym c.form_at.ensures ∙ ap form_number c.in-Swap.is) (a_swap c.args.s.now c.args.at _ c.place_line.ensures)

pub returns-in-Call : goal.returns-in-Call
returns-in-Call c = line_by_form 7 c.args.s.now c.args.at _ (omega arith) (sym c.form_at.ensures ∙ ap form_number c.in-Call.is) (a_call c.args.s.now c.args.at _ c.place_line-in-Call.ensures)

pub returns-in-New : goal.returns-in-New
returns-in-New c = line_by_form 8 c.args.s.now c.args.at _ (omega arith) (sym c.form_at.ensures ∙ ap form_number c.in-New.is) c.new_at.ensures

pub returns-in-Cast : goal.returns-in-Cast
returns-in-Cast c = line_by_form 9 c.args.s.now c.args.at _ (omega arith) (sym c.form_at.ensures ∙ ap form_number c.in-Cast.is) c.cast_at.ensures

pub returns-in-Spawn : goal.returns-in-Spawn
returns-in-Spawn c = line_by_form 10 c.args.s.now c.args.at _ (omega arith) (sym c.form_at.ensures ∙ ap form_number c.in-Spawn.is) c.spawn_at.ensures

pub returns-in-Send : goal.returns-in-Send
returns-in-Send c = line_by_form 11 c.args.s.now c.args.at _ (omega arith) (sym c.form_at.ensures ∙ ap form_number c.in-Send.is) c.send_at.ensures

pub returns-in-Recv : goal.returns-in-Recv
returns-in-Recv c = line_by_form 12 c.args.s.now c.args.at _ (omega arith) (sym c.form_at.ensures ∙ ap form_number c.in-Recv.is) c.recv_at.ensures

pub returns-in-Copy : goal.returns-in-Copy
returns-in-Copy c = line_by_form 13 c.args.s.now c.args.at _ (omega arith) (sym c.form_at.ensures ∙ ap form_number c.in-Copy.is) c.copy_at.ensures

-- `writer::script_lines::put_form` meets its contract: each form has its own text, and no form has none.
use Rattle.std.proofs.Common.{ℕ, arith, refl, get_or, rules}
use Rattle.buffer.proofs.Outputs.{nothing, same_text}
use Rattle.rules.specs.Templates.{print, show}
use Rattle.writer.specs.Lines.{form_text}
use Rattle.writer.proofs.Texts.{new_text}
use Rattle.writer.proofs.script_lines.put_form.Goals as goal

pub returns-in-Kind : goal.returns-in-Kind
unfolding form_text show print
returns-in-Kind c = rw c.in-Kind.is (same_text 77 refl (omega arith) c.put_kind.ensures)

pub returns-in-Thread : goal.returns-in-Thread
unfolding form_text show print
returns-in-Thread c = rw c.in-Thread.is (same_text 77 refl (omega arith) c.put_text.ensures)

pub returns-in-Method : goal.returns-in-Method
unfolding form_text show print
returns-in-Method c = rw c.in-Method.is (same_text 77 refl (omega arith) c.put_text-in-Method.ensures)

pub returns-in-Give : goal.returns-in-Give
unfolding form_text show print
returns-in-Give c = rw c.in-Give.is (same_text 77 refl (omega arith) c.put_value.ensures)

pub returns-in-Value : goal.returns-in-Value
unfolding form_text show print
returns-in-Value c = rw c.in-Value.is (same_text 77 refl (omega arith) c.put_value-in-Value.ensures)

pub returns-in-Field : goal.returns-in-Field
unfolding form_text show print
returns-in-Field c = rw c.in-Field.is (same_text 77 refl (omega arith) c.put_field.ensures)

pub returns-in-Swap : goal.returns-in-Swap
unfolding form_text show print
returns-in-Swap c = rw c.in-Swap.is (same_text 77 refl (omega arith) c.put_place.ensures)

pub returns-in-Call : goal.returns-in-Call
unfolding form_text show print
returns-in-Call c = rw c.in-Call.is (same_text 77 refl (omega arith) c.put_place-in-Call.ensures)

pub returns-in-New : goal.returns-in-New
unfolding form_text show print
returns-in-New c =
    let p = λ (k : ℕ). get_or c.args.parts k 0 in
    rw c.in-New.is (same_text 77 (new_text (p 0) (p 1) (p 2) (p 3) (p 4) (p 5)) (omega arith) c.put_new.ensures)

pub returns-in-Cast : goal.returns-in-Cast
unfolding form_text show print
returns-in-Cast c = rw c.in-Cast.is (same_text 77 refl (omega arith) c.put_cast.ensures)

pub returns-in-Spawn : goal.returns-in-Spawn
unfolding form_text show print
returns-in-Spawn c = rw c.in-Spawn.is (same_text 77 refl (omega arith) c.put_one.ensures)

pub returns-in-Send : goal.returns-in-Send
unfolding form_text show print
returns-in-Send c = rw c.in-Send.is (same_text 77 refl (omega arith) c.put_send.ensures)

pub returns-in-Recv : goal.returns-in-Recv
unfolding form_text show print
returns-in-Recv c = rw c.in-Recv.is (same_text 77 refl (omega arith) c.put_one-in-Recv.ensures)

pub returns-in-Copy : goal.returns-in-Copy
unfolding form_text show print
returns-in-Copy c = rw c.in-Copy.is (same_text 77 refl (omega arith) c.put_copy.ensures)

pub returns-in-NoForm : goal.returns-in-NoForm
unfolding form_text
returns-in-NoForm c = rw c.in-NoForm.is (nothing 77 (search rules))

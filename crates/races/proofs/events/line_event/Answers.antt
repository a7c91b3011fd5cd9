-- `races::events::line_event` meets its contract: the words of the row tell the line, and each slot that it names is filled; a line of any other form is quiet.
use Rattle.std.proofs.Common.{arith, rules, [], ◌∷◌}
use Rattle.rules.specs.declared.forms.Form.TheVariants.{Field, Swap, Send, Recv, Copy}
use Rattle.rules.specs.declared.Event.TheVariants.{Reads, Swaps, Receives, Copies}
use Rattle.rules.proofs.FormNumbers.{number_told, all_but, not_told}
use Rattle.races.proofs.EventLines.{object_told, field_tells, swap_tells, send_tells, recv_tells, copy_tells, others_quiet}
use Rattle.races.proofs.events.line_event.Goals as goal

pub returns-in-Field-clause-line_tells : goal.returns-in-Field-clause-line_tells
returns-in-Field-clause-line_tells c =
    field_tells c.part.ensures c.part-a.ensures c.part-b.ensures (number_told c.from-form.ensures c.in-Field.is (omega arith)) c.slot.ensures.sees
    (object_told c.slot.result (λ m. Reads m c.part-b.result) (λ n d told. search rules) c.on_object.ensures)

pub returns-in-Swap-clause-line_tells : goal.returns-in-Swap-clause-line_tells
returns-in-Swap-clause-line_tells c =
    swap_tells c.part.ensures c.part-a.ensures c.part-b.ensures (number_told c.from-form.ensures c.in-Swap.is (omega arith)) c.slot-in-Swap.ensures.sees
    (object_told c.slot-in-Swap.result (λ m. Swaps m c.part-b.result) (λ n d told. search rules) c.on_object-in-Swap.ensures)

pub returns-in-Send-clause-line_tells : goal.returns-in-Send-clause-line_tells
returns-in-Send-clause-line_tells c =
    send_tells c.part.ensures c.part-a.ensures c.part-b.ensures (number_told c.from-form.ensures c.in-Send.is (omega arith)) c.put_event.ensures.sees

pub returns-in-Recv-clause-line_tells : goal.returns-in-Recv-clause-line_tells
returns-in-Recv-clause-line_tells c =
    recv_tells c.part.ensures c.part-a.ensures (number_told c.from-form.ensures c.in-Recv.is (omega arith)) c.slot-in-Recv.ensures.sees c.message_in.ensures.sees
    (object_told c.message_in.result Receives (λ n d told. search rules) c.on_object-in-Recv.ensures)

pub returns-in-Copy-clause-line_tells : goal.returns-in-Copy-clause-line_tells
returns-in-Copy-clause-line_tells c =
    copy_tells c.part.ensures c.part-a.ensures c.part-b.ensures (number_told c.from-form.ensures c.in-Copy.is (omega arith)) c.slot-in-Copy.ensures.sees
    (object_told c.slot-in-Copy.result Copies (λ n d told. search rules) c.on_object-in-Copy.ensures)

pub returns-in-NoForm : goal.returns-in-NoForm
returns-in-NoForm c =
    let ks = all_but (Field ∷ Swap ∷ Send ∷ Recv ∷ Copy ∷ []) in
    record {
      object_below = tt;
      line_tells = others_quiet c.part.ensures (not_told ks c.from-form.ensures c.in-NoForm.is tt) (not_told ks c.from-form.ensures c.in-NoForm.is tt)
          (not_told ks c.from-form.ensures c.in-NoForm.is tt) (not_told ks c.from-form.ensures c.in-NoForm.is tt) (not_told ks c.from-form.ensures c.in-NoForm.is tt);
    }

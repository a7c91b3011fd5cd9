-- `reach::sending::in_flight` meets its contract: the thread has no frame, or stands at no send, or its send's target is no channel; else the channel tells.
use Rattle.std.proofs.Common.{arith, subst, [], ◌∷◌, ⊎_elim}
use Rattle.rules.specs.declared.forms.Form.TheVariants.{Send}
use Rattle.rules.proofs.FormNumbers.{number_told, all_but, not_told}
use Rattle.table.specs.StateTable.{InTable}
use Rattle.turn.proofs.Located.{locates}
use Rattle.reach.proofs.Sent.{finished_put, at_no_send, target_absent, target_object, target_channel}
use Rattle.reach.proofs.sending.in_flight.Goals as goal

pub returns-then-n-eq0 : goal.returns-then-n-eq0
returns-then-n-eq0 c = record { in_table = tt; sees_in_flight = finished_put c.frame_count-n.ensures.sees c.if-n-eq0.true }

pub message_for-requires : goal.message_for-requires
message_for-requires c =
    (c.requires.1, subst InTable c.in-Chan.is c.slot-x.ensures.value.1)

pub returns-in-Absent : goal.returns-in-Absent
returns-in-Absent c =
    let is-send = number_told c.from-form.ensures c.in-Send.is (omega arith) in
    let place = locates c.frame_count-n.ensures.sees c.if-n-eq0.false c.locate-h.ensures.thread c.locate-h.ensures.stands in
    record {
      in_table = tt;
      sees_in_flight = ⊎_elim
          (target_absent place c.locate-h.ensures.thread c.part.ensures c.part-in-Send.ensures is-send c.slot-x.ensures.sees)
          (λ o. target_object place c.locate-h.ensures.thread c.part.ensures c.part-in-Send.ensures is-send c.slot-x.ensures.sees o.1)
          c.in-Absent.is;
    }

pub returns-in-Chan : goal.returns-in-Chan
returns-in-Chan c =
    let is-send = number_told c.from-form.ensures c.in-Send.is (omega arith) in
    let place = locates c.frame_count-n.ensures.sees c.if-n-eq0.false c.locate-h.ensures.thread c.locate-h.ensures.stands in
    record {
      in_table = c.message_for.ensures.in_table;
      sees_in_flight = target_channel place c.locate-h.ensures.thread c.part.ensures c.part-in-Send.ensures is-send c.slot-x.ensures.sees
          c.in-Chan.is c.sender.ensures.sees c.message_for.ensures.sees;
    }

pub returns-in-NoForm : goal.returns-in-NoForm
returns-in-NoForm c =
    let no-send = not_told (all_but (Send ∷ [])) c.from-form.ensures c.in-NoForm.is tt in
    let place = locates c.frame_count-n.ensures.sees c.if-n-eq0.false c.locate-h.ensures.thread c.locate-h.ensures.stands in
    record { in_table = tt; sees_in_flight = at_no_send place c.locate-h.ensures.thread c.part.ensures no-send }

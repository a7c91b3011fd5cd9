-- `turn::turns::perform` meets its contract: the words at the thread's place tell its line, which is the one that is called; no line of a block has
-- another form.
use native.Mathlib.Omega.{arith}
use mathlib.Core.Path.{ap}
use mathlib.Core.Logic.{inl, inr}
use Rattle.rules.proofs.FormNumbers.{place, number_told}
use Rattle.turn.proofs.Dispatch.{tells_give, tells_value, tells_field, tells_swap, tells_call, tells_cast, tells_spawn, tells_send, tells_recv, performs_loaded, performs_here, performs_new, no_such_line}
use Rattle.turn.proofs.turns.perform.Goals as goal

pub returns-in-Give : goal.returns-in-Give
returns-in-Give c =
    performs_here
    (tells_give c.part.ensures c.part-in-Give.ensures (number_told c.from-form.ensures c.in-Give.is (omega arith)))
    c.give_line.ensures

pub returns-in-Value : goal.returns-in-Value
returns-in-Value c =
    performs_here
    (tells_value c.part.ensures c.part-in-Value.ensures (number_told c.from-form.ensures c.in-Value.is (omega arith)))
    c.value_line.ensures

pub returns-in-Field : goal.returns-in-Field
returns-in-Field c =
    performs_here
    (tells_field c.part.ensures c.part-in-Field.ensures c.part-in-Field-2.ensures (number_told c.from-form.ensures c.in-Field.is (omega arith)))
    c.field_line.ensures

pub returns-in-Swap : goal.returns-in-Swap
returns-in-Swap c =
    performs_here
    (tells_swap c.part.ensures c.part-in-Swap.ensures c.part-in-Swap-2.ensures c.part-in-Swap-3.ensures (number_told c.from-form.ensures c.in-Swap.is (omega arith)))
    c.swap_line.ensures

pub returns-in-Call : goal.returns-in-Call
returns-in-Call c =
    performs_loaded (λ P S loaded. loaded)
    (tells_call c.part.ensures c.part-in-Call.ensures c.part-in-Call-2.ensures c.part-in-Call-3.ensures (number_told c.from-form.ensures c.in-Call.is (omega arith)))
    c.call_line.ensures

pub returns-in-New : goal.returns-in-New
returns-in-New c =
    performs_new c.part.ensures c.part-in-New.ensures
    c.part-in-New-2.ensures c.from.ensures
    c.part-in-New-3.ensures c.part-in-New-4.ensures c.part-in-New-5.ensures c.part-in-New-6.ensures
    (number_told c.from-form.ensures c.in-New.is (omega arith)) c.new_line.ensures

pub returns-in-Cast : goal.returns-in-Cast
returns-in-Cast c =
    performs_here
    (tells_cast c.part.ensures c.part-in-Cast.ensures c.part-in-Cast-2.ensures c.from-in-Cast.ensures (number_told c.from-form.ensures c.in-Cast.is (omega arith)))
    c.cast_line.ensures

pub returns-in-Spawn : goal.returns-in-Spawn
returns-in-Spawn c =
    performs_here
    (tells_spawn c.part.ensures c.part-in-Spawn.ensures (number_told c.from-form.ensures c.in-Spawn.is (omega arith)))
    c.spawn_line.ensures

pub returns-in-Send : goal.returns-in-Send
returns-in-Send c =
    performs_here
    (tells_send c.part.ensures c.part-in-Send.ensures c.part-in-Send-2.ensures (number_told c.from-form.ensures c.in-Send.is (omega arith)))
    c.send_line.ensures

pub returns-in-Recv : goal.returns-in-Recv
returns-in-Recv c =
    performs_here
    (tells_recv c.part.ensures c.part-in-Recv.ensures (number_told c.from-form.ensures c.in-Recv.is (omega arith)))
    c.recv_line.ensures

pub returns-in-Copy : goal.returns-in-Copy
returns-in-Copy c = c.perform_copy.ensures

pub returns-in-NoForm : goal.returns-in-NoForm
returns-in-NoForm c = no_such_line c.part.ensures c.from-form.ensures
    (elim c.in-NoForm.is [ inl a ↦ inl (ap place a) | inr b ↦ inr (elim b [ inl a ↦ inl (ap place a) | inr d ↦ inr (elim d [ inl a ↦ inl (ap place a) | inr e ↦ inr (ap place e) ]) ]) ])

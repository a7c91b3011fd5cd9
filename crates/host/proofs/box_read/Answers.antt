-- `host::box_read` meets its contract: what was read into the box's own table is stored, and a refusal stores nothing.
use Rattle.std.proofs.Common.{rules}
use Rattle.host.proofs.Crossing.{read_refused, read_room, read_done}
use Rattle.host.proofs.box_read.Goals as goal

pub store_used-requires : goal.store_used-requires
store_used-requires c =
    let a = c.args in
    (search rules, c.used_words.ensures.value.1, read_room a.text.now a.program.now c.make.ensures c.in-Ok.is)

pub returns-in-Err : goal.returns-in-Err
returns-in-Err c =
    let a = c.args in
    rw c.number.ensures (read_refused a.text.now a.program.now c.make.ensures c.in-Err.is)

pub returns-in-Ok : goal.returns-in-Ok
returns-in-Ok c =
    let a = c.args in
    read_done a.text.now a.program.now c.make.ensures c.in-Ok.is c.used_words.result c.used_words.ensures.used_words c.store_used.ensures

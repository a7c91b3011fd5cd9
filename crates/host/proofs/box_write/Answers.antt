-- `host::box_write` meets its contract: 9 comes first, then what the writer answers of the table's words, which are loaded from its bytes.
use Rattle.std.proofs.Common.{Ok, Err}
use Rattle.host.proofs.Crossing.{write_early, write_done}
use Rattle.host.proofs.box_write.Goals as goal

pub returns-then-program-lt-TABLE : goal.returns-then-program-lt-TABLE
returns-then-program-lt-TABLE c =
    let a = c.args in
    rw c.number.ensures (write_early a.program.now a.script.now c.if-program-lt-TABLE.true)

pub returns-in-Err : goal.returns-in-Err
returns-in-Err c =
    let a = c.args in
    rw c.number-in-Err.ensures (write_done a.program.now a.script.now _ _ (Err c.in-Err.fault) c.if-program-lt-TABLE.false c.load.ensures c.in-Err.is c.write.ensures)

pub returns-in-Ok : goal.returns-in-Ok
returns-in-Ok c =
    let a = c.args in
    write_done a.program.now a.script.now _ _ (Ok c.in-Ok.n) c.if-program-lt-TABLE.false c.load.ensures c.in-Ok.is c.write.ensures

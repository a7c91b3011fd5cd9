-- `table::state::pack` meets its contract: each arm is the definition's own; what has a place in the table has a word.
use Rattle.table.proofs.state.pack.Goals as goal

pub returns-in-Obj : goal.returns-in-Obj
returns-in-Obj c = rw c.in-Obj.is

pub returns-in-Chan : goal.returns-in-Chan
returns-in-Chan c = rw c.in-Chan.is

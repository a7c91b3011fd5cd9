-- `table::state::recount` meets its contract: only an object has a count, and its word is d more, modulo 65,536.
use Rattle.table.proofs.HolderCounts.{nothing_counted, object_counted, counts_by}
use Rattle.table.proofs.state.recount.Goals as goal

pub returns-in-Obj : goal.returns-in-Obj
returns-in-Obj c =
    let written = object_counted c.args.d c.in-Obj.n c.args.s.now c.in-Obj.is in
    record { s_after = written; counts = counts_by _ _ c.requires.1 written }

pub returns-in_default : goal.returns-in_default
returns-in_default c =
    let kept = nothing_counted c.args.d c.args.v c.args.s.now c.in_default.not-Obj in
    record { s_after = kept; counts = counts_by _ _ c.requires.1 kept }

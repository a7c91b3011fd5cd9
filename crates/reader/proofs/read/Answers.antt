-- What was made in a fresh table is copied, and a refusal copies nothing.
use Rattle.std.proofs.lemmas.Result.{err_from_is_err_and}
use Rattle.reader.proofs.Outcome.{read_away, read_room, read_done}
use Rattle.reader.proofs.read.Goals as goal

pub copy_table-requires : goal.copy_table-requires
copy_table-requires c = read_room c.args.text.now c.args.table.now c.make.ensures c.in_ok-make.was

pub returns-in_err-make : goal.returns-in_err-make
returns-in_err-make c =
    let away = read_away c.args.text.now c.args.table.now c.make.ensures c.in_err-make.was in
    let same = err_from_is_err_and c.from_residual.result c.from_residual.ensures.1 in
    record { value = rw (same.1, same.2) away.0; table_after = away.1 }

pub returns : goal.returns
returns c = let done = read_done c.args.text.now c.args.table.now c.make.ensures c.in_ok-make.was c.copy_table.ensures in record { value = done.0; table_after = done.1 }

-- `host::make` meets its contract: both tables of a run that was made are stored, and a refusal stores nothing.
use Rattle.std.proofs.Common.{arith, ap, length}
use Rattle.std.proofs.lemmas.Result.{err_from_is_err_and}
use Rattle.table.proofs.ProgramTable.{fresh_length}
use Rattle.host.proofs.Crossing.{stores_none, store_room, stores_both}
use Rattle.host.proofs.make.Goals as goal

pub returns-in_err-outcome : goal.returns-in_err-outcome
returns-in_err-outcome c =
    let a = c.args in
    let away = err_from_is_err_and c.from_residual.result c.from_residual.ensures.1 in
    rw (away.1, away.2) (stores_none a.text.now a.turns.now a.program.now a.state.now a.short c.requires.0 c.requires.1 c.make.ensures c.in_err-outcome.was)

pub used_words-requires : goal.used_words-requires
used_words-requires c = omega (arith, ap length c.requires.0, fresh_length)

pub store_used-requires : goal.store_used-requires
store_used-requires c =
    let a = c.args in
    (omega (arith, ap length c.requires.0, ap length c.requires.1, fresh_length, c.used_words.ensures.value.1), c.used_words.ensures.value.1, (store_room a.text.now a.turns.now a.program.now a.state.now a.short c.requires.0 c.requires.1 c.make.ensures c.in_ok-outcome.was).0)

pub store-requires : goal.store-requires
store-requires c =
    let a = c.args in
    (store_room a.text.now a.turns.now a.program.now a.state.now a.short c.requires.0 c.requires.1 c.make.ensures c.in_ok-outcome.was).1

pub returns : goal.returns
returns c =
    let a = c.args in
    stores_both a.text.now a.turns.now a.program.now a.state.now a.short c.requires.0 c.requires.1 c.make.ensures c.in_ok-outcome.was c.used_words.result
    c.used_words.ensures.used_words c.store_used.ensures c.store.ensures

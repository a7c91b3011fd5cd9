-- `host::store_used` meets its contract: the words are stored, and the bytes behind them are filled with zeros.
use Rattle.host.proofs.Stored.{used_stored}
use Rattle.host.proofs.store_used.Goals as goal

pub returns : goal.returns
returns c =
    let a = c.args in
    used_stored a.words.now a.t.now a.n c.requires.0 c.requires.1 c.requires.2 c.store.ensures (c.fill.ensures.after (λ y e. e))

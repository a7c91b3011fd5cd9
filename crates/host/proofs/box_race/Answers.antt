-- `host::box_race` meets its contract: what is found is told by its numbers.
use Rattle.host.proofs.RacesCross.{has_raced}
use Rattle.host.proofs.box_race.Goals as goal

pub returns : goal.returns
returns c =
    let a = c.args in
    has_raced a.text.now a.turns.now a.program.now a.state.now c.find_race-found.ensures c.tell_race.ensures

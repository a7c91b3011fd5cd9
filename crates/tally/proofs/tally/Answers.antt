-- The turns up to the stop, and then those after it.
use native.Mathlib.Omega.{arith}
use mathlib.Core.Path.{refl}
use Rattle.tally.proofs.CountLaws.{tallied}
use Rattle.tally.specs.Fates.{none_counted}
use Rattle.tally.proofs.tally.Goals as goal

pub count_played-played-requires : goal.count_played-played-requires
unfolding none_counted
count_played-played-requires c =
    (c.requires.0, omega (arith, c.requires.1, c.start_state.auto.s), c.requires.2, refl)

pub returns : goal.returns
returns c =
    tallied c.start_state.ensures.starts c.count_played-played.ensures c.count_unplayed.ensures

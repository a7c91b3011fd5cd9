-- Every case of an order or a reading comes out as stated, computed as the starred ones are.
use mathlib.Core.Path.{refl}
use Rattle.theorems.specs.Cases.{AllHold}
use Rattle.theorems.specs.Readings.{refusals, cases, grounds, editions, foreign_within, copies, copy_within, ForeignBeforeRoom, reached_in, AllReached, echo, reports, drawn_from, drawn_script, DrawsExample, race_in, AllRace, shared, shared_turns, shared_by_three, three_turns, copied_shared, copied_turns, pairs}
use Rattle.theorems.proofs.Computing.{reaches_objects, draws_objects, tells_races}
use Rattle.theorems.proofs.Cases.{computed}

every_refusal : AllHold refusals
unfolding refusals computed
every_refusal = refl

every_case : AllHold cases
unfolding cases computed
every_case = refl

every_ground : AllHold grounds
unfolding grounds computed
every_ground = refl

every_edition : AllHold editions
unfolding editions computed
every_edition = refl

every_copy : AllHold copies
unfolding foreign_within copies computed
every_copy = refl

every_room : ForeignBeforeRoom
unfolding copy_within computed
every_room = (refl, refl)

every_report : AllReached reports
unfolding echo reports reached_in computed reaches_objects
every_report = refl

every_drawing : DrawsExample
unfolding drawn_script drawn_from computed draws_objects
every_drawing = refl

every_pair : AllRace pairs
unfolding race_in shared shared_turns shared_by_three three_turns copied_shared copied_turns pairs computed tells_races
every_pair = refl

-- The numbers read so far are stored, and put before what the list still gives at the place reached they are the whole list. The measure is what
-- is left of the input: the loop goes on at a space only, which lies inside the input, and each number ends past it.
use native.Mathlib.Omega.{arith}
use mathlib.Core.Path.{refl, ◌∙◌}
use lib.ListN.{length-set}
use Rattle.replay.proofs.TurnsLine.{none_stored, room_left, number_stored, none_fits, all_stored}
use Rattle.replay.proofs.turns_line.store_numbers.Goals as goal

pub loop-l-init : goal.loop-l-init
loop-l-init c = (none_stored refl refl refl c.requires.1, refl)

pub returns-in_err-w-clause-numbers_stored : goal.returns-in_err-w-clause-numbers_stored
returns-in_err-w-clause-numbers_stored c =
    rw c.from_residual.ensures (none_fits c.loop-l.invariant.0 c.byte.ensures c.loop-l-test.true (c.in_err-w.ensures.s_value))

pub loop-l-preserved-then-l : goal.loop-l-preserved-then-l
loop-l-preserved-then-l c =
    let room = room_left c.loop-l.invariant.0 c.byte.ensures c.loop-l-test.true c.requires.0 in (
      number_stored c.loop-l.invariant.0 c.byte.ensures c.loop-l-test.true c.in_ok-w.ensures.s_value c.requires.0 c.in_ok-w.ensures.word_bound.2
          (omega (arith, room, c.loop-l.invariant.1, c.requires.2)) refl refl (rw c.if-l.true) refl,
      length-set c.loop-l.turns _ _ ∙ c.loop-l.invariant.1,
    )

pub loop-l-preserved : goal.loop-l-preserved
loop-l-preserved c =
    let room = room_left c.loop-l.invariant.0 c.byte.ensures c.loop-l-test.true c.requires.0 in (
      number_stored c.loop-l.invariant.0 c.byte.ensures c.loop-l-test.true c.in_ok-w.ensures.s_value c.requires.0 c.in_ok-w.ensures.word_bound.2
          (omega (arith, room, c.loop-l.invariant.1, c.requires.2)) refl refl (rw (c.if-l.false, c.over.ensures)) refl,
      length-set c.loop-l.turns _ _ ∙ c.loop-l.invariant.1,
    )

pub returns-clause-numbers_stored : goal.returns-clause-numbers_stored
returns-clause-numbers_stored c = all_stored c.loop-l.invariant.0 c.byte.ensures c.loop-l-test.false

-- Before each turn the run so far is the rule's; where a thread's place is kept, it is the one where the thread stands. Each way through the body takes one turn.
use mathlib.Core.Path.{refl, sym, ap, ◌∙◌}
use Rattle.std.specs.Prelude.{Ok, Err}
use Rattle.run.proofs.TurnByTurn.{at_start, at_end, looked, same_playing, turn_idles, no_turn, turn_goes_next, turn_stays, turn_leaves_frame, turn_waits, turn_stops, turn_at_copy}
use Rattle.run.proofs.playing.play_from.Goals as goal
use Rattle.run.proofs.playing.play_from.Goals.{then-t-lt16+in-Some+else-part-number+in-Ok-Next, then-t-lt16+in-Some+else-part-number+in-Ok-Stay, then-t-lt16+in-Some+else-part-number+in-Ok-Turned, then-t-lt16+in-Some+else-part-number+in-Err-Waits, then-t-lt16+in_default, else-t-lt16}

pub loop-i-init : goal.loop-i-init
loop-i-init c = at_start _ _ _ c.requires.3

pub returns-then-part-number : goal.returns-then-part-number
returns-then-part-number c =
    let look = looked c.loop-i.invariant c.look_up.ensures in
    turn_at_copy look.playing c.loop-i-test.true refl c.requires.2 (look.is ∙ c.in-Some.is) (sym c.part.ensures ∙ c.if-part-number.true ∙ c.number.ensures)

pub returns-in-Err-Stops : goal.returns-in-Err-Stops
returns-in-Err-Stops c =
    let look = looked c.loop-i.invariant c.look_up.ensures in
    turn_stops look.playing c.loop-i-test.true refl c.requires.2 (look.is ∙ c.in-Some.is) (c.in-Err-Stops.is ∙ ap Err c.in-Err-Stops.field-0-is) c.perform.ensures c.stop_at.ensures

pub loop-i-preserved : goal.loop-i-preserved
loop-i-preserved c =
    elim c.if-t-lt16.branch [
      | then-t-lt16+in-Some+else-part-number+in-Ok-Next w ↦
          let look = looked c.loop-i.invariant w.look_up.ensures in
          same_playing w.s-is w.places-is w.moves-is
          (turn_goes_next look.playing c.loop-i-test.true refl c.requires.2 (look.is ∙ w.in-Some.is) w.next_line.result (w.in-Ok-Next.is ∙ ap Ok w.in-Ok-Next.field-0-is)
          w.perform.ensures w.perform.auto.s w.next_line.ensures.0 w.next_line.ensures.1 w.next_line.ensures.2)
      | then-t-lt16+in-Some+else-part-number+in-Ok-Stay w ↦
          let look = looked c.loop-i.invariant w.look_up.ensures in
          same_playing w.s-is w.places-is w.moves-is
          (turn_stays look.playing c.loop-i-test.true refl c.requires.2 (look.is ∙ w.in-Some.is) (w.in-Ok-Stay.is ∙ ap Ok w.in-Ok-Stay.field-0-is) w.perform.ensures w.perform.auto.s)
      | then-t-lt16+in-Some+else-part-number+in-Ok-Turned w ↦
          let look = looked c.loop-i.invariant w.look_up.ensures in
          same_playing w.s-is w.places-is w.moves-is
          (turn_leaves_frame look.playing c.loop-i-test.true refl c.requires.2 (look.is ∙ w.in-Some.is) (w.in-Ok-Turned.is ∙ ap Ok w.in-Ok-Turned.field-0-is) w.perform.ensures w.perform.auto.s)
      | then-t-lt16+in-Some+else-part-number+in-Err-Waits w ↦
          let look = looked c.loop-i.invariant w.look_up.ensures in
          same_playing w.s-is w.places-is w.moves-is
          (turn_waits look.playing c.loop-i-test.true refl c.requires.2 (look.is ∙ w.in-Some.is) (w.in-Err-Waits.is ∙ ap Err w.in-Err-Waits.field-0-is) w.perform.ensures w.perform.auto.s)
      | then-t-lt16+in_default w ↦
          same_playing w.s-is w.places-is w.moves-is (turn_idles (looked c.loop-i.invariant w.look_up.ensures) c.loop-i-test.true refl w.in_default.is)
      | else-t-lt16 w ↦ same_playing w.s-is w.places-is w.moves-is (no_turn c.loop-i.invariant c.loop-i-test.true refl w.if-t-lt16.false)
    ]

pub returns : goal.returns
returns c = at_end c.loop-i.invariant c.loop-i-test.false

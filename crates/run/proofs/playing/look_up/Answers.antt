-- A place that is kept is where its thread stands; another is looked for by the thread's frames.
use Rattle.run.proofs.TurnByTurn.{looks_found, looks_idle, looks_kept}
use Rattle.run.proofs.playing.look_up.Goals as goal
use Rattle.run.proofs.playing.look_up.Goals.{then-is_none+then-d-ne0, then-is_none+else-d-ne0, else-is_none}

pub returns : goal.returns
returns c =
    let few = c.requires.3 in
    let read = c.index-places-t-2.is in
    elim c.if-is_none.branch [
      | then-is_none+then-d-ne0 w ↦ looks_found few read w.if-d-ne0.true w.frame_count-d.ensures.sees w.locate.ensures.thread w.locate.ensures.stands w.places-is
      | then-is_none+else-d-ne0 w ↦ looks_idle few read w.places-is c.index-places-t.result c.is_none.ensures w.if-is_none.true w.frame_count-d.ensures.sees w.if-d-ne0.false
      | else-is_none w ↦ looks_kept few read w.places-is c.index-places-t.result c.is_none.ensures w.if-is_none.false
    ]

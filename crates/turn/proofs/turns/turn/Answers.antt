-- `turn::turns::turn` meets its contract: a thread without a frame idles; any other performs the line where it stands.
use Rattle.turn.proofs.Located.{past_idles, frameless_idles, locates, idle_takes, found_takes}
use Rattle.turn.proofs.turns.turn.Goals as goal

pub returns-then-t-ge16 : goal.returns-then-t-ge16
returns-then-t-ge16 c = idle_takes (past_idles c.if-t-ge16.true)

pub returns-then-d-eq0 : goal.returns-then-d-eq0
returns-then-d-eq0 c = idle_takes (frameless_idles c.frame_count-d.ensures.sees c.if-d-eq0.true)

pub returns : goal.returns
returns c =
    found_takes (locates c.frame_count-d.ensures.sees c.if-d-eq0.false c.locate-h.ensures.thread c.locate-h.ensures.stands)
    c.perform.ensures

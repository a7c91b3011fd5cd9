-- `drawing::draw_on` meets its contract: what is too short is refused; else the graph is written at the front.
use Rattle.std.proofs.Common.{rules}
use Rattle.drawing.proofs.Drawings.{too_short, drawn_there}
use Rattle.drawing.proofs.draw_on.Goals as goal

pub returns-then-s-lt8192 : goal.returns-then-s-lt8192
returns-then-s-lt8192 c = too_short c.at.ensures.fault c.at.ensures.line c.then-s-lt8192.either

pub returns : goal.returns
returns c =
    drawn_there c.if-s-lt8192.false c.if-buffer-lt65536.false c.new-out.ensures.start c.new-out.ensures.content
    (search (rules, c.put_drawing.ensures.buffer_same)) c.put_drawing.ensures

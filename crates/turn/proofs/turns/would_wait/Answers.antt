-- `turn::turns::would_wait` meets its contract: a thread without a frame waits; of the lines only a send and a recv can.
use native.Mathlib.Omega.{arith}
use mathlib.Core.Path.{◌≡◌, ap, ◌∙◌}
use Rattle.rules.specs.declared.forms.Form.TheVariants.{Send, Recv}
use Rattle.rules.specs.Forms.{form_of}
use Rattle.rules.proofs.FormNumbers.{number_told}
use Rattle.turn.proofs.Dispatch.{tells_send, tells_recv}
use Rattle.turn.proofs.Located.{past_idles, frameless_idles, locates}
use Rattle.turn.proofs.Waiting.{idle_waits, line_would_wait, others_would_not}
use Rattle.turn.proofs.turns.would_wait.Goals as goal

pub returns-then-t-ge16 : goal.returns-then-t-ge16
returns-then-t-ge16 c = idle_waits (past_idles c.if-t-ge16.true)

pub returns-then-d-eq0 : goal.returns-then-d-eq0
returns-then-d-eq0 c = idle_waits (frameless_idles c.frame_count-d.ensures.sees c.if-d-eq0.true)

pub returns-in-Send : goal.returns-in-Send
returns-in-Send c =
    line_would_wait (locates c.frame_count-d.ensures.sees c.if-d-eq0.false c.locate-h.ensures.thread c.locate-h.ensures.stands)
    (tells_send c.part.ensures c.part-a.ensures c.part-in-Send.ensures (number_told c.from-form.ensures c.in-Send.is (omega arith))) c.send_waits.ensures

pub returns-in-Recv : goal.returns-in-Recv
returns-in-Recv c =
    line_would_wait (locates c.frame_count-d.ensures.sees c.if-d-eq0.false c.locate-h.ensures.thread c.locate-h.ensures.stands)
    (tells_recv c.part.ensures c.part-a.ensures (number_told c.from-form.ensures c.in-Recv.is (omega arith))) c.recv_waits.ensures

pub returns-in-NoForm : goal.returns-in-NoForm
returns-in-NoForm c =
    others_would_not (locates c.frame_count-d.ensures.sees c.if-d-eq0.false c.locate-h.ensures.thread c.locate-h.ensures.stands) c.part.ensures
    (λ e. let told : c.from-form.result ≡ Send = c.from-form.ensures ∙ ap form_of e in grind arith)
    (λ e. let told : c.from-form.result ≡ Recv = c.from-form.ensures ∙ ap form_of e in grind arith)

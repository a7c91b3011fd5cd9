-- By the word that the text begins with.
use Rattle.std.proofs.Common.{sym, ◌∙◌}
use Rattle.rules.specs.Text.{bytes}
use Rattle.box_tool.specs.Status.{status_of}
use Rattle.box_tool.proofs.Begins.{starts}
use Rattle.box_tool.proofs.status_of.Goals as goal

pub returns-then-starts_with : goal.returns-then-starts_with
unfolding status_of
returns-then-starts_with c = rw (sym (starts (bytes "(refused") c.args.text.now) ∙ sym c.starts_with.ensures.value ∙ c.if-starts_with.true)

pub returns-else-starts_with : goal.returns-else-starts_with
unfolding status_of
returns-else-starts_with c = rw (sym (starts (bytes "(refused") c.args.text.now) ∙ sym c.starts_with.ensures.value ∙ c.if-starts_with.false)

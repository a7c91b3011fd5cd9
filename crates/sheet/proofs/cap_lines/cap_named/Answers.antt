-- The form tells whether the line names a capability, and its second word which.
use Rattle.std.proofs.Common.{suc, ap}
use Rattle.rules.specs.Script.{rank}
use Rattle.sheet.proofs.CapLaws.{named_some, named_none}
use Rattle.sheet.proofs.cap_lines.cap_named.Goals as goal

pub returns-in-New : goal.returns-in-New
returns-in-New c = named_some c.line_word.ensures.line_word c.from.ensures c.line_word-in-New.ensures.line_word (ap (λ k. suc (rank k)) c.from-in-New.ensures) c.in-New.is

pub returns-in-NoForm : goal.returns-in-NoForm
returns-in-NoForm c = named_none c.line_word.ensures.line_word c.from.ensures c.in-NoForm.is

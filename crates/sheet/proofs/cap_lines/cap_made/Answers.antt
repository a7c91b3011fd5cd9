-- The form tells whether the line makes records, and its second word of which capability.
use Rattle.std.proofs.Common.{suc, ap}
use Rattle.rules.specs.Script.{rank}
use Rattle.sheet.proofs.CapLaws.{made_some, made_none}
use Rattle.sheet.proofs.cap_lines.cap_made.Goals as goal

pub returns-in-New : goal.returns-in-New
returns-in-New c = made_some c.line_word.ensures.line_word c.from.ensures c.line_word-in-New.ensures.line_word (ap (λ k. suc (rank k)) c.from-in-New.ensures) c.in-New.is

pub returns-in-NoForm : goal.returns-in-NoForm
returns-in-NoForm c = made_none c.line_word.ensures.line_word c.from.ensures c.in-NoForm.is

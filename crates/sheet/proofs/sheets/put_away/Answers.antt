-- The heading, the refusal at an empty text, and the rest.
use Rattle.std.proofs.Common.{refl, arith}
use Rattle.buffer.proofs.Outputs.{◌▹◌, same_text}
use Rattle.sheet.specs.SheetText.{away_sheet}
use Rattle.sheet.proofs.sheets.put_away.Goals as goal

pub returns : goal.returns
unfolding away_sheet
returns c = same_text 8192 (rw (c.at.ensures.fault, c.at.ensures.line) refl) (omega arith) (c.put_text.ensures ▹ c.put_refused.ensures ▹ c.put_unread.ensures)

-- The heading, the script and the faulty last line.
use Rattle.std.proofs.Common.{refl, arith}
use Rattle.buffer.proofs.Outputs.{same_text}
use Rattle.rules.specs.Numbers.{number}
use Rattle.sheet.proofs.SheetLaws.{faulty_sheet_lem}
use Rattle.sheet.proofs.sheets.put_faulty.Goals as goal

pub returns : goal.returns
returns c =
    let a = c.args in
    faulty_sheet_lem a.text.now a.input.now (number a.refused.fault) a.refused.line (same_text 32 refl (omega arith) c.put_text.ensures) c.put_script.ensures c.put_faulty_end.ensures

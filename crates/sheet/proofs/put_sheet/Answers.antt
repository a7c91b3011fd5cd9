-- What the input comes to decides which sheet is written.
use Rattle.std.proofs.Common.{arith}
use Rattle.replay.proofs.GivenLaws.{given_told}
use Rattle.sheet.proofs.SheetLaws.{sheet_is, misfit_holds}
use Rattle.sheet.proofs.put_sheet.Goals as goal

pub returns-in-Ok : goal.returns-in-Ok
returns-in-Ok c =
    let both = sheet_is c.args.input.now _ (given_told c.split.ensures (omega arith) _ c.in-Ok.is) c.put_filed.ensures.wrote c.put_filed.ensures.holds_value in
    record { wrote = both.0; holds_value = both.1 }

pub returns-in-Err : goal.returns-in-Err
returns-in-Err c =
    let both = sheet_is c.args.input.now _ (given_told c.split.ensures (omega arith) _ c.in-Err.is) c.put_misfit.ensures (misfit_holds _ _ c.args.input.now) in
    record { wrote = both.0; holds_value = both.1 }

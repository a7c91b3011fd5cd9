-- What the run answers decides: its refusal is the script's, else the run was made of an accepted script.
use Rattle.std.proofs.Common.{refl, ap, length, arith, rules}
use Rattle.buffer.proofs.Outputs.{same_text}
use Rattle.table.proofs.ProgramTable.{fresh_length}
use Rattle.sheet.proofs.SheetLaws.{filed_refused, filed_ran}
use Rattle.sheet.proofs.sheets.put_filed_on.Goals as goal

pub put_ran-requires : goal.put_ran-requires
put_ran-requires c =
    (search rules, omega (arith, ap length c.requires.1, fresh_length), omega (arith, ap length c.requires.2, fresh_length), c.requires.3)

pub returns-in-Ok : goal.returns-in-Ok
returns-in-Ok c =
    let both = filed_ran c.make-made.ensures c.requires.1 c.requires.2 c.requires.3 c.in-Ok.is (same_text 32 refl (omega arith) c.put_text.ensures) c.put_ran.ensures in
    record { wrote = both.0; holds_value = both.1 }

pub returns-in-Err : goal.returns-in-Err
returns-in-Err c =
    let both =
    filed_refused c.make-made.ensures c.requires.1 c.requires.2 c.requires.3 c.in-Err.is (same_text 32 refl (omega arith) c.put_text.ensures) c.put_refused.ensures c.put_refused_end.ensures in
    record { wrote = both.0; holds_value = both.1 }

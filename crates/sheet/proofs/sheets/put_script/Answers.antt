-- What the reader answers decides whether the script is refused or told.
use Rattle.std.proofs.Common.{refl}
use Rattle.table.specs.ProgramTable.{fresh_table}
use Rattle.sheet.proofs.SheetLaws.{script_refused, script_read}
use Rattle.sheet.proofs.sheets.put_script.Goals as goal

pub returns-in-Ok : goal.returns-in-Ok
unfolding fresh_table
returns-in-Ok c = script_read c.make.ensures refl c.in-Ok.is c.put_read.ensures c.put_two.ensures

pub returns-in-Err : goal.returns-in-Err
unfolding fresh_table
returns-in-Err c = script_refused c.make.ensures refl c.in-Err.is c.put_refused.ensures c.put_unexamined.ensures

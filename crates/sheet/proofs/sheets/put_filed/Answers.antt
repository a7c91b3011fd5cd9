-- Its two tables are fresh.
use Rattle.std.proofs.Common.{refl}
use Rattle.table.specs.ProgramTable.{fresh_table}
use Rattle.sheet.proofs.sheets.put_filed.Goals as goal

pub put_filed_on-requires : goal.put_filed_on-requires
unfolding fresh_table
put_filed_on-requires c = (c.requires.0, refl, refl, c.requires.1)

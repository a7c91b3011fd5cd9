-- `listing::print_run` meets its contract: its own tables are fresh, and do not show in what is printed.
use Rattle.std.proofs.Common.{refl}
use Rattle.table.specs.ProgramTable.{fresh_table}
use Rattle.listing.proofs.print_run.Goals as goal

pub print_on-requires : goal.print_on-requires
unfolding fresh_table
print_on-requires c = (refl, refl)

-- `table::program::copy_table` meets its contract: the first 8,192 words are lent whole, and the copy is as long.
use Rattle.std.proofs.Common.{length-take-le, sym, ◌∙◌}
use Rattle.table.proofs.program.copy_table.Goals as goal

pub copy_from_slice-requires : goal.copy_from_slice-requires
copy_from_slice-requires c = length-take-le 8192 c.args.t.now c.requires.0 ∙ sym c.requires.1

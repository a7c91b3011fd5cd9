-- The counts, the stripped run's answer and the comparison, each as it was promised.
use Rattle.std.proofs.Common.{refl, sym, rules, length-take-le}
use Rattle.table.specs.ProgramTable.{fresh_table}
use Rattle.sheet.proofs.ExaminedLaws.{examined}
use Rattle.sheet.proofs.examined.examine.Goals as goal

pub slice_bounds-is_same-end : goal.slice_bounds-is_same-end
slice_bounds-is_same-end c = sym (length-take-le c.tally-tallied.result.played c.args.turns.now c.tally-tallied.ensures.within)

pub returns : goal.returns
unfolding fresh_table
returns c = examined c.requires.2 refl (search rules) c.tally-tallied.ensures c.stripped_answer.ensures c.is_same.ensures

-- `table::state::locate` meets its contract: the remainders change nothing where the tables hold a state and its program.
use Rattle.std.proofs.Common.{refl, arith}
use Rattle.table.proofs.StateFrames.{on_its_line}
use Rattle.table.proofs.state.locate.Goals as goal

pub returns-clause-stands : goal.returns-clause-stands
returns-clause-stands c = record {
  depth = λ S rest held e few. omega arith;
  row = λ P S counts rest₁ rest₂ filled held there few.
      let block = c.frame_block.ensures.sees.sees S rest₂ held tt in
      let line = c.frame_line-l.ensures.sees.sees S rest₂ held tt in
      on_its_line P filled there block line c.first_line-first.ensures.value.0 refl few;
}

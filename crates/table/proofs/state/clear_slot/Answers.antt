-- `table::state::clear_slot` meets its contract: the word of an absent value is 0.
use Rattle.table.proofs.StateMoves.{slot_cleared}
use Rattle.table.proofs.state.clear_slot.Goals as goal

pub returns-clause-becomes : goal.returns-clause-becomes
returns-clause-becomes c =
    let h = c.args.h in
    record {
      becomes = λ S rest held has.
          slot_cleared held h.thread h.depth h.frame h.placed.thread h.placed.depth h.placed.frame c.args.i c.requires.1 has;
    }

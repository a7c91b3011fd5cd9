-- `table::state::push_value` meets its contract: the three words of the frame and the sender's word are those of the state after the let.
use Rattle.table.proofs.StateMoves.{word_pushed}
use Rattle.table.proofs.state.push_value.Goals as goal

pub returns : goal.returns
returns c =
    let pre = c.requires in
    record { becomes = λ S rest held room. word_pushed held c.args.t c.args.k c.args.at pre.1 pre.2 pre.3 c.args.v _ c.pack.ensures room }

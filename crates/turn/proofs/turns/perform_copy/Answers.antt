-- `turn::turns::perform_copy` meets its contract: the words at the thread's place are those of a copy, which is the line that is called.
use mathlib.Core.Path.{refl}
use Rattle.turn.proofs.Dispatch.{tells_copy, performs_here}
use Rattle.turn.proofs.turns.perform_copy.Goals as goal

pub returns : goal.returns
returns c =
    performs_here (tells_copy refl c.part.ensures c.part-2.ensures c.from-k.ensures c.requires.2) c.copy_line.ensures

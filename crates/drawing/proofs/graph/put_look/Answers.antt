-- `drawing::graph::put_look` meets its contract: the look of each capability.
use Rattle.std.proofs.Common.{arith, refl}
use Rattle.buffer.proofs.Outputs.{same_text}
use Rattle.drawing.proofs.graph.put_look.Goals as goal

pub returns-in-Imm : goal.returns-in-Imm
returns-in-Imm c =
    rw c.in-Imm.is (same_text 34 refl (omega arith) c.put_text.ensures)

pub returns-in-Iso : goal.returns-in-Iso
returns-in-Iso c =
    rw c.in-Iso.is (same_text 34 refl (omega arith) c.put_text-in-Iso.ensures)

pub returns-in-Local : goal.returns-in-Local
returns-in-Local c =
    rw c.in-Local.is (same_text 34 refl (omega arith) c.put_text-in-Local.ensures)

pub returns-in-Unsafe : goal.returns-in-Unsafe
returns-in-Unsafe c =
    rw c.in-Unsafe.is (same_text 34 refl (omega arith) c.put_text-in-Unsafe.ensures)

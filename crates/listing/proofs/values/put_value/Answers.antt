-- `listing::values::put_value` meets its contract: each variant has its own text.
use Rattle.std.proofs.Common.{arith}
use Rattle.buffer.proofs.Outputs.{◌▹◌, same_text}
use Rattle.listing.proofs.LineTexts.{is_absent_lem, is_object, is_channel_lem}
use Rattle.listing.proofs.values.put_value.Goals as goal

pub returns-in-Absent : goal.returns-in-Absent
returns-in-Absent c = same_text 13 (is_absent_lem _ c.in-Absent.is) (omega arith) c.put_text.ensures

pub returns-in-Obj : goal.returns-in-Obj
returns-in-Obj c =
    same_text 13 (is_object _ _ c.in-Obj.is) (omega arith)
    (c.put_text-in-Obj.ensures ▹ c.put_number.ensures ▹ c.put_byte.ensures)

pub returns-in-Chan : goal.returns-in-Chan
returns-in-Chan c =
    same_text 13 (is_channel_lem _ _ c.in-Chan.is) (omega arith)
    (c.put_text-in-Chan.ensures ▹ c.put_number-in-Chan.ensures ▹ c.put_byte-in-Chan.ensures)

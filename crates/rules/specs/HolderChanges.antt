-- How a turn that moves changes the holders of objects: the values that each get a holder more, and those that each get one less. Both are functions
-- of the state before the turn.
use Rattle.std.specs.Prelude.{ℕ, List, [], ◌∷◌, ◌++◌, map, length}
use Rattle.rules.specs.declared.Value.{Value}
use Rattle.rules.specs.declared.Value.TheVariants.{Absent, Obj, Chan}
use Rattle.rules.specs.Script.{Program, Operand, reads, takes, Expr, value, field, swap, call, new, cast, spawn, send, recv, copy, Line, bind, give, line_at}
use Rattle.rules.specs.Reading.{slot_of}
use Rattle.rules.specs.State.{Object, Frame, Sender, ready, waiting, State, object_at, thread_at, slot_at}
use Rattle.rules.specs.Walk.{met_from}
use Rattle.rules.specs.Turn.{left_by, renamed, Here, objects_of}

-- a read leaves the value in its slot, so that it is held once more; a take moves it
abbrev pub operand_gained : List Value → Operand → List Value
operand_gained vs (reads s) = slot_at vs s ∷ []
operand_gained vs (takes s) = []

-- "each seeing what the earlier ones took"
unfoldable pub operands_gained : List Value → List Operand → List Value
operands_gained vs [] = []
operands_gained vs (w ∷ ws) = operand_gained vs w ++ operands_gained (left_by vs w) ws

-- a send takes its operand when it puts
abbrev pub put_gained : Sender → List Value → Operand → List Value
put_gained ready vs w = operand_gained vs w
put_gained (waiting i) vs w = []

-- field f of the object that a slot holds
abbrev pub field_of : List Object → Value → ℕ → Value
field_of os Absent f = Absent
field_of os (Obj n) f = slot_at (object_at os n).fields f
field_of os (Chan c) f = Absent

-- the fields of the copies of these objects, among all that were met
unfoldable pub copied_fields : List Object → (met : List ℕ) → List ℕ → List Value
copied_fields os met [] = []
copied_fields os met (n ∷ ns) = map (renamed (length os) met) (object_at os n).fields ++ copied_fields os met ns

-- of all copies that a copy of this value makes
abbrev pub copies_gained : List Object → Value → List Value
copies_gained os Absent = []
copies_gained os (Obj n) = let met = met_from os (Obj n ∷ []) in copied_fields os met met
copies_gained os (Chan c) = []

-- a swap moves the field's old value to the slot, a receive the message
unfoldable pub let_gained : Here → Expr → List Value
let_gained H (value w) = operand_gained H.frame.slots w
let_gained H (field s f) = field_of (objects_of H) (slot_at H.frame.slots s) f ∷ []
let_gained H (swap s f w) = operand_gained H.frame.slots w
let_gained H (call s i w) = slot_at H.frame.slots s ∷ operand_gained H.frame.slots w
let_gained H (new k n ws) = Obj (length (objects_of H)) ∷ operands_gained H.frame.slots ws
let_gained H (cast k w) = operand_gained H.frame.slots w
let_gained H (spawn b) = []
let_gained H (send s w) = put_gained H.sender H.frame.slots w
let_gained H (recv s) = []
let_gained H (copy k s) = Obj (length (objects_of H)) ∷ copies_gained (objects_of H) (slot_at H.frame.slots s)

-- what is given to a caller
abbrev pub return_gained : List Frame → Value → List Value
return_gained [] v = []
return_gained (f ∷ fs) v = v ∷ []

-- the values that each get a holder more, and those that each get one less: only the end of a frame lets go of values
unfoldable pub line_gained : Here → Line → List Value
line_gained H (bind e) = let_gained H e
line_gained H (give w) = return_gained H.callers (slot_at H.frame.slots (slot_of w))

unfoldable pub line_lost : Here → Line → List Value
line_lost H (bind e) = []
line_lost H (give w) = H.frame.slots

-- of the turn of thread t; a finished or unstarted thread has no frame
unfoldable pub frames_gained : Program → State → ℕ → List Frame → List Value
frames_gained P S t [] = []
frames_gained P S t (f ∷ fs) = line_gained (record { state = S; self = t; sender = (thread_at S t).sender; frame = f; callers = fs }) (line_at P f.block f.line)

unfoldable pub frames_lost : Program → State → ℕ → List Frame → List Value
frames_lost P S t [] = []
frames_lost P S t (f ∷ fs) = line_lost (record { state = S; self = t; sender = (thread_at S t).sender; frame = f; callers = fs }) (line_at P f.block f.line)

unfoldable pub gained : Program → State → ℕ → List Value
gained P S t = frames_gained P S t (thread_at S t).frames

unfoldable pub lost : Program → State → ℕ → List Value
lost P S t = frames_lost P S t (thread_at S t).frames

-- One turn of one thread: operands first, then the checks in the order that document 01's "Machine" writes them, then the new state.
-- Where document 02, L5, puts 19 or 20 in the place of a 14, the sentence is quoted with that number.
use Rattle.std.specs.Prelude.{ℕ, suc, ◌+◌, Bool, true, false, not, ◌&&◌, ◌||◌, List, [], ◌∷◌, ◌++◌, map, leb, ltb, eqb, get_or, set, length}
use Rattle.rules.specs.declared.Cap.{Cap}
use Rattle.rules.specs.declared.Cap.TheVariants.{Imm, Iso, Local, Unsafe}
use Rattle.rules.specs.declared.Value.{Value}
use Rattle.rules.specs.declared.Value.TheVariants.{Absent, Obj, Chan}
use Rattle.rules.specs.declared.Ground.TheVariants.{Foreign, Alias, Other}
use Rattle.rules.specs.declared.Mosts.{Mosts}
use Rattle.rules.specs.Mosts as Most
use Rattle.rules.specs.Numbers as No
use Rattle.rules.specs.Lists.{place_of, any}
use Rattle.rules.specs.Script.{Program, Operand, reads, takes, Expr, value, field, swap, call, new, cast, spawn, send, recv, copy, Line, bind, give, rank, kind_at, line_at}
use Rattle.rules.specs.State.{Object, Frame, Sender, ready, waiting, Channel, State, empty_channel, object_at, thread_at, channel_at, slot_at}
use Rattle.rules.specs.Walk.{met_from}

-- ---- What a part of a turn comes to: it goes on with a value, it waits (or idles), or it stops with a number.

pub data Res (A : Type 0) : Type 0 where
  ok : A → Res A
  wait : Res A
  stop : (number : ℕ) → Res A

infixl 20 ◌>>=◌
infixl 20 ◌>>◌
unfoldable pub ◌>>=◌ : {A B : Type 0} → Res A → (A → Res B) → Res B
ok a >>= f = f a
wait >>= f = wait
stop n >>= f = stop n

unfoldable pub ◌>>◌ : {A B : Type 0} → Res A → Res B → Res B
x >> y = x >>= λ _. y

-- the check passes, or the turn stops with this number
unfoldable pub check : Bool → ℕ → Res (Unit {0})
check true n = ok tt
check false n = stop n

unfoldable pub wait_unless : Bool → Res (Unit {0})
wait_unless true = ok tt
wait_unless false = wait

-- a permission check: which of its grounds hold. Document 02, L5: "Where several hold, 20 goes before 19 and 19 before 14".
unfoldable pub permit : (is_foreign is_alias is_other : Bool) → Res (Unit {0})
permit f a o = do
  check (not f) (No.permission Foreign)
  check (not a) (No.permission Alias)
  check (not o) (No.permission Other)

-- ---- Capabilities

unfoldable pub is_imm : Cap → Bool
is_imm Imm = true
is_imm Iso = false
is_imm Local = false
is_imm Unsafe = false

unfoldable pub is_iso : Cap → Bool
is_iso Imm = false
is_iso Iso = true
is_iso Local = false
is_iso Unsafe = false

unfoldable pub is_local : Cap → Bool
is_local Imm = false
is_local Iso = false
is_local Local = true
is_local Unsafe = false

unfoldable pub same_cap : Cap → Cap → Bool
same_cap a b = eqb (rank a) (rank b)

-- "A holder may hold a value of its own or a lesser capability": the holder k, the value's c
unfoldable pub may_hold : Cap → Cap → Bool
may_hold k c = leb (rank c) (rank k)

-- local to another thread than t
unfoldable pub is_foreign : ℕ → Object → Bool
is_foreign t o = is_local o.cap && not (eqb o.creator t)

-- ---- Values

unfoldable pub is_absent : Value → Bool
is_absent Absent = true
is_absent (Obj n) = false
is_absent (Chan c) = false

unfoldable pub is_iso_object : List Object → Value → Bool
is_iso_object os Absent = false
is_iso_object os (Obj n) = is_iso (object_at os n).cap
is_iso_object os (Chan c) = false

-- "absent 10"
unfoldable pub present : Value → Res Value
present Absent = stop No.absent
present (Obj n) = ok (Obj n)
present (Chan c) = ok (Chan c)

-- an object's number: "absent 10; a channel 13"
unfoldable pub as_object : Value → Res ℕ
as_object Absent = stop No.absent
as_object (Obj n) = ok n
as_object (Chan c) = stop No.wrong_thing

-- a channel's number: "absent 10; an object 13"
unfoldable pub as_channel : Value → Res ℕ
as_channel Absent = stop No.absent
as_channel (Obj n) = stop No.wrong_thing
as_channel (Chan c) = ok c

-- ---- Operands

-- "read gives the slot's value. take gives it and makes the slot absent."
-- "operand: absent 10; a read of an iso object 19." It gives the value and the slots that are left.
unfoldable pub operand : List Object → List Value → Operand → Res (Value × List Value)
operand os vs (reads s) = do
  v ← present (slot_at vs s)
  permit false (is_iso_object os v) false
  ok (v, vs)
operand os vs (takes s) = do
  v ← present (slot_at vs s)
  ok (v, set vs s Absent)

-- what is left in either case
abbrev pub left_by : List Value → Operand → List Value
left_by vs (reads s) = vs
left_by vs (takes s) = set vs s Absent

-- "All operands come first, left to right, each seeing what the earlier ones took."
unfoldable pub operands : List Object → List Value → List Operand → Res (List Value × List Value)
operands os vs [] = ok ([], vs)
operands os vs (w ∷ ws) = do
  (v, vs₁) ← operand os vs w
  (us, vs₂) ← operands os vs₁ ws
  ok (v ∷ us, vs₂)

-- "any value a channel 13"
unfoldable pub all_objects : List Value → Res (List ℕ)
all_objects [] = ok []
all_objects (v ∷ vs) = do
  n ← as_object v
  ns ← all_objects vs
  ok (n ∷ ns)

-- ---- Where a turn stands: the state, the thread, whether it waits as a sender, its innermost frame and the frames outside that.

pub record Here : Type 0 where
  pub state : State
  pub self : ℕ
  pub sender : Sender
  pub frame : Frame
  pub callers : List Frame

abbrev pub objects_of : Here → List Object
objects_of H = H.state.objects

unfoldable pub object : Here → ℕ → Object
object H n = object_at H.state.objects n

-- the state with thread t's frames and sender; with these objects; with channel c
unfoldable pub put_thread : State → ℕ → List Frame → Sender → State
put_thread S t fs d =
    record { objects = S.objects; threads = set S.threads t (record { frames = fs; sender = d }); channels = S.channels }

unfoldable pub put_objects : State → List Object → State
put_objects S os = record { objects = os; threads = S.threads; channels = S.channels }

unfoldable pub put_channel : State → ℕ → Channel → State
put_channel S c ch = record { objects = S.objects; threads = S.threads; channels = set S.channels c ch }

-- the frame at its next line, with one more slot filled; the frame with these slots
unfoldable pub filled : Frame → List Value → Value → Frame
filled f vs v = record { block = f.block; line = f.line + 1; slots = vs ++ (v ∷ []) }

unfoldable pub with_slots : Frame → List Value → Frame
with_slots f vs = record { block = f.block; line = f.line; slots = vs }

-- the let gives v: "Each let fills the next slot."
unfoldable pub gives : State → Here → List Value → Value → State
gives S H vs v = put_thread S H.self (filled H.frame vs v ∷ H.callers) ready

-- ---- The line forms

unfoldable pub value_line : Here → Operand → Res State
value_line H w = do
  (v, vs) ← operand (objects_of H) H.frame.slots w
  ok (gives H.state H vs v)

-- "field: target slot absent 10; a channel 13; no such field 11; target local to another thread 20; field holds an iso 19."
unfoldable pub field_line : Here → ℕ → ℕ → Res State
field_line H s f = do
  n ← as_object (slot_at H.frame.slots s)
  check (ltb f (length (object H n).fields)) No.no_field
  let v = slot_at (object H n).fields f
  permit (is_foreign H.self (object H n)) (is_iso_object (objects_of H) v) false
  ok (gives H.state H H.frame.slots v)

-- "both local with other creators"
unfoldable pub are_apart : Object → Object → Bool
are_apart o u = is_local o.cap && (is_local u.cap && not (eqb o.creator u.creator))

-- "target imm, or .. value above the target, .. 14"; L5: "A target local to another thread becomes 20, and so do swap's two locals with
-- other creators"
unfoldable pub permit_swap : ℕ → Object → Object → Res (Unit {0})
permit_swap t o u = permit (is_foreign t o || are_apart o u) false (is_imm o.cap || not (may_hold o.cap u.cap))

unfoldable pub set_field : Object → ℕ → Value → Object
set_field o f v = record { cap = o.cap; kind = o.kind; creator = o.creator; fields = set o.fields f v }

-- "swap: target absent 10; target a channel 13; value a channel 13; no such field 11; .. 14" or 20. "It stores the value and gives the old one."
unfoldable pub swap_line : Here → ℕ → ℕ → Operand → Res State
swap_line H s f w = do
  (v, vs) ← operand (objects_of H) H.frame.slots w
  target ← as_object (slot_at vs s)
  u ← as_object v
  check (ltb f (length (object H target).fields)) No.no_field
  permit_swap H.self (object H target) (object H u)
  let S = put_objects H.state (set (objects_of H) target (set_field (object H target) f v))
  ok (gives S H vs (slot_at (object H target).fields f))

-- "call: target absent 10; a channel 13; no such method 12; target local to another thread 20; frames used up 16.
-- The new frame holds target and value; the caller's slot keeps the target."
unfoldable pub call_line : Program → Here → ℕ → ℕ → Operand → Res State
call_line P H s i w = do
  (v, vs) ← operand (objects_of H) H.frame.slots w
  n ← as_object (slot_at vs s)
  let ms = (kind_at P (object H n).kind).methods
  check (ltb i (length ms)) No.no_method
  permit (is_foreign H.self (object H n)) false false
  check (ltb (suc (length H.callers)) Most.frames) No.used_up
  let g : Frame = record { block = get_or ms i 0; line = 0; slots = Obj n ∷ v ∷ [] }
  ok (put_thread H.state H.self (g ∷ with_slots H.frame vs ∷ H.callers) ready)

-- "new: any value a channel 13; any value above K, .. 14; objects used up 16. The creator is this thread."; L5: 20, "and so do .. new's
-- value that is local with another creator"
unfoldable pub new_line : Mosts → Here → Cap → ℕ → List Operand → Res State
new_line m H k n ws = do
  (us, vs) ← operands (objects_of H) H.frame.slots ws
  ns ← all_objects us
  permit (any (λ i. is_foreign H.self (object H i)) ns) false (any (λ i. not (may_hold k (object H i).cap)) ns)
  check (ltb (length (objects_of H)) m.objects) No.used_up
  let o : Object = record { cap = k; kind = n; creator = H.self; fields = us }
  ok (gives (put_objects H.state (objects_of H ++ (o ∷ []))) H vs (Obj (length (objects_of H))))

-- "cast: a channel 13; capability not K 15; else gives the value."
unfoldable pub cast_line : Here → Cap → Operand → Res State
cast_line H k w = do
  (v, vs) ← operand (objects_of H) H.frame.slots w
  n ← as_object v
  check (same_cap (object H n).cap k) No.cast
  ok (gives H.state H vs v)

-- "A spawn makes the next thread, with an empty channel of the same number."
unfoldable pub started : State → ℕ → State
started S b =
    let c = length S.threads in
    record {
      objects = S.objects;
      threads = S.threads ++ (record { frames = record { block = b; line = 0; slots = Chan c ∷ [] } ∷ []; sender = ready } ∷ []);
      channels = S.channels ++ (empty_channel ∷ []);
    }

-- "spawn: threads used up 16; gives the channel."
unfoldable pub spawn_line : Mosts → Here → ℕ → Res State
spawn_line m H b = do
  check (ltb (length H.state.threads) m.threads) No.used_up
  ok (gives (started H.state b) H H.frame.slots (Chan (length H.state.threads)))

-- "send: target absent 10; an object 13; value a channel 13; value local 14; channel full: waits. Otherwise the channel's message
-- number rises by one, it holds the value, and the thread stays on this line as a waiting sender."
unfoldable pub put_line : Here → ℕ → Operand → Res State
put_line H s w = do
  (v, vs) ← operand (objects_of H) H.frame.slots w
  c ← as_channel (slot_at vs s)
  n ← as_object v
  permit false false (is_local (object H n).cap)
  wait_unless (is_absent (channel_at H.state c).message)
  let i = (channel_at H.state c).number + 1
  let S = put_channel H.state c (record { message = v; number = i })
  ok (put_thread S H.self (with_slots H.frame vs ∷ H.callers) (waiting i))

-- "At a later turn it takes no operand again and waits while the channel still holds the message with that number; else it moves
-- on and the let gives the channel."
unfoldable pub sent_line : Here → ℕ → ℕ → Res State
sent_line H s i = do
  c ← as_channel (slot_at H.frame.slots s)
  wait_unless (is_absent (channel_at H.state c).message || not (eqb (channel_at H.state c).number i))
  ok (gives H.state H H.frame.slots (Chan c))

unfoldable pub send_line : Here → Sender → ℕ → Operand → Res State
send_line H ready s w = put_line H s w
send_line H (waiting i) s w = sent_line H s i

-- "recv: target absent 10; an object 13; empty: waits. Otherwise it gives the value and empties the channel."
unfoldable pub recv_line : Here → ℕ → Res State
recv_line H s = do
  c ← as_channel (slot_at H.frame.slots s)
  let v = (channel_at H.state c).message
  wait_unless (not (is_absent v))
  let S = put_channel H.state c (record { message = Absent; number = (channel_at H.state c).number })
  ok (gives S H H.frame.slots v)

-- Document 02, L6, copies: "the next numbers as first met". Of the objects met, the one at place i gets number b + i.
unfoldable pub renamed : ℕ → List ℕ → Value → Value
renamed b met Absent = Absent
renamed b met (Obj n) = Obj (b + place_of n met)
renamed b met (Chan c) = Chan c

-- "all copies have capability K and this thread as creator"; fields that name one object name one copy: "Sharing and cycles are kept"
unfoldable pub copy_of : Here → Cap → List ℕ → ℕ → Object
copy_of H k met n =
    record { cap = k; kind = (object H n).kind; creator = H.self; fields = map (renamed (length (objects_of H)) met) (object H n).fields }

-- "The copy duplicates every object reached from slot S through fields, each once .. as first met, depth first, fields in order. The slot keeps its
-- value, even an iso. Checks: slot absent 10, a channel 13, any object met local to another thread 20, too few objects left for all copies 16."
unfoldable pub copy_line : Mosts → Here → Cap → ℕ → Res State
copy_line m H k s = do
  n ← as_object (slot_at H.frame.slots s)
  let met = met_from (objects_of H) (Obj n ∷ [])
  permit (any (λ i. is_foreign H.self (object H i)) met) false false
  check (leb (length (objects_of H) + length met) m.objects) No.used_up
  ok (gives (put_objects H.state (objects_of H ++ map (copy_of H k met) met)) H H.frame.slots (Obj (length (objects_of H))))

-- "A give ends the frame and fills the caller's slot. From the outermost frame it finishes the thread."
unfoldable pub returned : State → ℕ → List Frame → Value → State
returned S t [] v = put_thread S t [] ready
returned S t (f ∷ fs) v = put_thread S t (filled f f.slots v ∷ fs) ready

unfoldable pub give_line : Here → Operand → Res State
give_line H w = do
  (v, vs) ← operand (objects_of H) H.frame.slots w
  ok (returned H.state H.self H.callers v)

-- ---- "A turn performs the current line of its thread."

unfoldable pub let_line : Mosts → Program → Here → Expr → Res State
let_line m P H (value w) = value_line H w
let_line m P H (field s f) = field_line H s f
let_line m P H (swap s f w) = swap_line H s f w
let_line m P H (call s i w) = call_line P H s i w
let_line m P H (new k n ws) = new_line m H k n ws
let_line m P H (cast k w) = cast_line H k w
let_line m P H (spawn b) = spawn_line m H b
let_line m P H (send s w) = send_line H H.sender s w
let_line m P H (recv s) = recv_line H s
let_line m P H (copy k s) = copy_line m H k s

unfoldable pub perform : Mosts → Program → Here → Line → Res State
perform m P H (bind e) = let_line m P H e
perform m P H (give w) = give_line H w

-- "A waiting turn, or one for a finished or unstarted thread, changes nothing." Such a thread has no frame.
unfoldable pub turn_of : Mosts → Program → State → ℕ → Sender → List Frame → Res State
turn_of m P S t d [] = wait
turn_of m P S t d (f ∷ fs) =
    perform m P (record { state = S; self = t; sender = d; frame = f; callers = fs }) (line_at P f.block f.line)

-- the turn of thread t
unfoldable pub turn : Mosts → Program → State → ℕ → Res State
turn m P S t = turn_of m P S t (thread_at S t).sender (thread_at S t).frames

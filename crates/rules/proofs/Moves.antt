-- What a turn that moves has shown: one case for each way to move, with its checks as facts and the state that it leaves. Each line form is followed check by check.
use Prim.Native.Nat.{ℕ, zero, suc, ◌+◌, ◌≤◌, ◌<◌}
use mathlib.Core.Path.{◌≡◌, refl, ap, ◌∙◌, subst}
use mathlib.Core.Bool.{Bool, true, false, not, ◌||◌}
use mathlib.Core.List.{List, [], ◌∷◌, ◌++◌, map}
use lib.Dec.{eqb}
use lib.ListN.{get_or, set, length, length-set}
use borrow.Author.Tests.{leb-true}
use Rattle.rules.specs.declared.Cap.{Cap}
use Rattle.rules.specs.declared.Value.{Value}
use Rattle.rules.specs.declared.Value.TheVariants.{Absent, Obj, Chan}
use Rattle.rules.specs.declared.Mosts.{Mosts}
use Rattle.rules.specs.Mosts as Most
use Rattle.rules.specs.Lists.{Every}
use Rattle.rules.specs.Script.{Program, Operand, reads, takes, Expr, value, field, swap, call, new, cast, spawn, send, recv, copy, Line, bind, give, kind_at, line_at}
use Rattle.rules.specs.Reading.{slot_of}
use Rattle.rules.specs.State.{Object, Frame, Sender, ready, waiting, State, thread_at, channel_at, slot_at}
use Rattle.rules.specs.Turn.{Res, ok, wait, stop, ◌>>=◌, ◌>>◌, check, wait_unless, permit, is_imm, is_local, same_cap, may_hold, is_foreign, is_absent, is_iso_object, present, as_object, as_channel, operand, left_by, operands, all_objects, Here, objects_of, object, put_thread, put_objects, put_channel, filled, with_slots, gives, value_line, field_line, are_apart, permit_swap, set_field, swap_line, call_line, new_line, cast_line, started, spawn_line, put_line, sent_line, send_line, recv_line, copy_of, copy_line, returned, give_line, let_line, perform, turn_of, turn}
use Rattle.rules.specs.Walk.{met_from}
use Rattle.rules.proofs.ListLaws.{impossible, below, of_not, or_false, any_false, every_map}

-- ---- What operands give

-- a read gives no iso object
abbrev pub NoIsoRead : List Object → Operand → Value → Type 0
NoIsoRead os (reads s) v = is_iso_object os v ≡ false
NoIsoRead os (takes s) v = Unit {0}

-- from the slots vs the operand w gives the value v and leaves the slots left
pub record Gave (os : List Object) (vs : List Value) (w : Operand) (v : Value) (left : List Value) : Type 0 where
  pub value : slot_at vs (slot_of w) ≡ v
  pub there : is_absent v ≡ false
  pub no_iso : NoIsoRead os w v
  pub slots : left ≡ left_by vs w
  pub count : length left ≡ length vs

-- what a slot holds after an operand, it held before
pub left_was_there : {v : Value} (vs : List Value) (w : Operand) (i : ℕ) → is_absent v ≡ false → slot_at (left_by vs w) i ≡ v → slot_at vs i ≡ v
unfolding slot_at is_absent
left_was_there vs (reads k) i there is = is
left_was_there [] (takes k) i there is = is
left_was_there (u ∷ us) (takes zero) zero there is = impossible cc
left_was_there (u ∷ us) (takes zero) (suc i) there is = is
left_was_there (u ∷ us) (takes (suc k)) zero there is = is
left_was_there (u ∷ us) (takes (suc k)) (suc i) there is = left_was_there us (takes k) i there is

-- from the slots vs the operands ws give the values us, each seeing what the earlier ones left
pub data GaveAll (os : List Object) : (vs : List Value) (ws : List Operand) (us left : List Value) → Type 0 where
  no_more : {vs : List Value} → GaveAll os vs [] [] vs
  one_more : {vs next us left : List Value} {w : Operand} {ws : List Operand} {v : Value}
      → Gave os vs w v next → GaveAll os next ws us left → GaveAll os vs (w ∷ ws) (v ∷ us) left

-- a value for each operand, and as many slots as before
pub values_count : {os : List Object} {vs us left : List Value} {ws : List Operand} → GaveAll os vs ws us left → length us ≡ length ws
values_count no_more = refl
values_count (one_more gave rest) = ap suc (values_count rest)

pub slots_count : {os : List Object} {vs us left : List Value} {ws : List Operand} → GaveAll os vs ws us left → length left ≡ length vs
slots_count no_more = refl
slots_count (one_more gave rest) = slots_count rest ∙ gave.count

-- ---- The facts of each line form: of the line's parts, then of what the turn found. `vs` are the slots that the operands leave.

-- field f of object n, the target in slot s
pub record FieldRead (H : Here) (s f n : ℕ) : Type 0 where
  pub target : slot_at H.frame.slots s ≡ Obj n
  pub has_field : f < length (object H n).fields
  pub near : is_foreign H.self (object H n) ≡ false
  pub no_iso : is_iso_object (objects_of H) (slot_at (object H n).fields f) ≡ false

-- object u for field f of object n
pub record FieldSwapped (H : Here) (s f : ℕ) (w : Operand) (n u : ℕ) (vs : List Value) : Type 0 where
  pub gave : Gave (objects_of H) H.frame.slots w (Obj u) vs
  pub target : slot_at vs s ≡ Obj n
  pub has_field : f < length (object H n).fields
  pub near : is_foreign H.self (object H n) ≡ false
  pub together : are_apart (object H n) (object H u) ≡ false
  pub not_imm : is_imm (object H n).cap ≡ false
  pub may_hold_lem : may_hold (object H n).cap (object H u).cap ≡ true

-- method i of object n, with the argument v
pub record MethodCalled (P : Program) (H : Here) (s i : ℕ) (w : Operand) (n : ℕ) (v : Value) (vs : List Value) : Type 0 where
  pub gave : Gave (objects_of H) H.frame.slots w v vs
  pub target : slot_at vs s ≡ Obj n
  pub has_method : i < length (kind_at P (object H n).kind).methods
  pub near : is_foreign H.self (object H n) ≡ false
  pub room : suc (length H.callers) < Most.frames

-- an object of capability k, with the objects ns as its fields
pub record ObjectMade (m : Mosts) (H : Here) (k : Cap) (ws : List Operand) (ns : List ℕ) (vs : List Value) : Type 0 where
  pub gave : GaveAll (objects_of H) H.frame.slots ws (map Obj ns) vs
  pub near : Every (λ n. is_foreign H.self (object H n) ≡ false) ns
  pub may_hold_lem : Every (λ n. may_hold k (object H n).cap ≡ true) ns
  pub room : length (objects_of H) < m.objects

-- object n of capability k
pub record ObjectCast (H : Here) (k : Cap) (w : Operand) (n : ℕ) (vs : List Value) : Type 0 where
  pub gave : Gave (objects_of H) H.frame.slots w (Obj n) vs
  pub same_cap_lem : same_cap (object H n).cap k ≡ true

-- object n into channel c
pub record MessagePut (H : Here) (s : ℕ) (w : Operand) (c n : ℕ) (vs : List Value) : Type 0 where
  pub sender : H.sender ≡ ready
  pub gave : Gave (objects_of H) H.frame.slots w (Obj n) vs
  pub target : slot_at vs s ≡ Chan c
  pub not_local : is_local (object H n).cap ≡ false
  pub empty : is_absent (channel_at H.state c).message ≡ true

-- channel c no longer holds message i, for which the sender waits
pub record MessageTaken (H : Here) (s i c : ℕ) : Type 0 where
  pub sender : H.sender ≡ waiting i
  pub target : slot_at H.frame.slots s ≡ Chan c
  pub gone : (is_absent (channel_at H.state c).message || not (eqb (channel_at H.state c).number i)) ≡ true

-- the message of channel c
pub record MessageReceived (H : Here) (s c : ℕ) : Type 0 where
  pub target : slot_at H.frame.slots s ≡ Chan c
  pub full : is_absent (channel_at H.state c).message ≡ false

-- the objects met from object n, the one in slot s
abbrev pub met_here : Here → ℕ → List ℕ
met_here H n = met_from (objects_of H) (Obj n ∷ [])

pub record GraphCopied (m : Mosts) (H : Here) (s n : ℕ) : Type 0 where
  pub target : slot_at H.frame.slots s ≡ Obj n
  pub near : Every (λ i. is_foreign H.self (object H i) ≡ false) (met_here H n)
  pub room : length (objects_of H) + length (met_here H n) ≤ m.objects

-- ---- The ways to move

-- object n with object u in field f
abbrev pub swapped_objects : Here → (n f u : ℕ) → List Object
swapped_objects H n f u = set (objects_of H) n (set_field (object H n) f (Obj u))

-- the frame of method i of object n, with the argument v
abbrev pub called_frame : Program → Here → (i n : ℕ) → Value → Frame
called_frame P H i n v = record { block = get_or (kind_at P (object H n).kind).methods i 0; line = 0; slots = Obj n ∷ v ∷ [] }

-- the new object
abbrev pub made_object : Here → Cap → (kind : ℕ) → (ns : List ℕ) → Object
made_object H k i ns = record { cap = k; kind = i; creator = H.self; fields = map Obj ns }

-- the objects, and after them a copy of each that is met; the state with these, in which the let gives the first copy
abbrev pub with_copies : Here → Cap → ℕ → List Object
with_copies H k n = objects_of H ++ map (copy_of H k (met_here H n)) (met_here H n)

abbrev pub copied_state : Here → Cap → ℕ → State
copied_state H k n = gives (put_objects H.state (with_copies H k n)) H H.frame.slots (Obj (length (objects_of H)))

-- channel c with a message of the next number; channel c emptied
abbrev pub next_number : Here → ℕ → ℕ
next_number H c = (channel_at H.state c).number + 1

abbrev pub put_message : Here → (c n : ℕ) → State
put_message H c n = put_channel H.state c (record { message = Obj n; number = next_number H c })

abbrev pub emptied : Here → ℕ → State
emptied H c = put_channel H.state c (record { message = Absent; number = (channel_at H.state c).number })

-- the line that the turn performs where H stands, and the state that it leaves
pub data Step (m : Mosts) (P : Program) (H : Here) : Line → State → Type 0 where
  by_value : (w : Operand) (v : Value) (vs : List Value) → Gave (objects_of H) H.frame.slots w v vs
      → Step m P H (bind (value w)) (gives H.state H vs v)
  by_field : (s f n : ℕ) → FieldRead H s f n
      → Step m P H (bind (field s f)) (gives H.state H H.frame.slots (slot_at (object H n).fields f))
  by_swap : (s f : ℕ) (w : Operand) (n u : ℕ) (vs : List Value) → FieldSwapped H s f w n u vs
      → Step m P H (bind (swap s f w)) (gives (put_objects H.state (swapped_objects H n f u)) H vs (slot_at (object H n).fields f))
  by_call : (s i : ℕ) (w : Operand) (n : ℕ) (v : Value) (vs : List Value) → MethodCalled P H s i w n v vs
      → Step m P H (bind (call s i w)) (put_thread H.state H.self (called_frame P H i n v ∷ with_slots H.frame vs ∷ H.callers) ready)
  by_new : (k : Cap) (i : ℕ) (ws : List Operand) (ns : List ℕ) (vs : List Value) → ObjectMade m H k ws ns vs
      → Step m P H (bind (new k i ws)) (gives (put_objects H.state (objects_of H ++ (made_object H k i ns ∷ []))) H vs (Obj (length (objects_of H))))
  by_cast : (k : Cap) (w : Operand) (n : ℕ) (vs : List Value) → ObjectCast H k w n vs
      → Step m P H (bind (cast k w)) (gives H.state H vs (Obj n))
  by_spawn : (b : ℕ) → length H.state.threads < m.threads
      → Step m P H (bind (spawn b)) (gives (started H.state b) H H.frame.slots (Chan (length H.state.threads)))
  by_put : (s : ℕ) (w : Operand) (c n : ℕ) (vs : List Value) → MessagePut H s w c n vs
      → Step m P H (bind (send s w)) (put_thread (put_message H c n) H.self (with_slots H.frame vs ∷ H.callers) (waiting (next_number H c)))
  by_sent : (s : ℕ) (w : Operand) (i c : ℕ) → MessageTaken H s i c
      → Step m P H (bind (send s w)) (gives H.state H H.frame.slots (Chan c))
  by_recv : (s c : ℕ) → MessageReceived H s c
      → Step m P H (bind (recv s)) (gives (emptied H c) H H.frame.slots (channel_at H.state c).message)
  by_copy : (k : Cap) (s n : ℕ) → GraphCopied m H s n
      → Step m P H (bind (copy k s)) (copied_state H k n)
  -- a give to the caller f, and one that finishes the thread
  by_return : (w : Operand) (v : Value) (vs : List Value) (f : Frame) (fs : List Frame) → Gave (objects_of H) H.frame.slots w v vs → H.callers ≡ f ∷ fs
      → Step m P H (give w) (put_thread H.state H.self (filled f f.slots v ∷ fs) ready)
  by_finish : (w : Operand) (v : Value) (vs : List Value) → Gave (objects_of H) H.frame.slots w v vs → H.callers ≡ []
      → Step m P H (give w) (put_thread H.state H.self [] ready)

-- where the turn of thread t stands, whose frames are f and its callers fs
abbrev pub here_at : State → (t : ℕ) → (f : Frame) → (fs : List Frame) → Here
here_at S t f fs = record { state = S; self = t; sender = (thread_at S t).sender; frame = f; callers = fs }

-- the turn of thread t moves from S to S'
pub record Moved (m : Mosts) (P : Program) (S : State) (t : ℕ) (S' : State) : Type 0 where
  pub frame : Frame
  pub callers : List Frame
  pub frames : (thread_at S t).frames ≡ frame ∷ callers
  pub line : Line
  pub at_line : line_at P frame.block frame.line ≡ line
  pub step : Step m P (here_at S t frame callers) line S'

-- ---- Past each part of a turn

-- where r goes on, Q holds of what it goes on with
record Goes {A : Type 0} (r : Res A) (Q : A → Type 0) : Type 0 where
  holds : (a : A) → r ≡ ok a → Q a

goes_ok : {A : Type 0} {Q : A → Type 0} (a : A) → Q a → Goes (ok a) Q
goes_ok {Q = Q} a q = record { holds = λ b e. let same : a ≡ b = cc in subst Q same q }

goes_wait : {A : Type 0} {Q : A → Type 0} → Goes wait Q
goes_wait = record { holds = λ b e. impossible cc }

goes_stop : {A : Type 0} {Q : A → Type 0} (n : ℕ) → Goes (stop n) Q
goes_stop n = record { holds = λ b e. impossible cc }

module _ {B : Type 0} {Q : B → Type 0} where
  past : {A : Type 0} {R : A → Type 0} (r : Res A) (f : A → Res B) → Goes r R → ((a : A) → R a → Goes (f a) Q) → Goes (r >>= f) Q
  unfolding ◌>>=◌
  past (ok a) f h k = k a (h.holds a refl)
  past wait f h k = goes_wait
  past (stop n) f h k = goes_stop n

  past_pair : {A C : Type 0} {R : A × C → Type 0} (r : Res (A × C)) (f : A × C → Res B)
      → Goes r R → ((a : A) (c : C) → R (a, c) → Goes (f (a, c)) Q) → Goes (r >>= f) Q
  past_pair r f h k = past r f h λ p g. k p.0 p.1 g

  past_check : (b : Bool) (n : ℕ) (r : Res B) → (b ≡ true → Goes r Q) → Goes (check b n >> r) Q
  unfolding ◌>>◌ ◌>>=◌ check
  past_check true n r k = k refl
  past_check false n r k = goes_stop n

  past_wait : (b : Bool) (r : Res B) → (b ≡ true → Goes r Q) → Goes (wait_unless b >> r) Q
  unfolding ◌>>◌ ◌>>=◌ wait_unless
  past_wait true r k = k refl
  past_wait false r k = goes_wait

  past_permit : (f a o : Bool) (r : Res B) → (f ≡ false → a ≡ false → o ≡ false → Goes r Q) → Goes (permit f a o >> r) Q
  unfolding ◌>>◌ ◌>>=◌ permit check
  past_permit true a o r k = goes_stop _
  past_permit false true o r k = goes_stop _
  past_permit false false true r k = goes_stop _
  past_permit false false false r k = k refl refl refl

  past_present : (v : Value) (f : Value → Res B) → (is_absent v ≡ false → Goes (f v) Q) → Goes (present v >>= f) Q
  unfolding ◌>>=◌ present is_absent
  past_present Absent f k = goes_stop _
  past_present (Obj n) f k = k refl
  past_present (Chan c) f k = k refl

  past_object : (v : Value) (f : ℕ → Res B) → ((n : ℕ) → v ≡ Obj n → Goes (f n) Q) → Goes (as_object v >>= f) Q
  unfolding ◌>>=◌ as_object
  past_object Absent f k = goes_stop _
  past_object (Obj n) f k = k n refl
  past_object (Chan c) f k = goes_stop _

  past_channel : (v : Value) (f : ℕ → Res B) → ((c : ℕ) → v ≡ Chan c → Goes (f c) Q) → Goes (as_channel v >>= f) Q
  unfolding ◌>>=◌ as_channel
  past_channel Absent f k = goes_stop _
  past_channel (Obj n) f k = goes_stop _
  past_channel (Chan c) f k = k c refl

operand_gave : (os : List Object) (vs : List Value) (w : Operand) → Goes (operand os vs w) (λ p. Gave os vs w p.0 p.1)
unfolding operand
operand_gave os vs (reads s) =
    past_present _ _ λ there.
    past_permit _ _ _ _ λ _ no_iso _.
    goes_ok _ (record { value = refl; there = there; no_iso = no_iso; slots = refl; count = refl })
operand_gave os vs (takes s) =
    past_present _ _ λ there.
    goes_ok _ (record { value = refl; there = there; no_iso = tt; slots = refl; count = length-set vs s Absent })

operands_gave : (os : List Object) (vs : List Value) (ws : List Operand) → Goes (operands os vs ws) (λ p. GaveAll os vs ws p.0 p.1)
unfolding operands
operands_gave os vs [] = goes_ok _ no_more
operands_gave os vs (w ∷ ws) =
    past_pair _ _ (operand_gave os vs w) λ v next gave.
    past_pair _ _ (operands_gave os next ws) λ us left rest.
    goes_ok _ (one_more gave rest)

all_objects_lem : (us : List Value) → Goes (all_objects us) (λ ns. us ≡ map Obj ns)
unfolding all_objects
all_objects_lem [] = goes_ok _ refl
all_objects_lem (u ∷ us) =
    past_object _ _ λ n is_object.
    past _ _ (all_objects_lem us) λ ns are_objects.
    goes_ok _ (rw (is_object, are_objects) refl)

-- ---- Each line form, check by check

module _ (m : Mosts) (P : Program) (H : Here) where
  value_goes : (w : Operand) → Goes (value_line H w) (Step m P H (bind (value w)))
  unfolding value_line
  value_goes w =
      past_pair _ _ (operand_gave _ _ w) λ v vs gave.
      goes_ok _ (by_value w v vs gave)

  field_goes : (s f : ℕ) → Goes (field_line H s f) (Step m P H (bind (field s f)))
  unfolding field_line
  field_goes s f =
      past_object _ _ λ n target.
      past_check _ _ _ λ has_field.
      past_permit _ _ _ _ λ near no_iso _.
      goes_ok _ (by_field s f n (record { target = target; has_field = below has_field; near = near; no_iso = no_iso }))

  swap_goes : (s f : ℕ) (w : Operand) → Goes (swap_line H s f w) (Step m P H (bind (swap s f w)))
  unfolding swap_line permit_swap
  swap_goes s f w =
      past_pair _ _ (operand_gave _ _ w) λ v vs gave.
      past_object _ _ λ n target.
      past_object _ _ λ u is_object.
      past_check _ _ _ λ has_field.
      past_permit _ _ _ _ λ no-foreign _ no_other.
      let near = or_false (is_foreign H.self (object H n)) (are_apart (object H n) (object H u)) no-foreign in
      let above = or_false (is_imm (object H n).cap) (not (may_hold (object H n).cap (object H u).cap)) no_other in
      rw is_object
      (goes_ok _
      (by_swap s f w n u vs
      (record {
        gave = rw is_object at gave;
        target = target;
        has_field = below has_field;
        near = near.0;
        together = near.1;
        not_imm = above.0;
        may_hold_lem = of_not _ above.1;
      })))

  call_goes : (s i : ℕ) (w : Operand) → Goes (call_line P H s i w) (Step m P H (bind (call s i w)))
  unfolding call_line
  call_goes s i w =
      past_pair _ _ (operand_gave _ _ w) λ v vs gave.
      past_object _ _ λ n target.
      past_check _ _ _ λ has_method.
      past_permit _ _ _ _ λ near _ _.
      past_check _ _ _ λ room.
      goes_ok _ (by_call s i w n v vs (record { gave = gave; target = target; has_method = below has_method; near = near; room = below room }))

  new_goes : (k : Cap) (i : ℕ) (ws : List Operand) → Goes (new_line m H k i ws) (Step m P H (bind (new k i ws)))
  unfolding new_line
  new_goes k i ws =
      past_pair _ _ (operands_gave _ _ ws) λ us vs gave.
      past _ _ (all_objects_lem us) λ ns are_objects.
      past_permit _ _ _ _ λ no-foreign _ no_other.
      past_check _ _ _ λ room.
      rw are_objects
      (goes_ok _
      (by_new k i ws ns vs
      (record {
        gave = rw are_objects at gave;
        near = any_false _ ns no-foreign;
        may_hold_lem = every_map (λ n e. of_not _ e) ns (any_false _ ns no_other);
        room = below room;
      })))

  cast_goes : (k : Cap) (w : Operand) → Goes (cast_line H k w) (Step m P H (bind (cast k w)))
  unfolding cast_line
  cast_goes k w =
      past_pair _ _ (operand_gave _ _ w) λ v vs gave.
      past_object _ _ λ n is_object.
      past_check _ _ _ λ same_cap_lem.
      rw is_object (goes_ok _ (by_cast k w n vs (record { gave = rw is_object at gave; same_cap_lem = same_cap_lem })))

  spawn_goes : (b : ℕ) → Goes (spawn_line m H b) (Step m P H (bind (spawn b)))
  unfolding spawn_line
  spawn_goes b =
      past_check _ _ _ λ room.
      goes_ok _ (by_spawn b (below room))

  put_goes : (s : ℕ) (w : Operand) → H.sender ≡ ready → Goes (put_line H s w) (Step m P H (bind (send s w)))
  unfolding put_line
  put_goes s w sender =
      past_pair _ _ (operand_gave _ _ w) λ v vs gave.
      past_channel _ _ λ c target.
      past_object _ _ λ n is_object.
      past_permit _ _ _ _ λ _ _ not_local.
      past_wait _ _ λ empty.
      rw is_object (goes_ok _ (by_put s w c n vs (record { sender = sender; gave = rw is_object at gave; target = target; not_local = not_local; empty = empty })))

  sent_goes : (s i : ℕ) (w : Operand) → H.sender ≡ waiting i → Goes (sent_line H s i) (Step m P H (bind (send s w)))
  unfolding sent_line
  sent_goes s i w sender =
      past_channel _ _ λ c target.
      past_wait _ _ λ gone.
      goes_ok _ (by_sent s w i c (record { sender = sender; target = target; gone = gone }))

  send_goes : (d : Sender) (s : ℕ) (w : Operand) → H.sender ≡ d → Goes (send_line H d s w) (Step m P H (bind (send s w)))
  unfolding send_line
  send_goes ready s w sender = put_goes s w sender
  send_goes (waiting i) s w sender = sent_goes s i w sender

  recv_goes : (s : ℕ) → Goes (recv_line H s) (Step m P H (bind (recv s)))
  unfolding recv_line
  recv_goes s =
      past_channel _ _ λ c target.
      past_wait _ _ λ full.
      goes_ok _ (by_recv s c (record { target = target; full = of_not _ full }))

  copy_goes : (k : Cap) (s : ℕ) → Goes (copy_line m H k s) (Step m P H (bind (copy k s)))
  unfolding copy_line
  copy_goes k s =
      past_object _ _ λ n target.
      past_permit _ _ _ _ λ no-foreign _ _.
      past_check _ _ _ λ room.
      goes_ok _ (by_copy k s n (record { target = target; near = any_false _ (met_here H n) no-foreign; room = leb-true _ _ room }))

  returned_step : (w : Operand) (v : Value) (vs : List Value) → Gave (objects_of H) H.frame.slots w v vs → (fs : List Frame) → H.callers ≡ fs
      → Step m P H (give w) (returned H.state H.self fs v)
  unfolding returned
  returned_step w v vs gave [] callers = by_finish w v vs gave callers
  returned_step w v vs gave (f ∷ fs) callers = by_return w v vs f fs gave callers

  give_goes : (w : Operand) → Goes (give_line H w) (Step m P H (give w))
  unfolding give_line
  give_goes w =
      past_pair _ _ (operand_gave _ _ w) λ v vs gave.
      goes_ok _ (returned_step w v vs gave H.callers refl)

  let_goes : (e : Expr) → Goes (let_line m P H e) (Step m P H (bind e))
  unfolding let_line
  let_goes (value w) = value_goes w
  let_goes (field s f) = field_goes s f
  let_goes (swap s f w) = swap_goes s f w
  let_goes (call s i w) = call_goes s i w
  let_goes (new k i ws) = new_goes k i ws
  let_goes (cast k w) = cast_goes k w
  let_goes (spawn b) = spawn_goes b
  let_goes (send s w) = send_goes H.sender s w refl
  let_goes (recv s) = recv_goes s
  let_goes (copy k s) = copy_goes k s

  line_goes : (x : Line) → Goes (perform m P H x) (Step m P H x)
  unfolding perform
  line_goes (bind e) = let_goes e
  line_goes (give w) = give_goes w

-- a line that moves has shown the facts of its way to move
pub stepped : (m : Mosts) (P : Program) (H : Here) (x : Line) (S : State) → perform m P H x ≡ ok S → Step m P H x S
stepped m P H x S e = (line_goes m P H x).holds S e

-- ---- The turn

turn_goes : (m : Mosts) (P : Program) (S : State) (t : ℕ) (fs : List Frame) → (thread_at S t).frames ≡ fs
    → Goes (turn_of m P S t (thread_at S t).sender fs) (Moved m P S t)
unfolding turn_of
turn_goes m P S t [] frames = goes_wait
turn_goes m P S t (f ∷ fs) frames = record { holds = λ S' e. go S' ((line_goes m P (here_at S t f fs) (line_at P f.block f.line)).holds S' e) }
  where
    go : (S' : State) → Step m P (here_at S t f fs) (line_at P f.block f.line) S' → Moved m P S t S'
    go S' step = record { frame = f; callers = fs; frames = frames; line = line_at P f.block f.line; at_line = refl; step = step }

-- a turn that moves has shown the facts of its way to move
pub moved : (m : Mosts) (P : Program) (S S' : State) (t : ℕ) → turn m P S t ≡ ok S' → Moved m P S t S'
unfolding turn
moved m P S S' t e = (turn_goes m P S t (thread_at S t).frames refl).holds S' e

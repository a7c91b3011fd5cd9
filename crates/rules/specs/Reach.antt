-- The reach of a thread: "every object reached from the thread's slots, in all frames, and on through fields"; and, by document 02's L1, from the
-- message that it put and that no thread has received yet.
use Rattle.std.specs.Prelude.{ℕ, suc, ◌+◌, ◌≤◌, ◌≡◌, cond, List, [], ◌∷◌, ◌++◌, ◌↔◌, eqb, length}
use Rattle.rules.specs.declared.Value.{Value}
use Rattle.rules.specs.declared.Value.TheVariants.{Absent, Obj, Chan}
use Rattle.rules.specs.Lists.{among, rising}
use Rattle.rules.specs.Script.{Program, value, field, swap, call, new, cast, spawn, send, recv, copy, Line, bind, give, line_at}
use Rattle.rules.specs.State.{Object, Frame, Sender, ready, waiting, Channel, State, object_at, thread_at, channel_at, slot_at}
use Rattle.rules.specs.Walk.{met_from}

-- 1 where the value is object n; and how many of these values are
abbrev pub count_one : ℕ → Value → ℕ
count_one n Absent = 0
count_one n (Obj k) = cond (eqb k n) 1 0
count_one n (Chan c) = 0

unfoldable pub count : ℕ → List Value → ℕ
count n [] = 0
count n (v ∷ vs) = count_one n v + count n vs

-- x is reached from object n: it is n, or a field of what is reached
pub data Reaches (os : List Object) (n : ℕ) : ℕ → Type 0 where
  here : {x : ℕ} → n ≡ x → Reaches os n x
  more : {y x : ℕ} → Reaches os n y → 1 ≤ count x (object_at os y).fields → Reaches os n x

pub record ReachedFrom (os : List Object) (vs : List Value) (x : ℕ) : Type 0 where
  pub first : ℕ
  pub held : 1 ≤ count first vs
  pub reaches : Reaches os first x

-- ---- Where a thread's reach starts

-- "from the thread's slots, in all frames"; "A finished thread reaches nothing."
unfoldable pub slots_of : List Frame → List Value
slots_of [] = []
slots_of (f ∷ fs) = f.slots ++ slots_of fs

-- message i of a channel, "as long as the channel still holds that message"; else Absent, which an empty channel holds too
unfoldable pub message_of : Channel → ℕ → Value
message_of ch i = cond (eqb ch.number i) ch.message Absent

-- the same of the channel that a slot holds
unfoldable pub message_on : State → ℕ → Value → Value
message_on S i Absent = Absent
message_on S i (Obj n) = Absent
message_on S i (Chan c) = message_of (channel_at S c) i

-- what the target slot of a send holds
unfoldable pub send_target : Line → List Value → Value
send_target (bind (value w)) vs = Absent
send_target (bind (field s f)) vs = Absent
send_target (bind (swap s f w)) vs = Absent
send_target (bind (call s i w)) vs = Absent
send_target (bind (new k n ws)) vs = Absent
send_target (bind (cast k w)) vs = Absent
send_target (bind (spawn b)) vs = Absent
send_target (bind (send s w)) vs = slot_at vs s
send_target (bind (recv s)) vs = Absent
send_target (bind (copy k s)) vs = Absent
send_target (give w) vs = Absent

-- L1: "the report for a waiting sender also starts from the message that it put"
unfoldable pub put_by : Program → State → Sender → List Frame → Value
put_by P S ready fs = Absent
put_by P S (waiting i) [] = Absent
put_by P S (waiting i) (f ∷ fs) = message_on S i (send_target (line_at P f.block f.line) f.slots)

unfoldable pub in_flight : Program → State → ℕ → Value
in_flight P S t = put_by P S (thread_at S t).sender (thread_at S t).frames

unfoldable pub roots : Program → State → ℕ → List Value
roots P S t = slots_of (thread_at S t).frames ++ (in_flight P S t ∷ [])

-- ---- The list

-- how often the number n stands in a list
unfoldable pub times : ℕ → List ℕ → ℕ
times n [] = 0
times n (x ∷ xs) = cond (eqb x n) 1 0 + times n xs

-- each number is greater than those before it, and all are n or more
abbrev pub RisingFrom : ℕ → List ℕ → Type 0
RisingFrom n [] = Unit {0}
RisingFrom n (x ∷ xs) = (n ≤ x) × RisingFrom (suc x) xs

-- "lists every object reached .., each once"; by document 02's L4 "Object numbers now come in rising order"
pub record Lists (os : List Object) (vs : List Value) (out : List ℕ) : Type 0 where
  pub reached : (x : ℕ) → (1 ≤ times x out) ↔ ReachedFrom os vs x
  pub rises : RisingFrom 0 out

-- L4: "The order is then free no more": it is such a list, and no other list is
pub record OneList (os : List Object) (vs : List Value) (out : List ℕ) : Type 0 where
  pub lists : Lists os vs out
  pub only : (other : List ℕ) → Lists os vs other → other ≡ out

-- A walk that meets each object once: from the numbers met, over the values to come, to all numbers met.
pub data Walked (os : List Object) : List ℕ → List Value → List ℕ → Type 0 where
  done : {met : List ℕ} → Walked os met [] met
  -- no object, or one that is met
  skip : {met out : List ℕ} {v : Value} {vs : List Value} → ((x : ℕ) → count_one x v ≤ times x met) → Walked os met vs out → Walked os met (v ∷ vs) out
  meet : {met out : List ℕ} {n : ℕ} {vs : List Value}
      → times n met ≡ 0 → Walked os (met ++ (n ∷ [])) ((object_at os n).fields ++ vs) out → Walked os met (Obj n ∷ vs) out

-- What the report lists: the objects met, in rising order.
unfoldable pub reach_list : List Object → List Value → List ℕ
reach_list os vs = rising (length os) (λ x. among x (met_from os vs))

-- Races. Document 02, L9: "Two turns that move race when different threads made them, each reads or swaps the same field of the same object, and at
-- least one swaps. They do not race if, between them, the first thread put a message from which the object was reached and the second afterwards
-- received one from which it was reached. A copy reads every field of every object it meets."
use Rattle.std.specs.Prelude.{ℕ, zero, suc, Bool, false, not, ◌&&◌, ◌||◌, List, [], ◌∷◌, ltb, eqb, length, get_or, take}
use Rattle.rules.specs.declared.Value.{Value}
use Rattle.rules.specs.declared.Value.TheVariants.{Absent, Obj, Chan}
use Rattle.rules.specs.declared.Event.{Event}
use Rattle.rules.specs.declared.Event.TheVariants.{Quiet, Reads, Swaps, Puts, Receives, Copies}
use Rattle.rules.specs.declared.Mosts.{Mosts}
use Rattle.rules.specs.Mosts as Most
use Rattle.rules.specs.Lists.{among, any_below, first_below, last_below}
use Rattle.rules.specs.Script.{Program, Expr, value, field, swap, call, new, cast, spawn, send, recv, copy, Line, bind, give, line_at}
use Rattle.rules.specs.Reading.{Reading, turned_away, accepted, reading, slot_of}
use Rattle.rules.specs.State.{Object, Frame, Sender, ready, waiting, State, thread_at, channel_at, slot_at}
use Rattle.rules.specs.Walk.{met_from}
use Rattle.rules.specs.Turn.{Res, ok, wait, stop, Here, turn}
use Rattle.rules.specs.Run.{Stop, none, stopped, Run, run}
use Rattle.rules.specs.Calls.{long_text, short_table}

-- ---- What a turn does, if it moves: a function of the state before it

-- where the value is an object
abbrev pub on_object : Value → (ℕ → Event) → Event
on_object Absent e = Quiet
on_object (Obj n) e = e n
on_object (Chan c) e = Quiet

-- the message of the channel that a slot holds
abbrev pub message_in : State → Value → Value
message_in S Absent = Absent
message_in S (Obj n) = Absent
message_in S (Chan c) = (channel_at S c).message

-- a send puts its message once; then its thread waits as the sender
abbrev pub put_event : Sender → Value → Event
put_event ready v = on_object v Puts
put_event (waiting i) v = Quiet

unfoldable pub let_event : Here → Expr → Event
let_event H (value w) = Quiet
let_event H (field s f) = on_object (slot_at H.frame.slots s) (λ n. Reads n f)
let_event H (swap s f w) = on_object (slot_at H.frame.slots s) (λ n. Swaps n f)
let_event H (call s i w) = Quiet
let_event H (new k n ws) = Quiet
let_event H (cast k w) = Quiet
let_event H (spawn b) = Quiet
let_event H (send s w) = put_event H.sender (slot_at H.frame.slots (slot_of w))
let_event H (recv s) = on_object (message_in H.state (slot_at H.frame.slots s)) Receives
let_event H (copy k s) = on_object (slot_at H.frame.slots s) Copies

unfoldable pub line_event : Here → Line → Event
line_event H (bind e) = let_event H e
line_event H (give w) = Quiet

-- of the turn of thread t; a finished or unstarted thread has no frame
unfoldable pub frames_event : Program → State → ℕ → List Frame → Event
frames_event P S t [] = Quiet
frames_event P S t (f ∷ fs) = line_event (record { state = S; self = t; sender = (thread_at S t).sender; frame = f; callers = fs }) (line_at P f.block f.line)

unfoldable pub event : Program → State → ℕ → Event
event P S t = frames_event P S t (thread_at S t).frames

-- "turns that move": one that waits or stops, or comes after the stop, does nothing
abbrev pub if_moves : Stop → Res State → Event → Event
if_moves none (ok S) e = e
if_moves none wait e = Quiet
if_moves none (stop k) e = Quiet
if_moves (stopped k t b l) r e = Quiet

-- ---- What an event is to an object, in a state with these objects

-- "from which the object was reached": the walk from object n meets x
unfoldable pub meets : List Object → (n x : ℕ) → Bool
meets os n x = among x (met_from os (Obj n ∷ []))

-- it reads field f of object n: "A copy reads every field of every object it meets." (No turn swaps a field that the object lacks.)
abbrev pub reads_of : List Object → Event → (n f : ℕ) → Bool
reads_of os Quiet n f = false
reads_of os (Reads x g) n f = eqb x n && eqb g f
reads_of os (Swaps x g) n f = false
reads_of os (Puts x) n f = false
reads_of os (Receives x) n f = false
reads_of os (Copies x) n f = meets os x n

-- it swaps field f of object n
abbrev pub swaps_of : Event → (n f : ℕ) → Bool
swaps_of Quiet n f = false
swaps_of (Reads x g) n f = false
swaps_of (Swaps x g) n f = eqb x n && eqb g f
swaps_of (Puts x) n f = false
swaps_of (Receives x) n f = false
swaps_of (Copies x) n f = false

-- it puts a message from which object n is reached
abbrev pub puts_of : List Object → Event → (n : ℕ) → Bool
puts_of os Quiet n = false
puts_of os (Reads x g) n = false
puts_of os (Swaps x g) n = false
puts_of os (Puts x) n = meets os x n
puts_of os (Receives x) n = false
puts_of os (Copies x) n = false

-- it receives one
abbrev pub receives_of : List Object → Event → (n : ℕ) → Bool
receives_of os Quiet n = false
receives_of os (Reads x g) n = false
receives_of os (Swaps x g) n = false
receives_of os (Puts x) n = false
receives_of os (Receives x) n = meets os x n
receives_of os (Copies x) n = false

-- ---- The turns of a run, by their places in the list

module _ (m : Mosts) (P : Program) (ts : List ℕ) where
  -- the run before turn k, and the objects that the turn finds
  unfoldable pub run_before : ℕ → Run
  run_before k = run m P (take k ts)

  abbrev pub objects_at : ℕ → List Object
  objects_at k = (run_before k).state.objects

  -- whose turn it is, and what it does
  abbrev pub thread_of : ℕ → ℕ
  thread_of k = get_or ts k 0

  unfoldable pub event_at : ℕ → Event
  event_at k = let r = run_before k in if_moves r.stop (turn m P r.state (thread_of k)) (event P r.state (thread_of k))

  unfoldable pub reads_at : (k n f : ℕ) → Bool
  reads_at k n f = reads_of (objects_at k) (event_at k) n f

  unfoldable pub swaps_at : (k n f : ℕ) → Bool
  swaps_at k n f = swaps_of (event_at k) n f

  unfoldable pub puts_at : (k n : ℕ) → Bool
  puts_at k n = puts_of (objects_at k) (event_at k) n

  unfoldable pub receives_at : (k n : ℕ) → Bool
  receives_at k n = receives_of (objects_at k) (event_at k) n

  -- ---- When turn i and a later turn j race

  -- "different threads made them"
  unfoldable pub apart : (i j : ℕ) → Bool
  apart i j = not (eqb (thread_of i) (thread_of j))

  -- "each reads or swaps the same field of the same object, and at least one swaps"
  unfoldable pub touches : (k n f : ℕ) → Bool
  touches k n f = reads_at k n f || swaps_at k n f

  unfoldable pub clash : (i j n f : ℕ) → Bool
  clash i j n f = touches i n f && (touches j n f && (swaps_at i n f || swaps_at j n f))

  -- "between them, the first thread put a message from which the object was reached and the second afterwards received one from which it was reached"
  unfoldable pub put_between : (i q n : ℕ) → Bool
  put_between i q n = any_below q (λ p. ltb i p && (eqb (thread_of p) (thread_of i) && puts_at p n))

  unfoldable pub handed_over : (i j n : ℕ) → Bool
  handed_over i j n = any_below j (λ q. (eqb (thread_of q) (thread_of j) && receives_at q n) && put_between i q n)

  -- they race on field f of object n
  unfoldable pub races_on : (i j n f : ℕ) → Bool
  races_on i j n f = apart i j && (clash i j n f && not (handed_over i j n))

  unfoldable pub races : (i j : ℕ) → Bool
  races i j = any_below m.objects (λ n. any_below Most.fields (races_on i j n))

-- ---- "says yes exactly if the run has a race", and names one: the earliest turn that races with one before it, the last turn before it that it races
-- with, the object and the field

pub data Verdict : Type 0 where
  norace : Verdict
  race : (first second object field : ℕ) → Verdict

module _ (m : Mosts) (P : Program) (ts : List ℕ) where
  -- the object and the field of turns i and j, which race
  unfoldable pub object_of : (i j : ℕ) → ℕ
  object_of i j = first_below m.objects (λ n. any_below Most.fields (races_on m P ts i j n))

  unfoldable pub field_on : (i j n : ℕ) → ℕ
  field_on i j n = first_below Most.fields (races_on m P ts i j n)

  -- turn j, and one more than the last turn before it that it races with, or 0
  abbrev pub named : (j last : ℕ) → Verdict
  named j zero = norace
  named j (suc i) = race i j (object_of i j) (field_on i j (object_of i j))

  abbrev pub or_else : Verdict → Verdict → Verdict
  or_else norace v = v
  or_else (race i j n f) v = race i j n f

  -- of the first k turns
  unfoldable pub verdict_of : ℕ → Verdict
  verdict_of zero = norace
  verdict_of (suc j) = or_else (verdict_of j) (named j (last_below j (λ i. races m P ts i j)))

  unfoldable pub verdict : Verdict
  verdict = verdict_of (length ts)

-- ---- "an entry that takes a run's inputs, with at most 1,024 turns .. More turns are 1 there."

unfoldable pub race_call : Mosts → (text turns program state : List ℕ) → Reading
race_call m text turns program state =
    reading m (long_text text || ltb Most.race_turns (length turns)) (short_table program || short_table state) text

pub data Judged : Type 0 where
  unjudged : (number line : ℕ) → Judged
  judged : Verdict → Judged

abbrev pub judged_of : Mosts → (turns : List ℕ) → Reading → Judged
judged_of m turns (turned_away k n) = unjudged k n
judged_of m turns (accepted P) = judged (verdict m P turns)

-- What is known of an event by the state before its turn: its object is there, what it meets too; where the turn moves, so is the field that it reads or swaps.
use Rattle.std.proofs.Common.{ℕ, ◌<◌, arith, ◌≡◌, refl, sym, ap, ◌∙◌, subst, List, [], ◌∷◌, ◌⊎◌, inl, inr, length}
use Rattle.rules.specs.declared.Value.{Value}
use Rattle.rules.specs.declared.Value.TheVariants.{Absent, Obj, Chan}
use Rattle.rules.specs.declared.Event.{Event}
use Rattle.rules.specs.declared.Event.TheVariants.{Quiet, Reads, Swaps, Puts, Receives, Copies}
use Rattle.rules.specs.declared.Mosts.{Mosts}
use Rattle.rules.specs.Mosts as Most
use Rattle.rules.specs.Lists.{Every}
use Rattle.rules.specs.Script.{Program, value, field, swap, call, new, cast, spawn, send, recv, copy, Line, bind, give, line_at}
use Rattle.rules.specs.Reading.{slot_of}
use Rattle.rules.specs.State.{Object, Frame, Sender, ready, waiting, State, object_at, thread_at, slot_at}
use Rattle.rules.specs.Turn.{ok, is_absent, left_by, Here, objects_of, object, turn}
use Rattle.rules.specs.Fits.{InRange, Fits}
use Rattle.rules.specs.Walk.{met_from}
use Rattle.rules.specs.Races.{on_object, message_in, put_event, let_event, line_event, frames_event, event}
use Rattle.rules.proofs.Counts.{every_time}
use Rattle.rules.proofs.Walks.{walked_range, met_walked}
use Rattle.rules.proofs.Moves.{left_was_there, Step, by_value, by_field, by_swap, by_call, by_new, by_cast, by_spawn, by_put, by_sent, by_recv, by_copy, by_return, by_finish, here_at, moved}
use Rattle.rules.proofs.Keeps.{HereFits, here_fits, slot_range, object_fits, fields_in_range, channel_fits}
use Rattle.races.specs.Events.{ObjectBelow, met_by}

-- ---- The event of a thread's frames

-- the event of the line where thread t stands
pub event_at_lem : (P : Program) (S : State) (t : ℕ) {f : Frame} {fs : List Frame} → (thread_at S t).frames ≡ f ∷ fs
    → event P S t ≡ line_event (here_at S t f fs) (line_at P f.block f.line)
unfolding event frames_event
event_at_lem P S t frames = ap (frames_event P S t) frames

-- ---- Its object is there

on_object_below : (o c : ℕ) (v : Value) (e : ℕ → Event) → ((n : ℕ) → n < o → ObjectBelow o (e n)) → InRange o c v → ObjectBelow o (on_object v e)
on_object_below o c Absent e below within = tt
on_object_below o c (Obj n) e below within = below n within
on_object_below o c (Chan k) e below within = tt

put_below : (o c : ℕ) (d : Sender) (v : Value) → InRange o c v → ObjectBelow o (put_event d v)
put_below o c ready v within = on_object_below o c v Puts (λ n below. below) within
put_below o c (waiting i) v within = tt

module _ {m : Mosts} {P : Program} {n : ℕ} where
  -- a message that is read is one of the state's values
  pub message_made : {S : State} → Fits m P n S → (v : Value) → InRange (length S.objects) (length S.threads) (message_in S v)
  message_made fits Absent = tt
  message_made fits (Obj k) = tt
  message_made fits (Chan c) = (channel_fits fits c).message

  module _ (H : Here) (here : HereFits m P n H) where
    slot_made : (s : ℕ) → InRange (length H.state.objects) (length H.state.threads) (slot_at H.frame.slots s)
    slot_made s = slot_range _ _ H.frame.slots s here.frame.slots

    line_made : (x : Line) → ObjectBelow (length H.state.objects) (line_event H x)
    unfolding line_event let_event
    line_made (bind (value w)) = tt
    line_made (bind (field s f)) = on_object_below _ _ (slot_at H.frame.slots s) (λ k. Reads k f) (λ k below. below) (slot_made s)
    line_made (bind (swap s f w)) = on_object_below _ _ (slot_at H.frame.slots s) (λ k. Swaps k f) (λ k below. below) (slot_made s)
    line_made (bind (call s i w)) = tt
    line_made (bind (new k i ws)) = tt
    line_made (bind (cast k w)) = tt
    line_made (bind (spawn b)) = tt
    line_made (bind (send s w)) = put_below _ _ H.sender (slot_at H.frame.slots (slot_of w)) (slot_made (slot_of w))
    line_made (bind (recv s)) =
        let v = slot_at H.frame.slots s in
        on_object_below _ _ (message_in H.state v) Receives (λ k below. below) (message_made here.state v)
    line_made (bind (copy k s)) = on_object_below _ _ (slot_at H.frame.slots s) Copies (λ k below. below) (slot_made s)
    line_made (give w) = tt

  frames_made : {S : State} → Fits m P n S → (t : ℕ) (fs : List Frame) → (thread_at S t).frames ≡ fs → ObjectBelow (length S.objects) (frames_event P S t fs)
  unfolding frames_event
  frames_made fits t [] frames = tt
  frames_made {S} fits t (f ∷ fs) frames = line_made (here_at S t f fs) (here_fits m P n S t f fs fits frames) (line_at P f.block f.line)

-- the object of an event is one that was made
pub event_made : {m : Mosts} {P : Program} {n : ℕ} {S : State} → Fits m P n S → (t : ℕ) → ObjectBelow (length S.objects) (event P S t)
unfolding event
event_made {S = S} fits t = frames_made fits t (thread_at S t).frames refl

-- ---- What it meets is there

module _ {m : Mosts} {P : Program} {n : ℕ} {S : State} (fits : Fits m P n S) where
  from_below : (x : ℕ) → x < length S.objects → Every (λ y. y < length S.objects) (met_from S.objects (Obj x ∷ []))
  from_below x there =
      every_time (λ y. y < length S.objects) (met_from S.objects (Obj x ∷ []))
      (walked_range S.objects _ _ (fields_in_range fits) (there, tt) (met_walked S.objects (Obj x ∷ [])))

  -- the objects met by an event were made
  pub met_below_lem : (e : Event) → ObjectBelow (length S.objects) e → Every (λ x. x < length S.objects) (met_by S.objects e)
  met_below_lem Quiet there = tt
  met_below_lem (Reads x f) there = tt
  met_below_lem (Swaps x f) there = tt
  met_below_lem (Puts x) there = from_below x there
  met_below_lem (Receives x) there = from_below x there
  met_below_lem (Copies x) there = from_below x there

-- ---- Where the turn moves

-- the field that an event reads or swaps is there
abbrev FieldThere : List Object → Event → Type 0
FieldThere os Quiet = Unit {0}
FieldThere os (Reads n f) = f < length (object_at os n).fields
FieldThere os (Swaps n f) = f < length (object_at os n).fields
FieldThere os (Puts n) = Unit {0}
FieldThere os (Receives n) = Unit {0}
FieldThere os (Copies n) = Unit {0}

on_object_field : (os : List Object) (v : Value) (e : ℕ → Event) → ((n : ℕ) → FieldThere os (e n)) → FieldThere os (on_object v e)
on_object_field os Absent e there = tt
on_object_field os (Obj n) e there = there n
on_object_field os (Chan c) e there = tt

put_field : (os : List Object) (d : Sender) (v : Value) → FieldThere os (put_event d v)
put_field os ready v = on_object_field os v Puts (λ n. tt)
put_field os (waiting i) v = tt

-- the check of a field's number comes before the move
step_field : {m : Mosts} {P : Program} {H : Here} {x : Line} {S₁ : State} → Step m P H x S₁ → FieldThere (objects_of H) (line_event H x)
unfolding line_event let_event object is_absent
step_field (by_value w v vs gave) = tt
step_field (by_field s f n read) = rw read.target read.has_field
step_field {H = H} (by_swap s f w n u vs swapped) =
    let left : slot_at (left_by H.frame.slots w) s ≡ Obj n = ap (λ (us : List Value). slot_at us s) (sym swapped.gave.slots) ∙ swapped.target in
    rw (left_was_there H.frame.slots w s refl left) swapped.has_field
step_field (by_call s i w n v vs called) = tt
step_field (by_new k i ws ns vs made) = tt
step_field (by_cast k w n vs same) = tt
step_field (by_spawn b room) = tt
step_field {H = H} (by_put s w c n vs put) = put_field (objects_of H) H.sender (slot_at H.frame.slots (slot_of w))
step_field {H = H} (by_sent s w i c taken) = put_field (objects_of H) H.sender (slot_at H.frame.slots (slot_of w))
step_field {H = H} (by_recv s c received) = on_object_field (objects_of H) (message_in H.state (slot_at H.frame.slots s)) Receives (λ n. tt)
step_field {H = H} (by_copy k s n copied) = on_object_field (objects_of H) (slot_at H.frame.slots s) Copies (λ n. tt)
step_field (by_return w v vs f fs gave callers) = tt
step_field (by_finish w v vs gave callers) = tt

field_there : (m : Mosts) (P : Program) (S : State) {S₁ : State} (t : ℕ) → turn m P S t ≡ ok S₁ → FieldThere S.objects (event P S t)
field_there m P S {S₁} t moves =
    let way = moved m P S S₁ t moves in
    rw (event_at_lem P S t way.frames, way.at_line) (step_field way.step)

-- a turn that moves reads and swaps only fields that are there
pub moved_field : (m : Mosts) (P : Program) (S : State) {S₁ : State} (t : ℕ) → turn m P S t ≡ ok S₁ → (n f : ℕ) → (event P S t ≡ Reads n f) ⊎ (event P S t ≡ Swaps n f)
    → f < length (object_at S.objects n).fields
moved_field m P S t moves n f (inl is) = subst (FieldThere S.objects) is (field_there m P S t moves)
moved_field m P S t moves n f (inr is) = subst (FieldThere S.objects) is (field_there m P S t moves)

-- and so one of the four
pub moved_field_few : {m : Mosts} {P : Program} {k : ℕ} {S S₁ : State} → Fits m P k S → (t : ℕ) → turn m P S t ≡ ok S₁
    → (n f : ℕ) → (event P S t ≡ Reads n f) ⊎ (event P S t ≡ Swaps n f) → f < Most.fields
moved_field_few {m} {P} {k} {S} fits t moves n f touches =
    omega (arith, moved_field m P S t moves n f touches, (object_fits fits n (object_there touches)).few)
  where
    object_there : (event P S t ≡ Reads n f) ⊎ (event P S t ≡ Swaps n f) → n < length S.objects
    object_there (inl is) = subst (ObjectBelow (length S.objects)) is (event_made fits t)
    object_there (inr is) = subst (ObjectBelow (length S.objects)) is (event_made fits t)

-- the thread of a turn that moves is there
pub moved_thread : {m : Mosts} {P : Program} {k : ℕ} {S S₁ : State} → Fits m P k S → (t : ℕ) → turn m P S t ≡ ok S₁ → t < length S.threads
moved_thread {m} {P} {k} {S} {S₁} fits t moves =
    let way = moved m P S S₁ t moves in
    (here_fits m P k S t way.frame way.callers fits way.frames).self

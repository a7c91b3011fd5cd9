-- The holders of an object are a sum over all places, and each way to move changes few of them: what a turn gains and loses is what the sum gains and loses.
use Prim.Native.Nat.{ℕ, zero, suc, ◌+◌, ◌*◌, ◌≤◌, ◌<◌}
use native.Mathlib.Nat.{suc-mul}
use native.Mathlib.Omega.{arith}
use mathlib.Core.Path.{◌≡◌, refl, sym, ap, ◌∙◌, subst}
use mathlib.Core.Bool.{true}
use mathlib.Core.List.{List, [], ◌∷◌, ◌++◌, map}
use lib.Dec.{eqb}
use lib.ListN.{length, get_or, set, get_or-append}
use Rattle.rules.specs.declared.Cap.{Cap}
use Rattle.rules.specs.declared.Value.{Value}
use Rattle.rules.specs.declared.Value.TheVariants.{Absent, Obj, Chan}
use Rattle.rules.specs.declared.Mosts.{Mosts}
use Rattle.rules.specs.Mosts as Most
use Rattle.rules.specs.Lists.{Every}
use Rattle.rules.specs.Script.{Program, Operand, reads, takes, copy, Line}
use Rattle.rules.specs.Reading.{slot_of}
use Rattle.rules.specs.State.{Object, no_object, Frame, Sender, ready, waiting, Thread, no_thread, Channel, empty_channel, State, object_at, thread_at, channel_at, slot_at}
use Rattle.rules.specs.Turn.{ok, is_absent, left_by, renamed, Here, objects_of, object, put_thread, put_objects, put_channel, filled, with_slots, gives, set_field, started, copy_of, turn}
use Rattle.rules.specs.Fits.{InRange, FrameFits, ObjectFits, ThreadFits, ChannelFits, Fits}
use Rattle.rules.specs.Reach.{count_one, count, slots_of}
use Rattle.rules.specs.Holders.{total, in_slots, in_fields, in_message, holders}
use Rattle.rules.specs.HolderChanges.{operand_gained, operands_gained, put_gained, field_of, copied_fields, let_gained, return_gained, line_gained, line_lost, frames_gained, frames_lost, gained, lost}
use Rattle.rules.specs.Stripped.{erase_object, erase}
use Rattle.rules.proofs.ListLaws.{impossible, by_bool, every_map, length_snoc}
use Rattle.rules.proofs.Counts.{count_append, count_range}
use Rattle.rules.proofs.Moves.{Gave, left_was_there, GaveAll, no_more, one_more, FieldRead, FieldSwapped, MethodCalled, ObjectMade, MessagePut, MessageReceived, met_here, GraphCopied, swapped_objects, called_frame, made_object, with_copies, copied_state, next_number, put_message, emptied, Step, by_value, by_field, by_swap, by_call, by_new, by_cast, by_spawn, by_put, by_sent, by_recv, by_copy, by_return, by_finish, moved}
use Rattle.rules.proofs.Keeps.{slot_range, left_range, object_in_range, each_frame, HereFits, here_fits}

-- ---- Sums

module _ {A : Type 0} (f : A → ℕ) where
  pub total_append : (l k : List A) → total f (l ++ k) ≡ total f l + total f k
  unfolding total
  total_append [] k = omega arith
  total_append (x ∷ xs) k = omega (arith, total_append xs k)

  pub total_put : (l : List A) (i : ℕ) (a d : A) → i < length l → total f (set l i a) + f (get_or l i d) ≡ total f l + f a
  unfolding total
  total_put [] i a d there = absurd (omega arith)
  total_put (x ∷ xs) zero a d there = omega arith
  total_put (x ∷ xs) (suc i) a d there = omega (arith, total_put xs i a d (omega arith))

  -- where each part is nothing, and where each is at most b
  total_none : (l : List A) → Every (λ x. f x ≡ 0) l → total f l ≡ 0
  unfolding total
  total_none [] e = refl
  total_none (x ∷ xs) e = omega (arith, e.0, total_none xs e.1)

  total_few : (b : ℕ) (l : List A) → Every (λ x. f x ≤ b) l → total f l ≤ length l * b
  unfolding total
  total_few b [] e = omega arith
  total_few b (x ∷ xs) e = omega (arith, e.0, total_few b xs e.1, suc-mul (length xs) b)

module _ (n : ℕ) where
  count_put : (vs : List Value) (s : ℕ) (v : Value) → s < length vs → count n (set vs s v) + count_one n (slot_at vs s) ≡ count n vs + count_one n v
  unfolding count slot_at
  count_put [] s v there = absurd (omega arith)
  count_put (x ∷ vs) zero v there = omega arith
  count_put (x ∷ vs) (suc s) v there = omega (arith, count_put vs s v (omega arith))

  -- a slot that is not there holds nothing
  pub count_take : (vs : List Value) (s : ℕ) → count n (set vs s Absent) + count_one n (slot_at vs s) ≡ count n vs
  unfolding count slot_at
  count_take [] s = omega arith
  count_take (x ∷ vs) zero = omega arith
  count_take (x ∷ vs) (suc s) = omega (arith, count_take vs s)

  pub count_snoc : (vs : List Value) (v : Value) → count n (vs ++ (v ∷ [])) ≡ count n vs + count_one n v
  unfolding count
  count_snoc vs v = omega (arith, count_append n vs (v ∷ []))

  pub one_at_most : (v : Value) → count_one n v ≤ 1
  one_at_most Absent = omega arith
  one_at_most (Obj k) = by_bool (eqb k n) (λ e. rw e (omega arith)) (λ e. rw e (omega arith))
  one_at_most (Chan c) = omega arith

  pub absent_unheld : (v : Value) → is_absent v ≡ true → count_one n v ≡ 0
  unfolding is_absent
  absent_unheld Absent h = refl
  absent_unheld (Obj k) h = impossible cc
  absent_unheld (Chan c) h = refl

-- ---- Operands: what they give leaves the slots or is gained

module _ (n : ℕ) {os : List Object} where
  gave_changes : {vs left : List Value} {v : Value} (w : Operand) → Gave os vs w v left → count n left + count_one n v ≡ count n vs + count n (operand_gained vs w)
  unfolding count
  gave_changes {vs = vs} (reads s) gave = rw (gave.slots, ← gave.value) (omega arith)
  gave_changes {vs = vs} (takes s) gave = rw (gave.slots, ← gave.value) (omega (arith, count_take n vs s))

  pub gave_all_changes : {vs us left : List Value} {ws : List Operand} → GaveAll os vs ws us left → count n left + count n us ≡ count n vs + count n (operands_gained vs ws)
  unfolding count operands_gained
  gave_all_changes no_more = refl
  gave_all_changes {vs = vs} (one_more {next = next} {w = w} {ws = ws} gave rest) =
      let same : count n (operands_gained next ws) ≡ count n (operands_gained (left_by vs w) ws) = ap (λ l. count n (operands_gained l ws)) gave.slots in
      omega (arith, gave_changes w gave, gave_all_changes rest, count_append n (operand_gained vs w) (operands_gained (left_by vs w) ws))

-- an object that a slot holds after an operand, it held before
pub target_held : {os : List Object} {vs left : List Value} {v : Value} (w : Operand) (s n : ℕ) → Gave os vs w v left → slot_at left s ≡ Obj n → slot_at vs s ≡ Obj n
unfolding is_absent
target_held {vs = vs} w s n gave target = left_was_there vs w s refl (rw gave.slots at target)

-- ---- Each edit of a state

module _ (n : ℕ) where
  thread_changes : (S : State) (t : ℕ) (fs : List Frame) (d : Sender) → t < length S.threads
      → holders (put_thread S t fs d) n + count n (slots_of (thread_at S t).frames) ≡ holders S n + count n (slots_of fs)
  unfolding holders put_thread thread_at in_slots
  thread_changes S t fs d there = omega (arith, total_put (in_slots n) S.threads t (record { frames = fs; sender = d }) no_thread there)

  object_changes : (S : State) (i : ℕ) (o : Object) → i < length S.objects
      → holders (put_objects S (set S.objects i o)) n + count n (object_at S.objects i).fields ≡ holders S n + count n o.fields
  unfolding holders put_objects object_at in_fields
  object_changes S i o there = omega (arith, total_put (in_fields n) S.objects i o no_object there)

  objects_added : (S : State) (os : List Object) → holders (put_objects S (S.objects ++ os)) n ≡ holders S n + total (in_fields n) os
  unfolding holders put_objects
  objects_added S os = omega (arith, total_append (in_fields n) S.objects os)

  channel_changes : (S : State) (c : ℕ) (ch : Channel) → c < length S.channels
      → holders (put_channel S c ch) n + count_one n (channel_at S c).message ≡ holders S n + count_one n ch.message
  unfolding holders put_channel channel_at in_message
  channel_changes S c ch there = omega (arith, total_put (in_message n) S.channels c ch empty_channel there)

  started_same : (S : State) (b : ℕ) → holders (started S b) n ≡ holders S n
  unfolding holders started total in_slots in_message slots_of count
  started_same S b =
      omega (
        arith,
        total_append (in_slots n) S.threads (record { frames = record { block = b; line = 0; slots = Chan (length S.threads) ∷ [] } ∷ []; sender = ready } ∷ []),
        total_append (in_message n) S.channels (empty_channel ∷ []),
      )

  -- the let gives v in a state S in which the thread stands where it stood
  gives_changes : (H : Here) (S : State) → H.self < length S.threads → (thread_at S H.self).frames ≡ H.frame ∷ H.callers → (vs : List Value) (v : Value)
      → holders (gives S H vs v) n + count n H.frame.slots ≡ holders S n + (count n vs + count_one n v)
  unfolding gives filled slots_of
  gives_changes H S there frames vs v =
      let put : holders (gives S H vs v) n + count n (slots_of (H.frame ∷ H.callers)) ≡ holders S n + count n (slots_of (filled H.frame vs v ∷ H.callers)) =
      rw frames at (thread_changes S H.self (filled H.frame vs v ∷ H.callers) ready there) in
      omega (
        arith,
        count_append n H.frame.slots (slots_of H.callers),
        count_append n (vs ++ (v ∷ [])) (slots_of H.callers),
        count_snoc n vs v,
      )

  -- the copies hold what was gained for them
  copies_hold : (H : Here) (k : Cap) (met ns : List ℕ) → total (in_fields n) (map (copy_of H k met) ns) ≡ count n (copied_fields (objects_of H) met ns)
  unfolding total in_fields copy_of object copied_fields count
  copies_hold H k met [] = refl
  copies_hold H k met (i ∷ ns) =
      omega (
        arith,
        copies_hold H k met ns,
        count_append n (map (renamed (length (objects_of H)) met) (object_at (objects_of H) i).fields) (copied_fields (objects_of H) met ns),
      )

-- ---- Each way to move

-- the values in `more` each get a holder more in S₁, those in `less` each one less
pub record Changed (S S₁ : State) (n : ℕ) (more less : List Value) : Type 0 where
  pub sum : holders S₁ n + count n less ≡ holders S n + count n more

module _ {m : Mosts} {P : Program} {k : ℕ} (H : Here) (here : HereFits m P k H) (frames : (thread_at H.state H.self).frames ≡ H.frame ∷ H.callers) (n : ℕ) where
  object_in : {os : List Object} {v : Value} {vs : List Value} (w : Operand) (s i : ℕ) → Gave os H.frame.slots w v vs → slot_at vs s ≡ Obj i → i < length (objects_of H)
  object_in {vs = vs} w s i gave target =
      subst (InRange (length H.state.objects) (length H.state.threads)) target (slot_range _ _ vs s (left_range _ _ w gave here.frame.slots))

  channel_in : (vs : List Value) (s c : ℕ) → Every (InRange (length H.state.objects) (length H.state.threads)) vs → slot_at vs s ≡ Chan c → c < length H.state.channels
  channel_in vs s c slots target =
      let there : c < length H.state.threads = subst (InRange (length H.state.objects) (length H.state.threads)) target (slot_range _ _ vs s slots) in
      omega (arith, here.state.channel_each)

  -- the let gives v, and nothing else changes
  here_changes : (more vs : List Value) (v : Value) → count n vs + count_one n v ≡ count n H.frame.slots + count n more
      → Changed H.state (gives H.state H vs v) n more []
  unfolding count
  here_changes more vs v even = record { sum = omega (arith, gives_changes n H H.state here.self frames vs v) }

  field_changes : (s f i : ℕ) → FieldRead H s f i
      → Changed H.state (gives H.state H H.frame.slots (slot_at (object H i).fields f)) n (field_of (objects_of H) (slot_at H.frame.slots s) f ∷ []) []
  unfolding object count
  field_changes s f i read = rw read.target (here_changes _ H.frame.slots (slot_at (object_at (objects_of H) i).fields f) (omega arith))

  swap_changes : (s f : ℕ) (w : Operand) (i u : ℕ) (vs : List Value) → FieldSwapped H s f w i u vs
      → Changed H.state (gives (put_objects H.state (swapped_objects H i f u)) H vs (slot_at (object H i).fields f)) n (operand_gained H.frame.slots w) []
  unfolding object set_field put_objects thread_at count
  swap_changes s f w i u vs swapped =
      let o : Object = set_field (object H i) f (Obj u) in
      let put = object_changes n H.state i o (object_in w s i swapped.gave swapped.target) in
      let given = gives_changes n H (put_objects H.state (swapped_objects H i f u)) here.self frames vs (slot_at (object H i).fields f) in
      record { sum = omega (arith, put, given, count_put n (object H i).fields f (Obj u) swapped.has_field, gave_changes n w swapped.gave) }

  call_changes : (s i : ℕ) (w : Operand) (j : ℕ) (v : Value) (vs : List Value) → MethodCalled P H s i w j v vs
      → Changed H.state (put_thread H.state H.self (called_frame P H i j v ∷ with_slots H.frame vs ∷ H.callers) ready) n
      (slot_at H.frame.slots s ∷ operand_gained H.frame.slots w) []
  unfolding with_slots slots_of count
  call_changes s i w j v vs called =
      let now : List Frame = called_frame P H i j v ∷ with_slots H.frame vs ∷ H.callers in
      let put : holders (put_thread H.state H.self now ready) n + count n (slots_of (H.frame ∷ H.callers)) ≡ holders H.state n + count n (slots_of now) =
      rw frames at (thread_changes n H.state H.self now ready here.self) in
      rw (target_held w s j called.gave called.target)
      (record {
        sum = omega (
          arith,
          put,
          gave_changes n w called.gave,
          count_append n H.frame.slots (slots_of H.callers),
          count_append n vs (slots_of H.callers),
        );
      })

  new_changes : (c : Cap) (i : ℕ) (ws : List Operand) (js : List ℕ) (vs : List Value) → ObjectMade m H c ws js vs
      → Changed H.state (gives (put_objects H.state (objects_of H ++ (made_object H c i js ∷ []))) H vs (Obj (length (objects_of H)))) n
      (Obj (length (objects_of H)) ∷ operands_gained H.frame.slots ws) []
  unfolding total in_fields put_objects thread_at count
  new_changes c i ws js vs made =
      let o : Object = made_object H c i js in
      record {
        sum = omega (
          arith,
          objects_added n H.state (o ∷ []),
          gives_changes n H (put_objects H.state (objects_of H ++ (o ∷ []))) here.self frames vs (Obj (length (objects_of H))),
          gave_all_changes n made.gave,
        );
      }

  spawn_changes : (b : ℕ) → Changed H.state (gives (started H.state b) H H.frame.slots (Chan (length H.state.threads))) n [] []
  unfolding started thread_at
  spawn_changes b =
      let longer : length (started H.state b).threads ≡ length H.state.threads + 1 = length_snoc H.state.threads _ in
      let still : (thread_at (started H.state b) H.self).frames ≡ H.frame ∷ H.callers =
      ap (λ x. x.frames) (get_or-append H.state.threads _ no_thread H.self here.self) ∙ frames in
      record {
        sum = omega (
          arith,
          started_same n H.state b,
          gives_changes n H (started H.state b) (omega (arith, here.self)) still H.frame.slots (Chan (length H.state.threads)),
        );
      }

  put_changes : (s : ℕ) (w : Operand) (c i : ℕ) (vs : List Value) → MessagePut H s w c i vs
      → Changed H.state (put_thread (put_message H c i) H.self (with_slots H.frame vs ∷ H.callers) (waiting (next_number H c))) n (operand_gained H.frame.slots w) []
  unfolding with_slots slots_of put_channel thread_at count
  put_changes s w c i vs put =
      let now : List Frame = with_slots H.frame vs ∷ H.callers in
      let ch : Channel = record { message = Obj i; number = next_number H c } in
      let slots : holders (put_thread (put_message H c i) H.self now (waiting (next_number H c))) n + count n (slots_of (H.frame ∷ H.callers))
      ≡ holders (put_message H c i) n + count n (slots_of now) =
      rw frames at (thread_changes n (put_message H c i) H.self now (waiting (next_number H c)) here.self) in
      record {
        sum = omega (
          arith,
          slots,
          channel_changes n H.state c ch (channel_in vs s c (left_range _ _ w put.gave here.frame.slots) put.target),
          absent_unheld n (channel_at H.state c).message put.empty,
          gave_changes n w put.gave,
          count_append n H.frame.slots (slots_of H.callers),
          count_append n vs (slots_of H.callers),
        );
      }

  recv_changes : (s c : ℕ) → MessageReceived H s c → Changed H.state (gives (emptied H c) H H.frame.slots (channel_at H.state c).message) n [] []
  unfolding put_channel thread_at
  recv_changes s c received =
      let ch : Channel = record { message = Absent; number = (channel_at H.state c).number } in
      record {
        sum = omega (
          arith,
          channel_changes n H.state c ch (channel_in H.frame.slots s c here.frame.slots received.target),
          gives_changes n H (emptied H c) here.self frames H.frame.slots (channel_at H.state c).message,
        );
      }

  copy_changes : (c : Cap) (s i : ℕ) → GraphCopied m H s i → Changed H.state (copied_state H c i) n (let_gained H (copy c s)) []
  unfolding put_objects thread_at count let_gained
  copy_changes c s i copied =
      rw copied.target
      (record {
        sum = omega (
          arith,
          objects_added n H.state (map (copy_of H c (met_here H i)) (met_here H i)),
          gives_changes n H (put_objects H.state (with_copies H c i)) here.self frames H.frame.slots (Obj (length (objects_of H))),
          copies_hold n H c (met_here H i) (met_here H i),
        );
      })

  return_changes : (w : Operand) (v : Value) (vs : List Value) (f : Frame) (fs : List Frame) → Gave (objects_of H) H.frame.slots w v vs → H.callers ≡ f ∷ fs
      → Changed H.state (put_thread H.state H.self (filled f f.slots v ∷ fs) ready) n
      (return_gained H.callers (slot_at H.frame.slots (slot_of w))) H.frame.slots
  unfolding filled slots_of count
  return_changes w v vs f fs gave callers =
      let now : List Frame = filled f f.slots v ∷ fs in
      let put : holders (put_thread H.state H.self now ready) n + count n (slots_of (H.frame ∷ f ∷ fs)) ≡ holders H.state n + count n (slots_of now) =
      rw (frames, callers) at (thread_changes n H.state H.self now ready here.self) in
      rw (callers, gave.value)
      (record {
        sum = omega (
          arith,
          put,
          count_append n H.frame.slots (slots_of (f ∷ fs)),
          count_append n f.slots (slots_of fs),
          count_append n (f.slots ++ (v ∷ [])) (slots_of fs),
          count_snoc n f.slots v,
        );
      })

  finish_changes : (w : Operand) → H.callers ≡ []
      → Changed H.state (put_thread H.state H.self [] ready) n (return_gained H.callers (slot_at H.frame.slots (slot_of w))) H.frame.slots
  unfolding slots_of count
  finish_changes w callers =
      let put : holders (put_thread H.state H.self [] ready) n + count n (slots_of (H.frame ∷ [])) ≡ holders H.state n + count n (slots_of []) =
      rw (frames, callers) at (thread_changes n H.state H.self [] ready here.self) in
      rw callers (record { sum = omega (arith, put, count_append n H.frame.slots []) })

  -- whichever way it was
  line_changes : (x : Line) (S₁ : State) → Step m P H x S₁ → Changed H.state S₁ n (line_gained H x) (line_lost H x)
  unfolding line_gained line_lost let_gained count
  line_changes x S₁ (by_value w v vs gave) = here_changes _ vs v (gave_changes n w gave)
  line_changes x S₁ (by_field s f i read) = field_changes s f i read
  line_changes x S₁ (by_swap s f w i u vs swapped) = swap_changes s f w i u vs swapped
  line_changes x S₁ (by_call s i w j v vs called) = call_changes s i w j v vs called
  line_changes x S₁ (by_new c i ws js vs made) = new_changes c i ws js vs made
  line_changes x S₁ (by_cast c w i vs cast) = here_changes _ vs (Obj i) (gave_changes n w cast.gave)
  line_changes x S₁ (by_spawn b room) = spawn_changes b
  line_changes x S₁ (by_put s w c i vs put) = rw put.sender (put_changes s w c i vs put)
  line_changes x S₁ (by_sent s w i c taken) =
      subst (λ d. Changed H.state (gives H.state H H.frame.slots (Chan c)) n (put_gained d H.frame.slots w) []) (sym taken.sender)
      (here_changes [] H.frame.slots (Chan c) refl)
  line_changes x S₁ (by_recv s c received) = recv_changes s c received
  line_changes x S₁ (by_copy c s i copied) = copy_changes c s i copied
  line_changes x S₁ (by_return w v vs f fs gave callers) = return_changes w v vs f fs gave callers
  line_changes x S₁ (by_finish w v vs gave callers) = finish_changes w callers

-- from where a turn stands: what its line gains and loses
pub step_changes : {m : Mosts} {P : Program} {k : ℕ} {H : Here} {x : Line} {S₁ : State} → Fits m P k H.state → (thread_at H.state H.self).frames ≡ H.frame ∷ H.callers
    → Step m P H x S₁ → (n : ℕ) → holders S₁ n + count n (line_lost H x) ≡ holders H.state n + count n (line_gained H x)
step_changes {m} {P} {k} {H} {x} {S₁} fits frames step n =
    let its = here_fits m P k H.state H.self H.frame H.callers fits frames in
    let here : HereFits m P k H = record { state = its.state; self = its.self; few = its.few; frame = its.frame; callers = its.callers } in
    (line_changes H here frames n x S₁ step).sum

-- a turn that moves
pub turn_changes : (m : Mosts) (P : Program) (k : ℕ) (S S₁ : State) (t : ℕ) → Fits m P k S → turn m P S t ≡ ok S₁
    → (n : ℕ) → holders S₁ n + count n (lost P S t) ≡ holders S n + count n (gained P S t)
unfolding gained lost frames_gained frames_lost
turn_changes m P k S S₁ t fits goes n =
    let way = moved m P S S₁ t goes in
    rw (way.frames, way.at_line) (step_changes fits way.frames way.step n)

-- ---- How many there can be

count_few : (n : ℕ) (vs : List Value) → count n vs ≤ length vs
unfolding count
count_few n [] = omega arith
count_few n (v ∷ vs) = omega (arith, one_at_most n v, count_few n vs)

slots_few : (n : ℕ) (fs : List Frame) → Every (λ f. length f.slots ≤ Most.slots) fs → count n (slots_of fs) ≤ length fs * 16
unfolding slots_of count
slots_few n [] few = omega arith
slots_few n (f ∷ fs) few = omega (arith, few.0, count_few n f.slots, count_append n f.slots (slots_of fs), slots_few n fs few.1)

-- 16 threads of 16 frames of 16 slots, 256 objects of 4 fields, 16 messages
pub holders_at_most : (P : Program) (k : ℕ) (S : State) → Fits Most.mosts P k S → (n : ℕ) → holders S n ≤ 5136
unfolding holders in_slots in_fields in_message
holders_at_most P k S fits n =
    omega (
      arith,
      total_few (in_slots n) 256 S.threads (every_map thread_few S.threads fits.threads),
      total_few (in_fields n) 4 S.objects (every_map object_few S.objects fits.objects),
      total_few (in_message n) 1 S.channels (every_map (λ c _. one_at_most n c.message) S.channels fits.channels),
      fits.few_threads,
      fits.few_objects,
      fits.channel_each,
    )
  where
    thread_few : (t : Thread) → ThreadFits P k (length S.objects) (length S.threads) t → in_slots n t ≤ 256
    thread_few t its =
        omega (arith, its.few, slots_few n t.frames (every_map (λ f x. x.few) t.frames (each_frame P _ _ t.frames its.frames)))

    object_few : (o : Object) → ObjectFits P (length S.objects) (length S.threads) o → in_fields n o ≤ 4
    object_few o its = omega (arith, its.few, count_few n o.fields)

-- so the count is a word
pub holders_few : (P : Program) (k : ℕ) (S : State) → Fits Most.mosts P k S → (n : ℕ) → holders S n < 65536
holders_few P k S fits n = omega (arith, holders_at_most P k S fits n)

-- ---- An object that was never made

pub count_none : (o c n : ℕ) (vs : List Value) → o ≤ n → Every (InRange o c) vs → count n vs ≡ 0
count_none o c n vs above range = go (count n vs) (count_range o c n vs range)
  where
    go : (k : ℕ) → (1 ≤ k → n < o) → k ≡ 0
    go zero h = refl
    go (suc k) h = let less = h (omega arith) in absurd (omega arith)

one_none : (o c n : ℕ) (v : Value) → o ≤ n → InRange o c v → count_one n v ≡ 0
unfolding count
one_none o c n v above range = omega (arith, count_none o c n (v ∷ []) above (range, tt))

slots_none : (P : Program) (o c n : ℕ) (fs : List Frame) → o ≤ n → Every (FrameFits P o c) fs → count n (slots_of fs) ≡ 0
unfolding slots_of count
slots_none P o c n [] above fits = refl
slots_none P o c n (f ∷ fs) above fits =
    omega (arith, count_append n f.slots (slots_of fs), count_none o c n f.slots above fits.0.slots, slots_none P o c n fs above fits.1)

pub unmade_unheld : {m : Mosts} {P : Program} {k : ℕ} (S : State) → Fits m P k S → (n : ℕ) → length S.objects ≤ n → holders S n ≡ 0
unfolding holders in_slots in_fields in_message
unmade_unheld {P = P} {k = k} S fits n above =
    omega (
      arith,
      total_none (in_slots n) S.threads (every_map in_thread S.threads fits.threads),
      total_none (in_fields n) S.objects (every_map in_object S.objects fits.objects),
      total_none (in_message n) S.channels (every_map in_channel S.channels fits.channels),
    )
  where
    in_thread : (t : Thread) → ThreadFits P k (length S.objects) (length S.threads) t → in_slots n t ≡ 0
    in_thread t its = slots_none P _ _ n t.frames above (each_frame P _ _ t.frames its.frames)

    in_object : (o : Object) → ObjectFits P (length S.objects) (length S.threads) o → in_fields n o ≡ 0
    in_object o its = count_none _ (length S.threads) n o.fields above (every_map (object_in_range _ _) o.fields its.fields)

    in_channel : (c : Channel) → ChannelFits k (length S.objects) (length S.threads) c → in_message n c ≡ 0
    in_channel c its = one_none _ (length S.threads) n c.message above its.message

-- ---- The stripped run: capabilities aside, the holders are the same

pub erased_holders : (S : State) (n : ℕ) → holders (erase S) n ≡ holders S n
unfolding holders erase total in_fields erase_object
erased_holders S n = omega (arith, same S.objects)
  where
    same : (os : List Object) → total (in_fields n) (map erase_object os) ≡ total (in_fields n) os
    same [] = refl
    same (o ∷ os) = omega (arith, same os)

-- A message is its sender's until it is received: only the sender's own turn takes it off its send, and that waits while the channel holds the
-- message; only a recv empties a channel; and a put, which needs an empty one, raises its number, so that no number comes back.
use Prim.Native.Nat.{ℕ, zero, suc, ◌+◌, ◌≤◌, ◌<◌}
use native.Mathlib.Omega.{arith}
use mathlib.Core.Path.{◌≡◌, refl, sym, ap, ◌∙◌, subst}
use mathlib.Core.Bool.{Bool, true, false, not, ◌||◌, false≢true}
use mathlib.Core.List.{List, [], ◌∷◌, ◌++◌}
use mathlib.Core.Logic.{inl, inr}
use lib.Dec.{eqb}
use lib.ListN.{length, get_or}
use lib.Seq.{get_or-set_same, get_or-set_other}
use borrow.Author.Tests.{eqb-true, eqb-false, eq-eqb, ne_eqb}
use Rattle.rules.specs.declared.Value.{Value}
use Rattle.rules.specs.declared.Value.TheVariants.{Absent, Obj, Chan}
use Rattle.rules.specs.declared.Mosts.{Mosts}
use Rattle.rules.specs.Script.{Program, Operand, Line, bind, send, recv, line_at}
use Rattle.rules.specs.State.{Frame, Sender, ready, waiting, Thread, no_thread, Channel, empty_channel, State, thread_at, channel_at, slot_at, start}
use Rattle.rules.specs.Turn.{ok, is_absent, Here, put_thread, put_objects, put_channel, filled, with_slots, gives, started, turn}
use Rattle.rules.specs.Lists.{Every}
use Rattle.rules.specs.Run.{run_from, run}
use Rattle.rules.specs.Valid.{Valid}
use Rattle.rules.specs.Fits.{InRange, Fits}
use Rattle.theorems.specs.InFlight.{state_at, holds, WaitsOn, HasSender, Received, SendersKeep}
use Rattle.rules.specs.Reach.{count, ReachedFrom, slots_of, message_of, message_on, send_target, put_by, in_flight, roots}
use Rattle.rules.proofs.ListLaws.{impossible, by_bool, of_not, length_snoc}
use Rattle.rules.proofs.Moves.{Step, by_value, by_field, by_swap, by_call, by_new, by_cast, by_spawn, by_put, by_sent, by_recv, by_copy, by_return, by_finish, moved, here_at, MessagePut, MessageReceived, next_number, put_message, emptied}
use Rattle.rules.proofs.Counts.{count_append}
use Rattle.rules.proofs.OtherThreads.{Other, kept, begun, turn_other}
use Rattle.rules.proofs.Keeps.{HereFits, here_fits, slot_range, left_range, keeps_turn, keeps_run}
use Rattle.theorems.proofs.LaterStates.{Later, now, then, one_turn, later, from_start}

-- ---- What a channel holds

-- channel c still holds message i
record Held (S : State) (c i : ℕ) : Type 0 where
  number : (channel_at S c).number ≡ i
  message : message_of (channel_at S c) i ≡ (channel_at S c).message

still_held : (S : State) (c i : ℕ) → holds S c i ≡ true → Held S c i
unfolding holds message_of is_absent
still_held S c i h =
    by_bool (eqb (channel_at S c).number i) (λ t. record { number = eqb-true (channel_at S c).number i t; message = rw t refl }) (λ t. absurd (false≢true (rw t at h)))

held_full : (S : State) (c i : ℕ) → holds S c i ≡ true → is_absent (channel_at S c).message ≡ false
unfolding holds
held_full S c i h = ap is_absent (sym (still_held S c i h).message) ∙ of_not (is_absent (message_of (channel_at S c) i)) h

-- ---- Where a sender waits

-- its reach starts from message i of its channel, as long as the channel holds it
flight_is : (P : Program) (S : State) {t c i : ℕ} → WaitsOn P S t c i → in_flight P S t ≡ message_of (channel_at S c) i
unfolding in_flight put_by send_target message_on
flight_is P S w = rw (w.sender, w.frames, w.line, w.target) refl

-- a thread that is ready waits on nothing
ready_waits_not : {i : ℕ} {d : Sender} → d ≡ ready → d ≡ waiting i → ⊥
ready_waits_not r w = impossible cc

same_head : {f g : Frame} {fs gs xs : List Frame} → xs ≡ f ∷ fs → xs ≡ g ∷ gs → f ≡ g
same_head a b = cc

same_slot : {x : Line} {s r : ℕ} {w v : Operand} → x ≡ bind (send s w) → x ≡ bind (send r v) → s ≡ r
same_slot a b = cc

same_channel : {v : Value} {c d : ℕ} → v ≡ Chan c → v ≡ Chan d → c ≡ d
same_channel a b = cc

same_number : {x : Sender} {i j : ℕ} → x ≡ waiting i → x ≡ waiting j → i ≡ j
same_number a b = cc

-- a thread waits on one message
one_wait : {P : Program} {S : State} {t c d i j : ℕ} → WaitsOn P S t c i → WaitsOn P S t d j → (c ≡ d) × (i ≡ j)
one_wait {P} {d = d} w v =
    let frame = same_head v.frames w.frames in
    let slot = same_slot (subst (λ (f : Frame). line_at P f.block f.line ≡ bind (send v.slot v.operand)) frame v.line) w.line in
    let target : slot_at w.frame.slots w.slot ≡ Chan d = rw (← frame, ← slot) v.target in
    (same_channel w.target target, same_number w.sender v.sender)

-- ---- What a turn that moves does with messages

-- channel c is as it was; or thread t has put a message into it, on which it waits; or it has received its message
data ChannelAfter (P : Program) (S S₁ : State) (t c : ℕ) : Type 0 where
  same : channel_at S₁ c ≡ channel_at S c → ChannelAfter P S S₁ t c
  put : is_absent (channel_at S c).message ≡ true → (channel_at S₁ c).number ≡ (channel_at S c).number + 1 → WaitsOn P S₁ t c ((channel_at S c).number + 1)
      → ChannelAfter P S S₁ t c
  taken : Received P S S₁ t c → channel_at S₁ c ≡ record { message = Absent; number = (channel_at S c).number } → ChannelAfter P S S₁ t c

record After (P : Program) (S : State) (t : ℕ) (S₁ : State) : Type 0 where
  channel : (c : ℕ) → ChannelAfter P S S₁ t c
  -- if the thread waits then, it is on a message that the turn put
  is_new : (c i : ℕ) → WaitsOn P S₁ t c i → (i ≡ (channel_at S c).number + 1) × (i ≡ (channel_at S₁ c).number)

-- the thread that was put
put_there : (X : State) (t : ℕ) (fs : List Frame) (d : Sender) → t < length X.threads → thread_at (put_thread X t fs d) t ≡ record { frames = fs; sender = d }
unfolding thread_at put_thread
put_there X t fs d there = get_or-set_same X.threads t _ no_thread there

-- no channel changes, and the thread is ready
quiet : (P : Program) (S X : State) (t : ℕ) (fs : List Frame) → t < length X.threads → ((c : ℕ) → channel_at X c ≡ channel_at S c) → After P S t (put_thread X t fs ready)
unfolding put_thread channel_at
quiet P S X t fs there same-channels =
    record {
      channel = λ c. same (same-channels c);
      is_new = λ c i w. absurd (ready_waits_not (ap (λ (x : Thread). x.sender) (put_there X t fs ready there)) w.sender);
    }

channel_put : (S : State) (c : ℕ) (ch : Channel) → c < length S.channels → channel_at (put_channel S c ch) c ≡ ch
unfolding channel_at put_channel
channel_put S c ch there = get_or-set_same S.channels c ch empty_channel there

channel_other : (S : State) (c e : ℕ) (ch : Channel) → eqb c e ≡ false → channel_at (put_channel S c ch) e ≡ channel_at S e
unfolding channel_at put_channel
channel_other S c e ch other = get_or-set_other S.channels c e ch empty_channel (λ is. eqb-false c e other (sym is))

module _ (P : Program) (S : State) (t : ℕ) (f : Frame) (fs : List Frame) (frames : (thread_at S t).frames ≡ f ∷ fs) (there : t < length S.threads) where
  abbrev here : Here
  here = here_at S t f fs

  message_put : (s : ℕ) (w : Operand) (c n : ℕ) (vs : List Value) → line_at P f.block f.line ≡ bind (send s w) → c < length S.channels → MessagePut here s w c n vs
      → After P S t (put_thread (put_message here c n) t (with_slots f vs ∷ fs) (waiting (next_number here c)))
  unfolding with_slots put_thread put_channel channel_at
  message_put s w c n vs line has_channel sent =
      record {
        channel = λ e. by_bool (eqb c e)
            (λ is. subst (λ (e : ℕ). ChannelAfter P S S₁ t e) (eqb-true c e is) (put sent.empty number waits))
            (λ other. same (channel_other S c e _ other));
        is_new = λ e i w'. let one = one_wait waits w' in rw (← one.0, ← one.1) (refl, sym number);
      }
    where
      S₁ : State
      S₁ = put_thread (put_message here c n) t (with_slots f vs ∷ fs) (waiting (next_number here c))

      number : (channel_at S₁ c).number ≡ (channel_at S c).number + 1
      number = ap (λ (ch : Channel). ch.number) (channel_put S c (record { message = Obj n; number = next_number here c }) has_channel)

      thread : thread_at S₁ t ≡ record { frames = with_slots f vs ∷ fs; sender = waiting (next_number here c) }
      thread = put_there (put_message here c n) t (with_slots f vs ∷ fs) (waiting (next_number here c)) there

      waits : WaitsOn P S₁ t c ((channel_at S c).number + 1)
      waits =
          record {
            sender = ap (λ (x : Thread). x.sender) thread;
            frame = with_slots f vs;
            callers = fs;
            frames = ap (λ (x : Thread). x.frames) thread;
            slot = s;
            operand = w;
            line = line;
            target = sent.target;
          }

  message_received : (s c : ℕ) → line_at P f.block f.line ≡ bind (recv s) → c < length S.channels → MessageReceived here s c
      → After P S t (gives (emptied here c) here f.slots (channel_at S c).message)
  unfolding gives put_thread put_channel channel_at
  message_received s c line has_channel got =
      record {
        channel = λ e. by_bool (eqb c e)
            (λ is. subst (λ (e : ℕ). ChannelAfter P S S₁ t e) (eqb-true c e is) (taken received (channel_put S c _ has_channel)))
            (λ other. same (channel_other S c e _ other));
        is_new = λ e i w. absurd (ready_waits_not (ap (λ (x : Thread). x.sender) thread) w.sender);
      }
    where
      S₁ : State
      S₁ = gives (emptied here c) here f.slots (channel_at S c).message

      thread : thread_at S₁ t ≡ record { frames = filled f f.slots (channel_at S c).message ∷ fs; sender = ready }
      thread = put_there (emptied here c) t (filled f f.slots (channel_at S c).message ∷ fs) ready there

      received : Received P S S₁ t c
      received =
          record {
            frame = f;
            callers = fs;
            frames = frames;
            slot = s;
            line = line;
            target = got.target;
            gives = ap (λ (x : Thread). x.frames) thread;
          }

-- a channel more at the end is empty, as past the end
one_more_empty : (cs : List Channel) (c : ℕ) → get_or (cs ++ (empty_channel ∷ [])) c empty_channel ≡ get_or cs c empty_channel
one_more_empty [] zero = refl
one_more_empty [] (suc c) = refl
one_more_empty (x ∷ cs) zero = refl
one_more_empty (x ∷ cs) (suc c) = one_more_empty cs c

started_channels : (S : State) (b c : ℕ) → channel_at (started S b) c ≡ channel_at S c
unfolding channel_at started
started_channels S b c = one_more_empty S.channels c

started_longer : (S : State) (b t : ℕ) → t < length S.threads → t < length (started S b).threads
unfolding started
started_longer S b t there = omega (arith, length_snoc S.threads (record { frames = record { block = b; line = 0; slots = Chan (length S.threads) ∷ [] } ∷ []; sender = ready }))

module _ {m : Mosts} {P : Program} {n : ℕ} (S : State) (t : ℕ) (f : Frame) (fs : List Frame) (frames : (thread_at S t).frames ≡ f ∷ fs) (fits : Fits m P n S) where
  here_fit : HereFits m P n (here_at S t f fs)
  here_fit = here_fits m P n S t f fs fits frames

  there : t < length S.threads
  there = here_fit.self

  -- a channel in a slot is one of the state's
  has_channel : (vs : List Value) (s c : ℕ) → Every (InRange (length S.objects) (length S.threads)) vs → slot_at vs s ≡ Chan c → c < length S.channels
  has_channel vs s c slots target =
      let below : c < length S.threads = subst (InRange (length S.objects) (length S.threads)) target (slot_range _ _ vs s slots) in
      omega (arith, fits.channel_each)

  step_after : {x : Line} {S₁ : State} → line_at P f.block f.line ≡ x → Step m P (here_at S t f fs) x S₁ → After P S t S₁
  unfolding gives put_objects channel_at
  step_after line (by_value w v vs gave) = quiet P S _ t _ there (λ c. refl)
  step_after line (by_field s g k read) = quiet P S _ t _ there (λ c. refl)
  step_after line (by_swap s g w k u vs swapped) = quiet P S _ t _ there (λ c. refl)
  step_after line (by_call s i w k v vs called) = quiet P S _ t _ there (λ c. refl)
  step_after line (by_new k i ws ns vs made) = quiet P S _ t _ there (λ c. refl)
  step_after line (by_cast k w i vs cast) = quiet P S _ t _ there (λ c. refl)
  step_after line (by_spawn b room) = quiet P S _ t _ (started_longer S b t there) (started_channels S b)
  step_after line (by_put s w c k vs sent) =
      message_put P S t f fs frames there s w c k vs line (has_channel vs s c (left_range _ _ w sent.gave here_fit.frame.slots) sent.target) sent
  step_after line (by_sent s w i c gone) = quiet P S _ t _ there (λ e. refl)
  step_after line (by_recv s c got) = message_received P S t f fs frames there s c line (has_channel f.slots s c here_fit.frame.slots got.target) got
  step_after line (by_copy k s i copied) = quiet P S _ t _ there (λ c. refl)
  step_after line (by_return w v vs g gs gave callers) = quiet P S _ t _ there (λ c. refl)
  step_after line (by_finish w v vs gave callers) = quiet P S _ t _ there (λ c. refl)

-- ---- A sender moves on only when its channel no longer holds the message

gone_not_held : (S : State) (c i : ℕ) → (is_absent (channel_at S c).message || not (eqb (channel_at S c).number i)) ≡ true → holds S c i ≡ false
unfolding holds message_of is_absent
gone_not_held S c i gone = by_bool (eqb (channel_at S c).number i) (λ t. rw t (empty (channel_at S c).message (rw t at gone))) (λ t. rw t refl)
  where
    empty : (v : Value) → (is_absent v || false) ≡ true → not (is_absent v) ≡ false
    empty Absent e = refl
    empty (Obj n) e = absurd (false≢true e)
    empty (Chan k) e = absurd (false≢true e)

step_free : {m : Mosts} {P : Program} {H : Here} {x : Line} {S₁ : State} {s : ℕ} {w : Operand} (c i : ℕ) → Step m P H x S₁ → x ≡ bind (send s w) → H.sender ≡ waiting i
    → slot_at H.frame.slots s ≡ Chan c → holds H.state c i ≡ false
step_free c i (by_value w v vs gave) line sender target = impossible cc
step_free c i (by_field s g k read) line sender target = impossible cc
step_free c i (by_swap s g w k u vs swapped) line sender target = impossible cc
step_free c i (by_call s j w k v vs called) line sender target = impossible cc
step_free c i (by_new k j ws ns vs made) line sender target = impossible cc
step_free c i (by_cast k w j vs cast) line sender target = impossible cc
step_free c i (by_spawn b room) line sender target = impossible cc
step_free c i (by_put s w d k vs sent) line sender target = absurd (ready_waits_not sent.sender sender)
step_free {H = H} {s = r} {w = v} c i (by_sent s w j d gone) line sender target =
    let slot : s ≡ r = same_slot {x = bind (send s w)} refl line in
    let channel : d ≡ c = same_channel gone.target (rw slot target) in
    let number : j ≡ i = same_number gone.sender sender in
    gone_not_held H.state c i (rw (← channel, ← number) gone.gone)
step_free c i (by_recv s d got) line sender target = impossible cc
step_free c i (by_copy k s j copied) line sender target = impossible cc
step_free c i (by_return w v vs g gs gave callers) line sender target = impossible cc
step_free c i (by_finish w v vs gave callers) line sender target = impossible cc

-- ---- What a channel holds, by its number

full_holds : (S : State) (c : ℕ) → is_absent (channel_at S c).message ≡ false → holds S c (channel_at S c).number ≡ true
unfolding holds message_of
full_holds S c full = rw (eq-eqb (channel_at S c).number (channel_at S c).number refl, full) refl

other_not_held : (S : State) (c i : ℕ) → ((channel_at S c).number ≡ i → ⊥) → holds S c i ≡ false
unfolding holds message_of is_absent
other_not_held S c i other = rw (ne_eqb (channel_at S c).number i other) refl

empty_not_held : (S : State) (c i : ℕ) → is_absent (channel_at S c).message ≡ true → holds S c i ≡ false
unfolding holds message_of is_absent
empty_not_held S c i empty = by_bool (eqb (channel_at S c).number i) (λ t. rw (t, empty) refl) (λ t. rw t refl)

same_holds : (S S₁ : State) (c i : ℕ) → channel_at S₁ c ≡ channel_at S c → holds S₁ c i ≡ holds S c i
unfolding holds
same_holds S S₁ c i e = ap (λ (ch : Channel). not (is_absent (message_of ch i))) e

taken_empty : {ch : Channel} {k : ℕ} → ch ≡ record { message = Absent; number = k } → is_absent ch.message ≡ true
unfolding is_absent
taken_empty e = rw e refl

not_both : {b : Bool} {A : Type 0} → b ≡ true → b ≡ false → A
not_both t f = absurd (false≢true (sym f ∙ t))

-- ---- What every turn keeps

record Senders (P : Program) (S : State) : Type 0 where
  has : (c : ℕ) → is_absent (channel_at S c).message ≡ false → HasSender P S c
  low : (t c i : ℕ) → WaitsOn P S t c i → i ≤ (channel_at S c).number
  one : (t u c i : ℕ) → WaitsOn P S t c i → WaitsOn P S u c i → t ≡ u

-- message i was put into channel c, and the channel does not hold it any more
record Past (S : State) (c i : ℕ) : Type 0 where
  low : i ≤ (channel_at S c).number
  gone : holds S c i ≡ false

-- the sender still waits on the message and the channel holds it, or both are past
data Carried (P : Program) (S S₁ : State) (t c i : ℕ) : Type 0 where
  still : WaitsOn P S₁ t c i → channel_at S₁ c ≡ channel_at S c → Carried P S S₁ t c i
  past : Past S₁ c i → Carried P S S₁ t c i

-- a thread that stays waits on what it waited on
waits_same : {P : Program} {S S₁ : State} {u c i : ℕ} → thread_at S₁ u ≡ thread_at S u → WaitsOn P S u c i → WaitsOn P S₁ u c i
waits_same same-thread w =
    record {
      sender = ap (λ (x : Thread). x.sender) same-thread ∙ w.sender;
      frame = w.frame;
      callers = w.callers;
      frames = ap (λ (x : Thread). x.frames) same-thread ∙ w.frames;
      slot = w.slot;
      operand = w.operand;
      line = w.line;
      target = w.target;
    }

no_thread_waits : {x : Thread} {i : ℕ} → x ≡ no_thread → x.sender ≡ waiting i → ⊥
no_thread_waits none w = ready_waits_not (ap (λ (x : Thread). x.sender) none) w

other_waits : {P : Program} {S S₁ : State} {u c i : ℕ} → Other (thread_at S u) (thread_at S₁ u) → WaitsOn P S u c i → WaitsOn P S₁ u c i
other_waits (kept is) w = waits_same is w
other_waits (begun none is-ready) w = absurd (no_thread_waits none w.sender)

other_waited : {P : Program} {S S₁ : State} {u c i : ℕ} → Other (thread_at S u) (thread_at S₁ u) → WaitsOn P S₁ u c i → WaitsOn P S u c i
other_waited (kept is) w = waits_same (sym is) w
other_waited (begun none is-ready) w = absurd (ready_waits_not is-ready w.sender)

module _ (m : Mosts) (P : Program) {n : ℕ} {S S₁ : State} (t : ℕ) (fits : Fits m P n S) (goes : turn m P S t ≡ ok S₁) where
  turn_after : After P S t S₁
  turn_after = let way = moved m P S S₁ t goes in step_after S t way.frame way.callers way.frames fits way.at_line way.step

  -- a sender that the channel still holds up does not move
  turn_free : (c i : ℕ) → WaitsOn P S t c i → holds S c i ≡ false
  turn_free c i w =
      let way = moved m P S S₁ t goes in
      let frame = same_head w.frames way.frames in
      step_free c i way.step (sym way.at_line ∙ subst (λ (f : Frame). line_at P f.block f.line ≡ bind (send w.slot w.operand)) frame w.line) w.sender
      (subst (λ (f : Frame). slot_at f.slots w.slot ≡ Chan c) frame w.target)

  waits_still : (u c i : ℕ) → (u ≡ t → ⊥) → WaitsOn P S u c i → WaitsOn P S₁ u c i
  waits_still u c i other w = other_waits (turn_other u m P S S₁ t goes other) w

  waited_before : (u c i : ℕ) → (u ≡ t → ⊥) → WaitsOn P S₁ u c i → WaitsOn P S u c i
  waited_before u c i other w = other_waited (turn_other u m P S S₁ t goes other) w

  -- so it waits on
  held_waits : (u c i : ℕ) → holds S c i ≡ true → WaitsOn P S u c i → WaitsOn P S₁ u c i
  held_waits u c i held w = by_bool (eqb u t) (λ e. not_both held (turn_free c i (rw (eqb-true u t e) at w))) (λ e. waits_still u c i (eqb-false u t e) w)

  numbers_rise : (c : ℕ) → (channel_at S c).number ≤ (channel_at S₁ c).number
  numbers_rise c = go (turn_after.channel c)
    where
      go : ChannelAfter P S S₁ t c → (channel_at S c).number ≤ (channel_at S₁ c).number
      go (same e) = omega (arith, ap (λ (ch : Channel). ch.number) e)
      go (put empty number w) = omega (arith, number)
      go (taken r e) = omega (arith, ap (λ (ch : Channel). ch.number) e)

  senders_turn : Senders P S → Senders P S₁
  senders_turn so =
      record {
        has = λ c full. has c full (turn_after.channel c);
        low = low;
        one = λ u v c i a b. by_bool (eqb u t)
            (λ e. by_bool (eqb v t) (λ d. eqb-true u t e ∙ sym (eqb-true v t d)) (λ d. absurd (new_and_old v c i (rw (eqb-true u t e) at a) (eqb-false v t d) b)))
            (λ e. by_bool (eqb v t) (λ d. absurd (new_and_old u c i (rw (eqb-true v t d) at b) (eqb-false u t e) a))
            (λ d. so.one u v c i (waited_before u c i (eqb-false u t e) a) (waited_before v c i (eqb-false v t d) b)));
      }
    where
      low : (u c i : ℕ) → WaitsOn P S₁ u c i → i ≤ (channel_at S₁ c).number
      low u c i w = by_bool (eqb u t) (λ e. omega (arith, (turn_after.is_new c i (rw (eqb-true u t e) at w)).1))
          (λ e. omega (arith, numbers_rise c, so.low u c i (waited_before u c i (eqb-false u t e) w)))

      -- a message put now has a number that no thread waited on
      new_and_old : (u c i : ℕ) → WaitsOn P S₁ t c i → (u ≡ t → ⊥) → WaitsOn P S₁ u c i → ⊥
      new_and_old u c i a other b = absurd (omega (arith, (turn_after.is_new c i a).0, so.low u c i (waited_before u c i other b)))

      has : (c : ℕ) → is_absent (channel_at S₁ c).message ≡ false → ChannelAfter P S S₁ t c → HasSender P S₁ c
      has c full (same e) =
          let was : is_absent (channel_at S c).message ≡ false = rw (← e) full in
          let sender = so.has c was in
          record {
            thread = sender.thread;
            waits = rw (ap (λ (ch : Channel). ch.number) e) (held_waits sender.thread c (channel_at S c).number (full_holds S c was) sender.waits);
          }
      has c full (put empty number w) = record { thread = t; waits = rw number w }
      has c full (taken r e) = not_both (taken_empty e) full

  past_turn : (c i : ℕ) → Past S c i → Past S₁ c i
  past_turn c i p = go (turn_after.channel c)
    where
      go : ChannelAfter P S S₁ t c → Past S₁ c i
      go (same e) = record { low = omega (arith, p.low, numbers_rise c); gone = same_holds S S₁ c i e ∙ p.gone }
      go (put empty number w) = record { low = omega (arith, p.low, number); gone = other_not_held S₁ c i (λ is. omega (arith, p.low, number)) }
      go (taken r e) = record { low = omega (arith, p.low, numbers_rise c); gone = empty_not_held S₁ c i (taken_empty e) }

  carried_turn : {R : State} (u c i : ℕ) → holds R c i ≡ true → Carried P R S u c i → Carried P R S₁ u c i
  carried_turn u c i held (past p) = past (past_turn c i p)
  carried_turn {R} u c i held (still w e) = go (turn_after.channel c)
    where
      held_now : holds S c i ≡ true
      held_now = same_holds R S c i e ∙ held

      go : ChannelAfter P S S₁ t c → Carried P R S₁ u c i
      go (same f) = still (held_waits u c i held_now w) (f ∙ e)
      go (put empty number v) = not_both held_now (empty_not_held S c i empty)
      go (taken r f) =
          let number = (still_held S c i held_now).number in
          past (record { low = omega (arith, number, numbers_rise c); gone = empty_not_held S₁ c i (taken_empty f) })

-- ---- From the start on

record Kept (m : Mosts) (P : Program) (S : State) : Type 0 where
  moves : ℕ
  fits : Fits m P moves S
  senders : Senders P S

module _ (m : Mosts) (P : Program) where
  kept_later : {S S₁ : State} → Valid m P → Kept m P S → Later m P S S₁ → Kept m P S₁
  kept_later valid k now = k
  kept_later valid k (then {S₁ = S} {S₂ = S₁} t before goes) =
      let so = kept_later valid k before in
      record { moves = suc so.moves; fits = keeps_turn m P so.moves S S₁ t valid so.fits goes; senders = senders_turn m P t so.fits goes so.senders }

  past_later : {S S₁ : State} → Valid m P → Kept m P S → (c i : ℕ) → Past S c i → Later m P S S₁ → Past S₁ c i
  past_later valid k c i p now = p
  past_later valid k c i p (then t before goes) = past_turn m P t (kept_later valid k before).fits goes c i (past_later valid k c i p before)

  carried_later : {S S₁ : State} → Valid m P → Kept m P S → (t c i : ℕ) → WaitsOn P S t c i → holds S c i ≡ true → Later m P S S₁ → Carried P S S₁ t c i
  carried_later valid k t c i w held now = still w refl
  carried_later valid k t c i w held (then u before goes) =
      carried_turn m P u (kept_later valid k before).fits goes t c i held (carried_later valid k t c i w held before)

-- at the start every channel is empty and the one thread is ready
start_empty : (c : ℕ) → channel_at start c ≡ empty_channel
unfolding start channel_at
start_empty zero = refl
start_empty (suc c) = refl

start_ready : (t : ℕ) → (thread_at start t).sender ≡ ready
unfolding start thread_at
start_ready zero = refl
start_ready (suc t) = refl

start_senders : (P : Program) → Senders P start
start_senders P =
    record {
      has = λ c full. not_both (taken_empty (start_empty c)) full;
      low = λ t c i w. absurd (ready_waits_not (start_ready t) w.sender);
      one = λ t u c i w v. absurd (ready_waits_not (start_ready t) w.sender);
    }

-- ---- The reports

absent_counts : (x : ℕ) (v : Value) → not (is_absent v) ≡ false → count x (v ∷ []) ≡ 0
unfolding count is_absent
absent_counts x Absent none = refl
absent_counts x (Obj n) none = absurd (false≢true (sym none))
absent_counts x (Chan c) none = absurd (false≢true (sym none))

module _ {P : Program} {S : State} {t c i : ℕ} (w : WaitsOn P S t c i) where
  message_reported : holds S c i ≡ true → (x : ℕ) → ReachedFrom S.objects ((channel_at S c).message ∷ []) x → ReachedFrom S.objects (roots P S t) x
  unfolding holds roots
  message_reported held x r =
      let flight : in_flight P S t ≡ (channel_at S c).message = flight_is P S w ∙ (still_held S c i held).message in
      record {
        first = r.first;
        held = rw flight (omega (arith, count_append r.first (slots_of (thread_at S t).frames) ((channel_at S c).message ∷ []), r.held));
        reaches = r.reaches;
      }

  slots_alone : holds S c i ≡ false → (x : ℕ) → ReachedFrom S.objects (roots P S t) x → ReachedFrom S.objects (slots_of (thread_at S t).frames) x
  unfolding holds roots
  slots_alone gone x r =
      record {
        first = r.first;
        held = no_more (in_flight P S t) (ap (λ v. not (is_absent v)) (flight_is P S w) ∙ gone) r.held;
        reaches = r.reaches;
      }
    where
      no_more : (v : Value) → not (is_absent v) ≡ false → 1 ≤ count r.first (slots_of (thread_at S t).frames ++ (v ∷ [])) → 1 ≤ count r.first (slots_of (thread_at S t).frames)
      no_more v none h = omega (arith, h, count_append r.first (slots_of (thread_at S t).frames) (v ∷ []), absent_counts r.first v none)

-- ---- Every run of an accepted script

module _ (m : Mosts) (P : Program) (ts : List ℕ) (valid : Valid m P) (room : 1 ≤ m.threads) where
  -- after k turns
  abbrev at : ℕ → State
  at k = state_at m P ts k

  kept_at : (k : ℕ) → Kept m P (at k)
  unfolding run run_from
  kept_at k = kept_later m P valid (record { moves = 0; fits = keeps_run m P [] valid room; senders = start_senders P }) (from_start m P ts k)

  carried : (k l t c i : ℕ) → k ≤ l → WaitsOn P (at k) t c i → holds (at k) c i ≡ true → Carried P (at k) (at l) t c i
  carried k l t c i order w held = carried_later m P valid (kept_at k) t c i w held (later m P ts k l order)

  still_there : (k l t c i : ℕ) → holds (at l) c i ≡ true → Carried P (at k) (at l) t c i → WaitsOn P (at l) t c i × ((channel_at (at l) c).message ≡ (channel_at (at k) c).message)
  still_there k l t c i held (still w e) = (w, ap (λ (ch : Channel). ch.message) e)
  still_there k l t c i held (past p) = not_both held p.gone

  not_there : (k l t c i : ℕ) → holds (at k) c i ≡ true → holds (at l) c i ≡ false → Carried P (at k) (at l) t c i → Past (at l) c i
  not_there k l t c i held gone (still w e) = not_both (same_holds (at k) (at l) c i e ∙ held) gone
  not_there k l t c i held gone (past p) = p

  -- a message has a sender, with which it is carried
  is_past : (k l c i : ℕ) → k ≤ l → holds (at k) c i ≡ true → holds (at l) c i ≡ false → Past (at l) c i
  is_past k l c i order held gone =
      let sender = (kept_at k).senders.has c (held_full (at k) c i held) in
      let waits = subst (λ n. WaitsOn P (at k) sender.thread c n) (still_held (at k) c i held).number sender.waits in
      not_there k l sender.thread c i held gone (carried k l sender.thread c i order waits held)

  taken_by : (k c i : ℕ) → holds (at k) c i ≡ true → holds (at (suc k)) c i ≡ false → ChannelAfter P (at k) (at (suc k)) (get_or ts k 0) c
      → Received P (at k) (at (suc k)) (get_or ts k 0) c
  taken_by k c i held gone (same e) = not_both (same_holds (at k) (at (suc k)) c i e ∙ held) gone
  taken_by k c i held gone (put empty number w) = not_both held (empty_not_held (at k) c i empty)
  taken_by k c i held gone (taken r e) = r

  put_there_by : (k c i : ℕ) → holds (at k) c i ≡ false → holds (at (suc k)) c i ≡ true → ChannelAfter P (at k) (at (suc k)) (get_or ts k 0) c
      → WaitsOn P (at (suc k)) (get_or ts k 0) c i
  put_there_by k c i none held (same e) = not_both held (same_holds (at k) (at (suc k)) c i e ∙ none)
  put_there_by k c i none held (put empty number w) = subst (λ n. WaitsOn P (at (suc k)) (get_or ts k 0) c n) (sym number ∙ (still_held (at (suc k)) c i held).number) w
  put_there_by k c i none held (taken r e) = not_both held (empty_not_held (at (suc k)) c i (taken_empty e))

  put_by_waits : (k c i : ℕ) → k < length ts → holds (at k) c i ≡ false → holds (at (suc k)) c i ≡ true → WaitsOn P (at (suc k)) (get_or ts k 0) c i
  put_by_waits k c i there none held =
      elim (one_turn m P ts k there) [
        | inl stays ↦ not_both held (ap (λ (S : State). holds S c i) stays ∙ none)
        | inr goes ↦ put_there_by k c i none held ((turn_after m P (get_or ts k 0) (kept_at k).fits goes).channel c)
      ]

  received : (k c i : ℕ) → k < length ts → holds (at k) c i ≡ true → holds (at (suc k)) c i ≡ false → Received P (at k) (at (suc k)) (get_or ts k 0) c
  received k c i there held gone =
      elim (one_turn m P ts k there) [
        | inl stays ↦ not_both held (ap (λ (S : State). holds S c i) (sym stays) ∙ gone)
        | inr goes ↦ taken_by k c i held gone ((turn_after m P (get_or ts k 0) (kept_at k).fits goes).channel c)
      ]

  pub senders_keep : SendersKeep m P ts
  senders_keep =
      record {
        has_sender = λ k c full. (kept_at k).senders.has c full;
        one_sender = λ k t u c i w v. (kept_at k).senders.one t u c i w v;
        put_by_waits = put_by_waits;
        reported = λ k t c i w held x r. message_reported w held x r;
        until = λ k l t c i order w held-k held-l. still_there k l t c i held-l (carried k l t c i order w held-k);
        received = received;
        never_again = λ k l n c i order on held gone. (past_later m P valid (kept_at l) c i (is_past k l c i order held gone) (later m P ts l n on)).gone;
        released = λ k t c i w gone x r. slots_alone w gone x r;
      }

-- The event of the line where a thread stands, as the tables tell it: the words of the line's row name the slot, which is filled, so that what the code reads is what the rule reads.
use Rattle.std.proofs.Common.{ℕ, ◌/◌, ◌%◌, ◌≤◌, ◌<◌, arith, ◌≡◌, refl, sym, ap, ◌∙◌, ◌⊎◌, ⊎_elim, List, [], ◌∷◌, length, get_or, replicate}
use Rattle.rules.specs.declared.Value.{Value}
use Rattle.rules.specs.declared.Value.TheVariants.{Absent, Obj, Chan}
use Rattle.rules.specs.declared.Event.{Event}
use Rattle.rules.specs.declared.Event.TheVariants.{Quiet, Reads, Swaps, Puts, Receives, Copies}
use Rattle.rules.specs.Lists.{pad}
use Rattle.rules.specs.Script.{value, field, swap, call, new, cast, spawn, send, recv, copy, Line, bind, give, line, Program, line_at}
use Rattle.rules.specs.State.{Frame, Sender, ready, waiting, State, thread_at, slot_at}
use Rattle.rules.specs.Tables.{sender_word, line_words, row}
use Rattle.rules.specs.Turn as R
use Rattle.rules.specs.Races.{on_object, message_in, put_event, let_event, line_event, frames_event, event}
use Rattle.rules.proofs.TableWords.{slot_of_word, sender_tells}
use Rattle.table.specs.declared.standing.Here.{Here}
use Rattle.table.specs.StateTable.{InTable, Sees, Any, frame_at}
use Rattle.table.proofs.Places.{has_place}
use Rattle.checks.specs.Checked.{here_at, Stand}
use Rattle.checks.proofs.Standing.{SlotSeen, MessageSeen, frame_is, slot_in_table, slot_place, slot_found, slot_read}
use Rattle.turn.proofs.TurnSteps.{let_names, word_names}
use Rattle.turn.proofs.Dispatch.{word_at, Tells, tells_field, tells_swap, tells_send, tells_recv, tells_copy}
use Rattle.walk.specs.Walking.{Walks, Of, Tally, tally}
use Rattle.walk.proofs.FromNothing.{walk_from_nothing}
use Rattle.turn.proofs.Located.{no_frames, Finds}
use Rattle.races.specs.Events.{ObjectBelow, OnObject, LineTells, TurnTells, Meets}
use Rattle.races.proofs.EventLaws.{event_at_lem, message_made}

-- ---- What is read of the table

-- what a closure does to an object is what the definition says of it
pub object_told : (v : Value) {Does : ℕ → Event → Type 0} {r : Event} (e : ℕ → Event) → ((n : ℕ) (d : Event) → Does n d → d ≡ e n) → OnObject Does v r
    → r ≡ on_object v e
object_told Absent e does told = told
object_told (Obj n) {r = r} e does told = does n r told
object_told (Chan c) e does told = told

pub object_below : (v : Value) {r : Event} (e : ℕ → Event) → ((n : ℕ) → n < 256 → ObjectBelow 256 (e n)) → InTable v → r ≡ on_object v e → ObjectBelow 256 r
object_below Absent e below there is = rw is tt
object_below (Obj n) e below there is = rw is (below n there)
object_below (Chan c) e below there is = rw is tt

-- the message of the channel that a slot holds
abbrev pub MessageInSeen : List ℕ → Value → Value → Type 0
MessageInSeen s v u = Sees s (λ S. InTable (message_in S v)) (λ S. message_in S v) u

pub message_seen : {s : List ℕ} {v u : Value} {c : ℕ} → v ≡ Chan c → MessageSeen s c u → MessageInSeen s v u
message_seen is seen = record { sees = λ S rest held there. rw is (seen.sees S rest held (rw is at there)) }

-- the put of what is read as v, by the sender's word d
module _ {s : List ℕ} (t : ℕ) {d : ℕ} (sender : Sees s Any (λ S. sender_word (thread_at S t).sender) d) {Q : State → Type 0} (v : State → Value) where
  pub put_before : (d ≡ 0 → ⊥) → Sees s Q (λ S. put_event (thread_at S t).sender (v S)) Quiet
  put_before some = record { sees = λ S rest held there. waits (thread_at S t).sender (v S) (sender.sees S rest held tt) }
    where
      waits : (x : Sender) (u : Value) → d ≡ sender_word x → Quiet ≡ put_event x u
      waits ready u e = absurd (some e)
      waits (waiting i) u e = refl

  pub put_now : d ≡ 0 → {u : Value} {r : Event} → Sees s Q v u → r ≡ on_object u Puts → Sees s Q (λ S. put_event (thread_at S t).sender (v S)) r
  put_now none seen is =
      record {
        sees = λ S rest held there.
            let is-ready = sender_tells (thread_at S t).sender ready (sym (sender.sees S rest held tt) ∙ none) in
            rw is-ready (is ∙ ap (λ w. on_object w Puts) (seen.sees S rest held there));
      }

-- ---- The line, by the words of its row

module _ {p s : List ℕ} {h : Here} {r : Event} where
  -- the line is x, whose event is r
  told_line : {x : Line} → Tells p s h x
      → ((P : Program) (n : ℕ) (S : State) (f : Frame) (fs : List Frame) (rest : List ℕ) → Stand s h P n S f fs rest → line_at P f.block f.line ≡ x → r ≡ line_event (here_at S h.thread f fs) x)
      → LineTells p s h r
  told_line told is =
      record {
        tells = λ P n S f fs rest st on.
            let at_line = told.at_line P n S f fs rest st on in
            rw at_line (is P n S f fs rest st at_line);
      }

  module _ {form a : ℕ} (first : form ≡ word_at p h 0) (second : a ≡ word_at p h 1) where
    pub recv_tells : form ≡ 13 → {v u : Value} → SlotSeen s h (a % 16) v → MessageInSeen s v u → r ≡ on_object u Receives → LineTells p s h r
    unfolding line_event let_event
    recv_tells number {v} target message is =
        told_line (tells_recv first second number)
        (λ P n S f fs rest st at_line.
        let held = slot_read st a _ refl target (let_names st at_line) in
        rw held (is ∙ ap (λ w. on_object w Receives) (message.sees S rest st.held (has_place st.fits (message_in S v) (message_made st.fits v)))))

    module _ {b : ℕ} (third : b ≡ word_at p h 2) where
      pub field_tells : form ≡ 6 → {v : Value} → SlotSeen s h (a % 16) v → r ≡ on_object v (λ n. Reads n b) → LineTells p s h r
      unfolding line_event let_event
      field_tells number target is =
          told_line (tells_field first second third number) (λ P n S f fs rest st at_line. rw (slot_read st a _ refl target (let_names st at_line).0) is)

      pub swap_tells : form ≡ 7 → {v : Value} → SlotSeen s h (a % 16) v → r ≡ on_object v (λ n. Swaps n b) → LineTells p s h r
      unfolding line_event let_event
      swap_tells number target is =
          told_line (tells_swap first second third refl number)
          (λ P n S f fs rest st at_line.
          let filled = (let_names st at_line).0 in
          rw (slot_read st (a % 16) _ (sym (slot_place st (a % 16) filled)) target filled) is)

      pub copy_tells : form ≡ 14 → {v : Value} → SlotSeen s h (b % 16) v → r ≡ on_object v Copies → LineTells p s h r
      unfolding line_event let_event
      copy_tells number target is =
          told_line (tells_copy first second third refl number) (λ P n S f fs rest st at_line. rw (slot_read st b _ refl target (let_names st at_line).0) is)

      pub send_tells : form ≡ 12
          → Sees s (λ S. InTable (slot_at (frame_at S h.thread h.depth).slots (b / 2 % 16)))
          (λ S. put_event (thread_at S h.thread).sender (slot_at (frame_at S h.thread h.depth).slots (b / 2 % 16))) r
          → LineTells p s h r
      unfolding line_event let_event
      send_tells number put =
          told_line (tells_send first second third number)
          (λ P n S f fs rest st at_line.
          let filled = word_names st b (let_names st at_line).1 in
          rw (slot_of_word b)
          (put.sees S rest st.held (rw (frame_is st) (slot_in_table st (b / 2 % 16)))
          ∙ ap (put_event (thread_at S h.thread).sender) (slot_found st (b / 2) _ refl filled)))

-- ---- The other lines do nothing to fields and messages

-- the number of a line's form is none of these
record Plain (form : ℕ) : Type 0 where
  field_not : form ≡ 6 → ⊥
  swap_not : form ≡ 7 → ⊥
  send_not : form ≡ 12 → ⊥
  recv_not : form ≡ 13 → ⊥
  copy_not : form ≡ 14 → ⊥

plain_quiet : (H : R.Here) (x : Line) → Plain (get_or (row (line x)) 0 0) → Quiet ≡ line_event H x
unfolding line_event let_event row line_words pad
plain_quiet H (give w) plain = refl
plain_quiet H (bind (value w)) plain = refl
plain_quiet H (bind (field s f)) plain = absurd (plain.field_not refl)
plain_quiet H (bind (swap s f w)) plain = absurd (plain.swap_not refl)
plain_quiet H (bind (call s i w)) plain = refl
plain_quiet H (bind (new k i ws)) plain = refl
plain_quiet H (bind (cast k w)) plain = refl
plain_quiet H (bind (spawn b)) plain = refl
plain_quiet H (bind (send s w)) plain = absurd (plain.send_not refl)
plain_quiet H (bind (recv s)) plain = absurd (plain.recv_not refl)
plain_quiet H (bind (copy k s)) plain = absurd (plain.copy_not refl)

pub others_quiet : {p s : List ℕ} {h : Here} {form : ℕ} → form ≡ word_at p h 0
    → (form ≡ 6 → ⊥) → (form ≡ 7 → ⊥) → (form ≡ 12 → ⊥) → (form ≡ 13 → ⊥) → (form ≡ 14 → ⊥) → LineTells p s h Quiet
others_quiet first no_field no-swap no-send no-recv no_copy =
    record {
      tells = λ P n S f fs rest st on.
          let number = first ∙ on.words 0 (omega arith) in
          plain_quiet (here_at S _ f fs) (line_at P f.block f.line)
          (record {
            field_not = λ e. no_field (number ∙ e);
            swap_not = λ e. no-swap (number ∙ e);
            send_not = λ e. no-send (number ∙ e);
            recv_not = λ e. no-recv (number ∙ e);
            copy_not = λ e. no_copy (number ∙ e);
          });
    }

-- ---- The turn

no_frames_quiet : (P : Program) (S : State) (t : ℕ) (fs : List Frame) → 0 ≡ length fs → Quiet ≡ frames_event P S t fs
unfolding frames_event
no_frames_quiet P S t [] none = refl
no_frames_quiet P S t (f ∷ fs) none = absurd (omega arith)

frameless_event : (P : Program) (S : State) (t : ℕ) → 0 ≡ length (thread_at S t).frames → Quiet ≡ event P S t
unfolding event
frameless_event P S t none = no_frames_quiet P S t (thread_at S t).frames none

module _ {p s : List ℕ} {t : ℕ} where
  pub past_quiet : 16 ≤ t → TurnTells p s t Quiet
  past_quiet past = record { tells = λ P n S rest loaded held valid fits. frameless_event P S t (no_frames S t fits.few_threads past) }

  pub frameless_quiet : {d : ℕ} → Sees s Any (λ S. length (thread_at S t).frames) d → d ≡ 0 → TurnTells p s t Quiet
  frameless_quiet seen none = record { tells = λ P n S rest loaded held valid fits. frameless_event P S t (sym none ∙ seen.sees S rest held tt) }

  -- where it stands
  pub found_tells : {h : Here} {r : Event} → h.thread ≡ t → Finds p s t h → LineTells p s h r → TurnTells p s t r
  found_tells same place line-tells =
      record {
        tells = λ P n S rest loaded held valid fits.
            let at = place.finds P n S rest loaded held valid fits in
            rw (← same) (line-tells.tells P n S at.frame at.callers rest at.stand at.on_line ∙ sym (event_at_lem P S _ at.stand.frames));
      }

-- ---- The objects met

-- its object is walked
pub walk_meets : {s order : List ℕ} {e : Event} {w : Tally} (x : ℕ) → (e ≡ Puts x) ⊎ ((e ≡ Receives x) ⊎ (e ≡ Copies x))
    → Walks s (tally (replicate 256 0) order 0) (Of (Obj x)) (λ S. Obj x ∷ []) w → Meets s e w.order w.count
walk_meets x is from =
    record {
      meets = λ P n S rest held fits.
          ⊎_elim (λ a. rw a (λ there. (walk_from_nothing from held fits there).listed))
          (⊎_elim (λ a. rw a (λ there. (walk_from_nothing from held fits there).listed)) (λ a. rw a (λ there. (walk_from_nothing from held fits there).listed))) is;
    }

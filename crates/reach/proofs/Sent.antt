-- The message that a waiting sender put: the words of its line tell the send and its channel, and the channel's number whether it is still that message.
use Rattle.std.proofs.Common.{ℕ, ◌+◌, ◌%◌, arith, ◌≡◌, refl, sym, ap, ◌∙◌, subst, List, [], ◌∷◌, eqb, length, get_or, eqb-true, eq-eqb, ne_eqb}
use borrow.Author.Tests.{eqb-false}
use Rattle.rules.specs.declared.Value.{Value}
use Rattle.rules.specs.declared.Value.TheVariants.{Absent, Obj, Chan}
use Rattle.rules.specs.Lists.{pad}
use Rattle.rules.specs.Script.{Operand, value, field, swap, call, new, cast, spawn, send, recv, copy, Line, bind, give, line, Program, line_at}
use Rattle.rules.specs.State.{Frame, Sender, ready, waiting, State, thread_at, channel_at, slot_at}
use Rattle.rules.specs.Tables.{sender_word, line_words, row}
use Rattle.rules.specs.Reach.{message_of, message_on, send_target, put_by, in_flight}
use Rattle.rules.proofs.ListLaws.{by_bool}
use Rattle.table.specs.declared.standing.Here.{Here}
use Rattle.table.specs.StateTable.{InTable, Sees, Any}
use Rattle.table.proofs.Places.{message_in_table}
use Rattle.checks.proofs.Standing.{SlotSeen, slot_place, slot_read}
use Rattle.turn.proofs.TurnSteps.{let_names}
use Rattle.turn.proofs.Dispatch.{word_at, tells_send}
use Rattle.turn.proofs.Located.{Found, Finds}
use Rattle.reach.specs.Reported.{message_for, SeesInFlight}

-- ---- A channel's message, by its number

module _ {s : List ℕ} (c : ℕ) {k d : ℕ} (number : Sees s Any (λ S. (channel_at S c).number) k) where
  pub number_fits : {v : Value} → k + 1 ≡ d → Sees s (λ S. InTable (channel_at S c).message) (λ S. (channel_at S c).message) v
      → Sees s (λ S. InTable (channel_at S c).message) (λ S. message_for S c d) v
  number_fits fits read =
      record {
        sees = λ S rest held place.
            let is : (channel_at S c).number + 1 ≡ d = ap (◌+ 1) (sym (number.sees S rest held tt)) ∙ fits in
            rw (eq-eqb ((channel_at S c).number + 1) d is) (read.sees S rest held place);
      }

  pub number_differs : (k + 1 ≡ d → ⊥) → Sees s (λ S. InTable (channel_at S c).message) (λ S. message_for S c d) Absent
  number_differs other =
      record {
        sees = λ S rest held place.
            let is-not : (channel_at S c).number + 1 ≡ d → ⊥ = λ e. other (ap (◌+ 1) (number.sees S rest held tt) ∙ e) in
            rw (ne_eqb ((channel_at S c).number + 1) d is-not) refl;
      }

-- ---- The sender

-- what a sender put, whose line's target is v
abbrev by_sender : State → Sender → Value → Value
by_sender S ready v = Absent
by_sender S (waiting i) v = message_on S i v

put_at : (P : Program) (S : State) (d : Sender) (f : Frame) (fs : List Frame) → put_by P S d (f ∷ fs) ≡ by_sender S d (send_target (line_at P f.block f.line) f.slots)
unfolding put_by
put_at P S ready f fs = refl
put_at P S (waiting i) f fs = refl

-- its word decides as its number does
by_word : (S : State) (c : ℕ) (d : Sender) → by_sender S d (Chan c) ≡ message_for S c (sender_word d)
unfolding message_on message_of
by_word S c ready = rw (ne_eqb ((channel_at S c).number + 1) 0 (λ e. omega arith)) refl
by_word S c (waiting i) =
    by_bool (eqb (channel_at S c).number i) (λ t. let is = eqb-true (channel_at S c).number i t in rw (t, eq-eqb ((channel_at S c).number + 1) (i + 1) (ap (◌+ 1) is)) refl)
    (λ t. let is-not = eqb-false (channel_at S c).number i t in rw (t, ne_eqb ((channel_at S c).number + 1) (i + 1) (λ e. is-not (omega arith))) refl)

-- ---- The line

-- a line whose form is not a send's has no such target
no_send_target : (x : Line) (vs : List Value) → (get_or (row (line x)) 0 0 ≡ 12 → ⊥) → send_target x vs ≡ Absent
unfolding send_target row line_words pad
no_send_target (bind (value w)) vs other = refl
no_send_target (bind (field s f)) vs other = refl
no_send_target (bind (swap s f w)) vs other = refl
no_send_target (bind (call s i w)) vs other = refl
no_send_target (bind (new k n ws)) vs other = refl
no_send_target (bind (cast k w)) vs other = refl
no_send_target (bind (spawn b)) vs other = refl
no_send_target (bind (send s w)) vs other = absurd (other refl)
no_send_target (bind (recv s)) vs other = refl
no_send_target (bind (copy k s)) vs other = refl
no_send_target (give w) vs other = refl

send_target_lem : {x : Line} {s : ℕ} {w : Operand} (vs : List Value) → x ≡ bind (send s w) → send_target x vs ≡ slot_at vs s
unfolding send_target
send_target_lem vs is = rw is refl

-- nothing is sent where the target is no channel
nothing_by : (S : State) (d : Sender) → by_sender S d Absent ≡ Absent
unfolding message_on
nothing_by S ready = refl
nothing_by S (waiting i) = refl

no_object_by : (S : State) (d : Sender) (n : ℕ) → by_sender S d (Obj n) ≡ Absent
unfolding message_on
no_object_by S ready n = refl
no_object_by S (waiting i) n = refl

-- ---- The thread

no_frame_lem : (P : Program) (S : State) (d : Sender) (fs : List Frame) → length fs ≡ 0 → put_by P S d fs ≡ Absent
unfolding put_by
no_frame_lem P S ready fs none = refl
no_frame_lem P S (waiting i) [] none = refl
no_frame_lem P S (waiting i) (f ∷ fs) none = absurd (omega arith)

pub finished_put : {p s : List ℕ} {t d : ℕ} → Sees s Any (λ S. length (thread_at S t).frames) d → d ≡ 0 → SeesInFlight p s t Absent
unfolding in_flight
finished_put {t = t} counted none =
    record {
      is = λ P n S rest loaded held valid fits.
          sym (no_frame_lem P S (thread_at S t).sender (thread_at S t).frames (sym (counted.sees S rest held tt) ∙ none));
    }

module _ {p s : List ℕ} {t : ℕ} {h : Here} (place : Finds p s t h) (same : h.thread ≡ t) where
  -- what the thread put, by the target of its line
  put_by_target : {P : Program} {n : ℕ} {S : State} {rest : List ℕ} (at : Found p s t h P n S rest) {v : Value}
      → send_target (line_at P at.frame.block at.frame.line) at.frame.slots ≡ v → in_flight P S t ≡ by_sender S (thread_at S t).sender v
  unfolding in_flight
  put_by_target {P} {S = S} at target =
      ap (put_by P S (thread_at S t).sender) (subst (λ u. (thread_at S u).frames ≡ at.frame ∷ at.callers) same at.stand.frames) ∙ put_at P S (thread_at S t).sender at.frame at.callers
      ∙ ap (by_sender S (thread_at S t).sender) target

  module _ {form : ℕ} (first : form ≡ word_at p h 0) where
    pub at_no_send : (form ≡ 12 → ⊥) → SeesInFlight p s t Absent
    at_no_send other =
        record {
          is = λ P n S rest loaded held valid fits.
              let at = place.finds P n S rest loaded held valid fits in
              let target = no_send_target (line_at P at.frame.block at.frame.line) at.frame.slots (λ e. other (first ∙ at.on_line.words 0 (omega arith) ∙ e)) in
              sym (put_by_target at target ∙ nothing_by S (thread_at S t).sender);
        }

    module _ {a : ℕ} {x : Value} (second : a ≡ word_at p h 1) (is-send : form ≡ 12) (read : SlotSeen s h (a % 16) x) where
      target_is : {P : Program} {n : ℕ} {S : State} {rest : List ℕ} (at : Found p s t h P n S rest)
          → send_target (line_at P at.frame.block at.frame.line) at.frame.slots ≡ x
      target_is {P} {n} {S} {rest} at =
          let named = (tells_send first second refl is-send).at_line P n S at.frame at.callers rest at.stand at.on_line in
          let filled = (let_names at.stand named).0 in
          send_target_lem at.frame.slots named ∙ slot_read at.stand (a % 16) (a % 16) (sym (slot_place at.stand (a % 16) filled)) read filled

      pub target_absent : x ≡ Absent → SeesInFlight p s t Absent
      target_absent none =
          record {
            is = λ P n S rest loaded held valid fits.
                sym (put_by_target (place.finds P n S rest loaded held valid fits) (target_is (place.finds P n S rest loaded held valid fits) ∙ none)
                ∙ nothing_by S (thread_at S t).sender);
          }

      pub target_object : {o : ℕ} → x ≡ Obj o → SeesInFlight p s t Absent
      target_object {o} is_object =
          record {
            is = λ P n S rest loaded held valid fits.
                sym (put_by_target (place.finds P n S rest loaded held valid fits) (target_is (place.finds P n S rest loaded held valid fits) ∙ is_object)
                ∙ no_object_by S (thread_at S t).sender o);
          }

      pub target_channel : {c d : ℕ} {v : Value} → x ≡ Chan c → Sees s Any (λ S. sender_word (thread_at S t).sender) d
          → Sees s (λ S. InTable (channel_at S c).message) (λ S. message_for S c d) v → SeesInFlight p s t v
      target_channel {c} is_channel_lem word message =
          record {
            is = λ P n S rest loaded held valid fits.
                message.sees S rest held (message_in_table fits c) ∙ ap (message_for S c) (word.sees S rest held tt)
                ∙ sym (put_by_target (place.finds P n S rest loaded held valid fits) (target_is (place.finds P n S rest loaded held valid fits) ∙ is_channel_lem)
                ∙ by_word S c (thread_at S t).sender);
          }

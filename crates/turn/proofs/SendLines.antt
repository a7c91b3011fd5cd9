-- The line send: a thread whose sender's word is 0 is ready, puts the message and stays on the line as its sender; any other is given the channel.
use Prim.Native.Nat.{ℕ, ◌+◌, ◌-◌, ◌/◌, ◌%◌, ◌≤◌, ◌<◌}
use native.Mathlib.Omega.{arith}
use mathlib.Core.Path.{◌≡◌, refl, sym, ap, ◌∙◌, subst}
use mathlib.Core.List.{List, [], ◌∷◌}
use Rattle.rules.specs.declared.Value.{Value}
use Rattle.rules.specs.declared.Value.TheVariants.{Obj, Chan}
use Rattle.rules.specs.Mosts as Most
use Rattle.rules.specs.Mosts.{mosts}
use Rattle.rules.specs.Holders.{holders}
use Rattle.rules.specs.HolderChanges.{operand_gained, put_gained, let_gained, line_gained, line_lost}
use Rattle.rules.specs.Script.{Operand, Line, Program, send, bind, line_at}
use Rattle.rules.specs.State.{Frame, Sender, ready, waiting, Thread, State, thread_at, channel_at}
use Rattle.rules.specs.Tables.{operand_of, sender_word}
use Rattle.rules.specs.Turn.{Res, is_absent, left_by, put_thread, put_channel, filled, with_slots, gives, put_line, sent_line, send_line, let_line, perform}
use Rattle.rules.proofs.ListLaws.{impossible}
use Rattle.rules.proofs.Moves.{left_was_there, Step, by_put, by_sent}
use Rattle.rules.proofs.TableWords.{sender_tells}
use Rattle.table.specs.declared.standing.Here.{Here}
use Rattle.table.specs.StateTable.{Counted, Held, Sees, Becomes, Any, HasRoom, given, channelled, sending, Puts}
use Rattle.table.proofs.StateEdits.{thread_put, put_put}
use Rattle.checks.specs.Checked.{outcome_of, here_at, Stand, Checks}
use Rattle.checks.proofs.CheckLaws.{number_of}
use Rattle.checks.proofs.Standing.{SlotSeen, TargetSeen, slot_channel, messages_few, slot_read, target_read}
use Rattle.turn.specs.Performed.{emptied, Leaves, Went, to_next, to_same, Performs, Always}
use Rattle.turn.proofs.Settled.{Written, only_gained, nothing_gained}
use Rattle.turn.proofs.SlotLines.{operand_kept, operand_gave}
use Rattle.turn.proofs.TurnSteps.{Answers, Writes, always_performs, word_names, let_names, let_room, line_few}
use Rattle.turn.proofs.Frames.{Inside, inside, has_room, has_slot, stands_put, inside_put, given_inside, emptied_inside}
use Rattle.std.specs.Prelude.{Result}
use Rattle.checks.specs.declared.form_checks.Halt.{Halt}
use Rattle.turn.specs.declared.Move.{Move}
use Rattle.turn.specs.declared.Move.TheVariants.{Next, Stay}

-- ---- send by a thread that is ready

-- message m is put into channel c, and thread t waits as its sender
module _ {t k : ℕ} {f : Frame} {fs : List Frame} (S : State) (here : Inside t k f fs S) (c : ℕ) (v : Value) (m : ℕ) where
  sending_inside : sending t m (channelled c v m S) ≡ put_thread (channelled c v m S) t (f ∷ fs) (waiting m)
  unfolding sending channelled put_channel thread_at
  sending_inside = ap (λ (gs : List Frame). put_thread (channelled c v m S) t gs (waiting m)) here.frames

  inside_sending : Inside t k f fs (sending t m (channelled c v m S))
  unfolding channelled put_channel
  inside_sending = rw sending_inside (inside_put (channelled c v m S) (waiting m) here.thread here.depth)

  -- then the operand's slot is left
  sending_then_emptied : (w : Operand)
      → emptied t k w (sending t m (channelled c v m S)) ≡ put_thread (channelled c v m S) t (with_slots f (left_by f.slots w) ∷ fs) (waiting m)
  unfolding channelled put_channel
  sending_then_emptied w =
      let T = channelled c v m S in
      let put : Inside t k f fs (put_thread T t (f ∷ fs) (waiting m)) = inside_put T (waiting m) here.thread here.depth in
      let g = with_slots f (left_by f.slots w) in
      rw sending_inside
      (emptied_inside put w
      ∙ ap (put_thread (put_thread T t (f ∷ fs) (waiting m)) t (g ∷ fs)) (ap (λ (u : Thread). u.sender) (thread_put T t (f ∷ fs) (waiting m) here.thread))
      ∙ put_put T t (f ∷ fs) (g ∷ fs) (waiting m) (waiting m))

-- thread t is ready
abbrev Ready : ℕ → Program → State → Type 0
Ready t P S = (thread_at S t).sender ≡ ready

module _ {s : List ℕ} {h : Here} (i w : ℕ) where
  pub put_answers : {k : Res (Unit {0})} → Checks s h (i ∷ w / 2 ∷ []) (λ P H. put_line H i (operand_of w)) k → Answers (Ready h.thread) s h (bind (send i (operand_of w))) k
  unfolding perform let_line send_line
  put_answers all =
      record {
        answers = λ P n S f fs rest q st at_line.
            let names = let_names st at_line in
            all.checks P n S f fs rest st (names.0, (word_names st w names.1, tt))
            ∙ ap (λ (x : Sender). outcome_of (send_line (here_at S h.thread f fs) x i (operand_of w))) (sym q);
      }

  -- the operand's value is put, then its slot is left
  module _ {s₁ s₂ : List ℕ} {x v : Value} {m : ℕ} (target : TargetSeen s h i w x) (is : x ≡ Chan m) (read : SlotSeen s h (w / 2 % 16) v)
      (puts : Becomes s (Puts h.thread m) (λ S. sending h.thread ((channel_at S m).number + 1) (channelled m v ((channel_at S m).number + 1) S)) s₁)
      (leaves : Leaves h.thread h.depth w v s₁ s₂) where
    put_moved : {P : Program} {n : ℕ} {S : State} {f : Frame} {fs : List Frame} {rest : List ℕ} {S₁ : State} → Ready h.thread P S → Stand s h P n S f fs rest → n < Most.turns
        → line_at P f.block f.line ≡ bind (send i (operand_of w)) → Step mosts P (here_at S h.thread f fs) (bind (send i (operand_of w))) S₁
        → Written s₂ S (operand_gained f.slots (operand_of w)) [] S₁ rest × Went h.thread f fs S₁ Stay
    unfolding channelled put_channel with_slots is_absent
    put_moved {S = S} {f = f} {fs = fs} {rest = rest} q st few at_line (by_put _ _ c o vs put) =
        let t = h.thread in
        let k = h.depth in
        let here = inside st in
        let names = let_names st at_line in
        let named = word_names st w names.1 in
        let room = let_room st at_line in
        let target_left = rw put.gave.slots at put.target in
        let is_channel_lem = left_was_there f.slots (operand_of w) i refl target_left in
        let same : m ≡ c = ap number_of (sym (target_read st i w target names.0 ∙ is) ∙ target_left) in
        let is-value : Obj o ≡ v = operand_gave st w read named put.gave in
        let next = (channel_at S c).number + 1 in
        let few-messages : (channel_at S c).number < Most.turns = omega (arith, messages_few st c, few) in
        let put_there : Puts t m S = record { thread = here.thread; channel = rw same (slot_channel st i c is_channel_lem); number = rw same few-messages } in
        let first : Counted s₁ (holders S) (sending t next (channelled c v next S)) rest =
        subst (λ (d : ℕ). Counted s₁ (holders S) (sending t ((channel_at S d).number + 1) (channelled d v ((channel_at S d).number + 1) S)) rest) same
        (puts.becomes S rest st.held put_there) in
        let last = leaves.leaves _ rest first (omega (arith, named, room)) (has_slot (inside_sending S here c v next) (w / 2) named) in (
          rw (put.gave.slots, is-value) (only_gained (operand_gained f.slots (operand_of w))
              (rw (operand_kept st w read named, sending_then_emptied S here c v next (operand_of w)) at last)),
          to_same (stands_put (put_channel S c (record { message = Obj o; number = next })) (with_slots f vs) fs (waiting next) here.thread),
        )
    put_moved q st few at_line (by_sent _ _ d c taken) = let clash : ready ≡ waiting d = sym q ∙ taken.sender in impossible cc

    pub put_writes : Writes (Ready h.thread) s h (bind (send i (operand_of w))) Stay s₂
    unfolding line_gained let_gained line_lost
    put_writes = record { writes = λ P n S f fs rest q st few at_line S₁ step. rw q (put_moved q st few at_line step) }

-- ---- send by a thread that waits as a sender, whose word is d

-- thread t's sender has the word d
abbrev Waiting : ℕ → ℕ → Program → State → Type 0
Waiting t d P S = sender_word (thread_at S t).sender ≡ d

module _ {s : List ℕ} {h : Here} (i : ℕ) {d : ℕ} (some : 1 ≤ d) (w : Operand) where
  pub sent_answers : {k : Res (Unit {0})} → Checks s h (i ∷ []) (λ P H. sent_line H i (d - 1)) k → Answers (Waiting h.thread d) s h (bind (send i w)) k
  unfolding perform let_line send_line
  sent_answers all =
      record {
        answers = λ P n S f fs rest q st at_line.
            all.checks P n S f fs rest st ((let_names st at_line).0, tt)
            ∙ ap (λ (x : Sender). outcome_of (send_line (here_at S h.thread f fs) x i w)) (sym (sender_tells (thread_at S h.thread).sender (waiting (d - 1)) (omega (arith, q, some))));
      }

  -- the channel is given
  module _ {s₁ : List ℕ} {x : Value} (read : SlotSeen s h (i % 16) x)
      (gives-channel : Becomes s (HasRoom h.thread h.depth) (given h.thread h.depth x) s₁) where
    sent_moved : {P : Program} {n : ℕ} {S : State} {f : Frame} {fs : List Frame} {rest : List ℕ} {S₁ : State} → Waiting h.thread d P S → Stand s h P n S f fs rest
        → line_at P f.block f.line ≡ bind (send i w) → Step mosts P (here_at S h.thread f fs) (bind (send i w)) S₁
        → Written s₁ S (put_gained (thread_at S h.thread).sender f.slots w) [] S₁ rest × Went h.thread f fs S₁ Next
    unfolding gives filled
    sent_moved q st at_line (by_put _ _ c o vs put) = let clash : 0 ≡ d = ap sender_word (sym put.sender) ∙ q in absurd (omega arith)
    sent_moved {S = S} {f = f} {fs = fs} {rest = rest} {S₁ = S₁} q st at_line (by_sent _ _ e c taken) =
        let here = inside st in
        let is_channel_lem : Chan c ≡ x = sym taken.target ∙ slot_read st i (i % 16) refl read (let_names st at_line).0 in
        let held = gives-channel.becomes S rest st.held (has_room here (let_room st at_line) (line_few st)) in
        let T : State = put_thread S h.thread (filled f f.slots (Chan c) ∷ fs) ready in
        let gave : Counted s₁ (holders S) T rest = rw is_channel_lem (rw (given_inside here x) at held) in (
          subst (λ (y : Sender). Written s₁ S (put_gained y f.slots w) [] T rest) (sym taken.sender) (nothing_gained gave),
          to_next (stands_put S _ fs ready here.thread),
        )

    pub sent_writes : Writes (Waiting h.thread d) s h (bind (send i w)) Next s₁
    unfolding line_gained let_gained line_lost
    sent_writes = record { writes = λ P n S f fs rest q st few at_line S₁ step. sent_moved q st at_line step }

-- ---- send, by the sender's word d

module _ {s : List ℕ} (t : ℕ) {d : ℕ} (sender : Sees s Any (λ S. sender_word (thread_at S t).sender) d) where
  pub seen_ready : d ≡ 0 → (P : Program) (S : State) (rest : List ℕ) → Held s S rest → Ready t P S
  seen_ready none P S rest held = sender_tells (thread_at S t).sender ready (sym (sender.sees S rest held tt) ∙ none)

  pub seen_waiting : (P : Program) (S : State) (rest : List ℕ) → Held s S rest → Waiting t d P S
  seen_waiting P S rest held = sym (sender.sees S rest held tt)

module _ {s s₁ : List ℕ} {h : Here} {x : Line} {d : ℕ} {r : Result Move Halt} (sender : Sees s Any (λ S. sender_word (thread_at S h.thread).sender) d) where
  pub send_ready : d ≡ 0 → Performs (Ready h.thread) s h x r s₁ → Performs Always s h x r s₁
  send_ready none = always_performs (seen_ready h.thread sender none)

  pub send_waiting : Performs (Waiting h.thread d) s h x r s₁ → Performs Always s h x r s₁
  send_waiting = always_performs (seen_waiting h.thread sender)

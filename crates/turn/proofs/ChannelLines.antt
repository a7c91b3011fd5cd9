-- The lines spawn and recv: a thread is started and its channel given; a message is given and its channel, whose number is read back, emptied.
use Prim.Native.Nat.{ℕ, ◌%◌, ◌<◌}
use native.Mathlib.Nat.{mod-eq_of_lt}
use native.Mathlib.Omega.{arith}
use mathlib.Core.Path.{◌≡◌, refl, sym, ap, ◌∙◌, subst}
use mathlib.Core.List.{List, [], ◌∷◌, ◌++◌}
use lib.Dec.{ltb}
use lib.ListN.{length, get_or-append}
use Rattle.rules.specs.declared.Value.{Value}
use Rattle.rules.specs.declared.Value.TheVariants.{Absent, Chan}
use Rattle.rules.specs.Mosts.{mosts}
use Rattle.rules.specs.Numbers as No
use Rattle.rules.specs.Holders.{holders}
use Rattle.rules.specs.HolderChanges.{let_gained, line_gained, line_lost}
use Rattle.rules.specs.Script.{Program, spawn, recv, bind, line_at}
use Rattle.rules.specs.State.{Frame, ready, Thread, no_thread, State, thread_at, channel_at}
use Rattle.rules.specs.Turn.{Res, check, put_thread, put_channel, filled, gives, started, spawn_line, recv_line, let_line, perform}
use Rattle.rules.proofs.ListLaws.{length_snoc}
use Rattle.rules.proofs.Moves.{Step, by_spawn, by_recv}
use Rattle.table.specs.declared.standing.Here.{Here}
use Rattle.table.specs.StateTable as T
use Rattle.table.specs.StateTable.{Counted, Sees, Becomes, Any, HasRoom, given, channelled}
use Rattle.checks.specs.Checked.{outcome_of, Few, here_at, Stand, Checks}
use Rattle.checks.proofs.CheckLaws.{number_of, then_ok}
use Rattle.checks.proofs.Standing.{SlotSeen, MessageSeen, slot_channel, slot_read, message_read}
use Rattle.turn.specs.Performed.{Went, to_next, Always}
use Rattle.turn.proofs.Settled.{Written, nothing_gained}
use Rattle.turn.proofs.TurnSteps.{Answers, Writes, let_names, let_room, line_few}
use Rattle.turn.proofs.Frames.{Inside, inside, has_room, stands_put, given_inside}
use Rattle.turn.specs.declared.Move.TheVariants.{Next}

-- ---- spawn

more_threads : {t : ℕ} (us : List Thread) (u : Thread) → t < length us → t < length (us ++ (u ∷ []))
more_threads us u there = rw (length_snoc us u) (omega arith)

-- where thread t stands, with one thread more
started_inside : (b : ℕ) {t k : ℕ} {f : Frame} {fs : List Frame} (S : State) → Inside t k f fs S → Inside t k f fs (started S b)
unfolding started thread_at
started_inside b {t} S here =
    record {
      thread = more_threads S.threads _ here.thread;
      frames = ap (λ (u : Thread). u.frames) (get_or-append S.threads _ no_thread t here.thread) ∙ here.frames;
      depth = here.depth;
    }

module _ {s : List ℕ} {h : Here} (b : ℕ) where
  pub spawn_answers : {k : Res (Unit {0})} → Sees s (λ S. Few S) (λ S. outcome_of (check (ltb (length S.threads) mosts.threads) No.used_up)) k → Answers Always s h (bind (spawn b)) k
  unfolding perform let_line spawn_line
  spawn_answers room = record { answers = λ P n S f fs rest q st at_line. room.sees S rest st.held st.fits.few_threads ∙ then_ok _ _ }

  -- c threads are counted; the next one is started, then its channel is given
  module _ {s₁ s₂ : List ℕ} {c : ℕ} (counted : Sees s Any (λ S. length S.threads) c)
      (starts : Becomes s (λ S. T.Next (c % 16) S) (λ S. started S b) s₁)
      (gives-channel : Becomes s₁ (HasRoom h.thread h.depth) (given h.thread h.depth (Chan (c % 16))) s₂) where
    spawn_moved : {P : Program} {n : ℕ} {S : State} {f : Frame} {fs : List Frame} {rest : List ℕ} {S₁ : State} → Stand s h P n S f fs rest
        → line_at P f.block f.line ≡ bind (spawn b) → Step mosts P (here_at S h.thread f fs) (bind (spawn b)) S₁
        → Written s₂ S [] [] S₁ rest × Went h.thread f fs S₁ Next
    unfolding gives filled
    spawn_moved {S = S} {f = f} {fs = fs} {rest = rest} st at_line (by_spawn _ room) =
        let count : c ≡ length S.threads = counted.sees S rest st.held tt in
        let small : c < 16 = omega (arith, count, room) in
        let same : c % 16 ≡ length S.threads = mod-eq_of_lt small ∙ count in
        let here = started_inside b S (inside st) in
        let first = starts.becomes S rest st.held (record { next = same; channels = st.fits.channel_each }) in
        let then = gives-channel.becomes (started S b) rest first (has_room here (let_room st at_line) (line_few st)) in
        let is : given h.thread h.depth (Chan (c % 16)) (started S b) ≡ put_thread (started S b) h.thread (filled f f.slots (Chan (length S.threads)) ∷ fs) ready =
        given_inside here (Chan (c % 16)) ∙ ap (λ (m : ℕ). put_thread (started S b) h.thread (filled f f.slots (Chan m) ∷ fs) ready) same in
        (nothing_gained (subst (λ (R : State). Counted s₂ (holders S) R rest) is then), to_next (stands_put (started S b) _ fs ready here.thread))

    pub spawn_writes : Writes Always s h (bind (spawn b)) Next s₂
    unfolding line_gained let_gained line_lost
    spawn_writes = record { writes = λ P n S f fs rest q st few at_line S₁ step. spawn_moved st at_line step }

-- ---- recv

module _ {s : List ℕ} {h : Here} (i : ℕ) where
  pub recv_answers : {k : Res (Unit {0})} → Checks s h (i ∷ []) (λ P H. recv_line H i) k → Answers Always s h (bind (recv i)) k
  unfolding perform let_line
  recv_answers all = record { answers = λ P n S f fs rest q st at_line. all.checks P n S f fs rest st (let_names st at_line, tt) }

  -- the message u is given, then its channel is emptied
  module _ {s₁ s₂ : List ℕ} {x u : Value} {m : ℕ} (target : SlotSeen s h (i % 16) x) (is : x ≡ Chan m) (message : MessageSeen s m u)
      (gives-message : Becomes s (HasRoom h.thread h.depth) (given h.thread h.depth u) s₁)
      (empties : Becomes s₁ (λ S. m < length S.channels) (λ S. channelled m Absent (channel_at S m).number S) s₂) where
    recv_moved : {P : Program} {n : ℕ} {S : State} {f : Frame} {fs : List Frame} {rest : List ℕ} {S₁ : State} → Stand s h P n S f fs rest
        → line_at P f.block f.line ≡ bind (recv i) → Step mosts P (here_at S h.thread f fs) (bind (recv i)) S₁
        → Written s₂ S [] [] S₁ rest × Went h.thread f fs S₁ Next
    unfolding gives filled channelled put_thread put_channel channel_at
    recv_moved {S = S} {f = f} {fs = fs} {rest = rest} st at_line (by_recv _ c received) =
        let same : m ≡ c = ap number_of (sym (slot_read st i (i % 16) refl target (let_names st at_line) ∙ is) ∙ received.target) in
        let here = inside st in
        let is-message : (channel_at S c).message ≡ u = subst (λ (d : ℕ). (channel_at S d).message ≡ u) same (message_read st m message) in
        let first = gives-message.becomes S rest st.held (has_room here (let_room st at_line) (line_few st)) in
        let G = put_thread S h.thread (filled f f.slots u ∷ fs) ready in
        let second : Counted s₁ (holders S) G rest = subst (λ (R : State). Counted s₁ (holders S) R rest) (given_inside here u) first in
        let third = empties.becomes G rest second (rw same (slot_channel st i c received.target)) in
        let last : Counted s₂ (holders S) (channelled c Absent (channel_at G c).number G) rest =
        subst (λ (d : ℕ). Counted s₂ (holders S) (channelled d Absent (channel_at G d).number G) rest) same third in (
          rw is-message (nothing_gained last),
          to_next (stands_put (put_channel S c (record { message = Absent; number = (channel_at S c).number })) _ fs ready here.thread),
        )

    pub recv_writes : Writes Always s h (bind (recv i)) Next s₂
    unfolding line_gained let_gained line_lost
    recv_writes = record { writes = λ P n S f fs rest q st few at_line S₁ step. recv_moved st at_line step }

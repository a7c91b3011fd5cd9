-- The lines call and give: a frame is pushed, which holds its target, then the operand's slot in its caller is left; the caller is given the operand's
-- value, then the frame ends and lets go of its slots' values.
use Prim.Native.Nat.{ℕ, suc, ◌-◌, ◌/◌, ◌%◌, ◌<◌}
use native.Mathlib.Omega.{arith}
use mathlib.Core.Path.{◌≡◌, refl, sym, ap, ◌∙◌, subst}
use mathlib.Core.List.{List, [], ◌∷◌}
use lib.ListN.{length, get_or, get_or-append}
use lib.Seq.{get_or_at}
use borrow.Author.Tests.{ne_eqb, eq-eqb}
use Rattle.rules.specs.declared.Value.{Value}
use Rattle.rules.specs.declared.Value.TheVariants.{Obj}
use Rattle.rules.specs.Mosts as Most
use Rattle.rules.specs.Mosts.{mosts}
use Rattle.rules.specs.Lists.{Every}
use Rattle.rules.specs.Holders.{holders}
use Rattle.rules.specs.HolderChanges.{operand_gained, return_gained, let_gained, line_gained, line_lost}
use Rattle.rules.specs.Reading.{slot_of}
use Rattle.rules.specs.Script.{Operand, Program, call, bind, give, kind_at}
use Rattle.rules.specs.State.{Frame, Sender, ready, Thread, State, object_at, thread_at, slot_at}
use Rattle.rules.specs.Tables.{operand_of, outermost_first, no_frame}
use Rattle.rules.specs.Turn.{Res, left_by, object, put_thread, filled, with_slots, is_absent, give_line, let_line, perform}
use Rattle.rules.proofs.ListLaws.{every_map}
use Rattle.rules.proofs.Moves.{left_was_there, MethodCalled, Step, by_call, by_return, by_finish}
use Rattle.rules.proofs.Keeps.{block_ok}
use Rattle.rules.proofs.TableWords.{length_outermost}
use Rattle.table.specs.declared.standing.Here.{Here}
use Rattle.table.specs.StateTable.{InTable, Counted, Becomes, frame_at, on_frame, edit_frame, HasFrame, HasRoom, HasSlot, Innermost, given, callee, called, left, raised, all_raised, all_lowered, Counts, Drops}
use Rattle.table.proofs.StateEdits.{thread_put, put_put}
use Rattle.table.proofs.Places.{has_place}
use Rattle.std.specs.Prelude.{Option, Some}
use Rattle.std.specs.Option.{unwrap_or}
use Rattle.std.proofs.lemmas.Option.{unwrap_or-slice_get}
use Rattle.checks.specs.Checked.{here_at, Stand, MethodBlock}
use Rattle.checks.proofs.CheckLaws.{number_of, then_gives}
use Rattle.checks.proofs.CallChecks.{ChecksCall}
use Rattle.checks.proofs.Standing.{SlotSeen, TargetSeen, fits_here, slots_few, OperandChecked, target_read, slot_object, kind_is_there}
use Rattle.turn.specs.Performed.{emptied, Leaves, Went, to_other, Always, Loaded}
use Rattle.turn.proofs.Settled.{Written, written, only_gained}
use Rattle.turn.proofs.SlotLines.{operand_kept, operand_gave}
use Rattle.turn.proofs.TurnSteps.{Answers, Writes, word_names, let_names, give_names}
use Rattle.turn.proofs.Frames.{Inside, inside, frame_inside, inside_put, innermost, left_inside}
use Rattle.turn.specs.declared.Move.TheVariants.{Turned}

-- ---- The frame that called the innermost one

-- thread t's innermost frame is g, called by c, which is inside of k others
module _ {t k : ℕ} {g c : Frame} {cs : List Frame} {S : State} (in-call : Inside t (suc k) g (c ∷ cs) S) where
  caller_depth : length cs ≡ k
  caller_depth = omega (arith, in-call.depth)

  caller_frame : frame_at S t k ≡ c
  unfolding frame_at outermost_first
  caller_frame =
      let there : k < length (outermost_first (c ∷ cs)) = omega (arith, length_outermost (c ∷ cs), caller_depth) in
      rw in-call.frames (get_or-append (outermost_first (c ∷ cs)) (g ∷ []) no_frame k there ∙ get_or_at (outermost_first cs) c [] no_frame k (length_outermost cs ∙ caller_depth))

  has_caller : HasFrame t k S
  has_caller = record { thread = in-call.thread; frame = rw in-call.frames (omega (arith, caller_depth)) }

  edit_caller : (e : Frame → Frame) (d : Sender) → edit_frame S t k e d ≡ put_thread S t (g ∷ e c ∷ cs) d
  unfolding edit_frame on_frame
  edit_caller e d =
      let inner : k ≡ suc (length cs) → ⊥ = λ same. omega (arith, same, caller_depth) in
      rw (in-call.frames, ne_eqb k (suc (length cs)) inner, eq-eqb k (length cs) (sym caller_depth)) refl

-- after a frame more was put
called_by : {t k : ℕ} {f : Frame} {fs : List Frame} {S : State} → Inside t k f fs S → (g : Frame) → Inside t (suc k) g (f ∷ fs) (put_thread S t (g ∷ f ∷ fs) ready)
called_by {S = S} in_frame g = inside_put S ready in_frame.thread (ap suc in_frame.depth)

-- ---- give: the operand's word w

pub give_answers : {s : List ℕ} {h : Here} {k : Res (Unit {0})} (w : ℕ) → OperandChecked s h w k → Answers Always s h (give (operand_of w)) k
unfolding perform give_line
give_answers w first = record { answers = λ P n S f fs rest q st at_line. first.checks P n S f fs rest st (word_names st w (give_names st at_line), tt) ∙ sym (then_gives _ _) }

-- the values of a frame's slots have places in the table
slots_in_table : {s : List ℕ} {h : Here} {P : Program} {n : ℕ} {S : State} {f : Frame} {fs : List Frame} {rest : List ℕ} → Stand s h P n S f fs rest → Every InTable f.slots
slots_in_table {f = f} st = every_map (has_place st.fits) f.slots (fits_here st).frame.slots

-- from the outermost frame: it ends
module _ {s s₁ : List ℕ} {h : Here} {w : Operand} (outermost : h.depth ≡ 0) (drops : Drops h.thread h.depth s s₁) where
  finish_moved : {P : Program} {n : ℕ} {S : State} {f : Frame} {fs : List Frame} {rest : List ℕ} → Stand s h P n S f fs rest → (S₁ : State)
      → Step mosts P (here_at S h.thread f fs) (give w) S₁ → Written s₁ S (return_gained fs (slot_at f.slots (slot_of w))) f.slots S₁ rest × Went h.thread f fs S₁ Turned
  unfolding all_raised
  finish_moved {S = S} {f = f} {fs = fs} {rest = rest} st S₁ (by_finish u v vs gave none) =
      let here = inside st in
      let t = h.thread in
      let ended : Counted s₁ (all_lowered f.slots (holders S)) (left t S) rest =
      rw (frame_inside here) at (drops.drops S rest st.held (innermost here) (rw (frame_inside here) (slots_few st)) (rw (frame_inside here) (slots_in_table st))) in
      let gone : Counted s₁ (all_lowered f.slots (holders S)) (put_thread S t [] ready) rest =
      subst (λ (R : State). Counted s₁ (all_lowered f.slots (holders S)) R rest) (left_inside here ∙ ap (λ (gs : List Frame). put_thread S t gs ready) none) ended in
      let nothing : return_gained fs (slot_at f.slots (slot_of w)) ≡ [] = ap (λ (gs : List Frame). return_gained gs (slot_at f.slots (slot_of w))) none in
      (rw nothing (written [] f.slots gone), to_other)
  finish_moved {fs = fs} st S₁ (by_return u v vs c cs gave callers) =
      let some : length fs ≡ suc (length cs) = ap length callers in
      absurd (omega (arith, some, st.depth, outermost))

  pub finish_writes : Writes Always s h (give w) Turned s₁
  unfolding line_gained line_lost
  finish_writes = record { writes = λ P n S f fs rest q st few at_line S₁ step. finish_moved st S₁ step }

-- a caller has room for what it is given
caller_room : {s : List ℕ} {h : Here} {P : Program} {n : ℕ} {S : State} {f c : Frame} {cs : List Frame} {rest : List ℕ} → Stand s h P n S f (c ∷ cs) rest
    → (length c.slots < Most.slots) × (c.line < Most.turns)
caller_room {P = P} {c = c} st =
    let fits = (fits_here st).callers.0 in
    let few = (block_ok mosts P st.valid c.block fits.frame.block).few in
    (omega (arith, few, fits.at_let, fits.frame.count), omega (arith, few, fits.at_let))

-- the caller is given v, then the innermost frame ends
given_then_left : {t k : ℕ} {f c : Frame} {cs : List Frame} {S : State} → Inside t (suc k) f (c ∷ cs) S → (v : Value)
    → left t (given t k v S) ≡ put_thread S t (filled c c.slots v ∷ cs) ready
unfolding given
given_then_left {t} {k} {f} {c} {cs} {S} in-call v =
    let g = filled c c.slots v in
    rw (edit_caller in-call (λ c. filled c c.slots v) ready)
    (left_inside (inside_put S ready in-call.thread refl) ∙ put_put S t (f ∷ g ∷ cs) (g ∷ cs) ready ready)

-- to a caller: the operand's value is given to it and held there, then the frame ends
module _ {s s₁ s₂ s₃ : List ℕ} {h : Here} {v : Value} (w : ℕ) (inner : h.depth ≡ 0 → ⊥) (read : SlotSeen s h (w / 2 % 16) v)
    (returns : Becomes s (HasRoom h.thread (h.depth - 1)) (given h.thread (h.depth - 1) v) s₁)
    (holds : Counts (raised v) s₁ s₂) (drops : Drops h.thread h.depth s₂ s₃) where
  value_returned : {P : Program} {n : ℕ} {S : State} {f c : Frame} {cs : List Frame} {rest : List ℕ} → Stand s h P n S f (c ∷ cs) rest
      → Written s₃ S (v ∷ []) f.slots (put_thread S h.thread (filled c c.slots v ∷ cs) ready) rest
  unfolding given all_raised
  value_returned {S = S} {f = f} {c = c} {cs = cs} {rest = rest} st =
      let t = h.thread in
      let k = h.depth - 1 in
      let here = inside st in
      let in-call : Inside t (suc k) f (c ∷ cs) S = record { thread = here.thread; frames = here.frames; depth = omega (arith, st.depth) } in
      let room : HasRoom t k S = record { has = has_caller in-call; room = rw (caller_frame in-call) (caller_room st).0; line = rw (caller_frame in-call) (caller_room st).1 } in
      let first = holds.counts (given t k v S) rest (returns.becomes S rest st.held room) in
      let now-in : Inside t h.depth f (filled c c.slots v ∷ cs) (given t k v S) =
      rw (edit_caller in-call (λ c. filled c c.slots v) ready) (inside_put S ready here.thread st.depth) in
      let ended : Counted s₃ (all_lowered f.slots (raised v (holders S))) (left t (given t k v S)) rest =
      rw (frame_inside now-in) at (drops.drops (given t k v S) rest first (innermost now-in) (rw (frame_inside now-in) (slots_few st)) (rw (frame_inside now-in) (slots_in_table st))) in
      written (v ∷ []) f.slots (subst (λ (R : State). Counted s₃ (all_lowered f.slots (raised v (holders S))) R rest) (given_then_left in-call v) ended)

  return_moved : {P : Program} {n : ℕ} {S : State} {f : Frame} {fs : List Frame} {rest : List ℕ} → Stand s h P n S f fs rest → w / 2 < length f.slots → (S₁ : State)
      → Step mosts P (here_at S h.thread f fs) (give (operand_of w)) S₁
      → Written s₃ S (return_gained fs (slot_at f.slots (slot_of (operand_of w)))) f.slots S₁ rest × Went h.thread f fs S₁ Turned
  return_moved {fs = fs} st there S₁ (by_finish u x vs gave none) =
      let empty : length fs ≡ 0 = ap length none in
      absurd (inner (omega (arith, empty, st.depth)))
  return_moved {P} {n} {S} {f} {fs} {rest} st there S₁ (by_return u x vs c cs gave callers) =
      let is-value : x ≡ v = operand_gave st w read there gave in
      let done = value_returned (subst (λ (gs : List Frame). Stand s h P n S f gs rest) callers st) in
      let gains : return_gained fs (slot_at f.slots (slot_of (operand_of w))) ≡ v ∷ [] =
      ap (λ (gs : List Frame). return_gained gs (slot_at f.slots (slot_of (operand_of w)))) callers ∙ ap (◌∷ []) (gave.value ∙ is-value) in
      (rw (gains, is-value) done, to_other)

  pub return_writes : Writes Always s h (give (operand_of w)) Turned s₃
  unfolding line_gained line_lost
  return_writes = record { writes = λ P n S f fs rest q st few at_line S₁ step. return_moved st (word_names st w (give_names st at_line)) S₁ step }

-- ---- call: the operand's word w, the target in slot i, method j

pub call_answers : {p s : List ℕ} {h : Here} {k : Res (Unit {0})} (i j w : ℕ) → ChecksCall p s h i j w k → Answers (λ P S. Loaded p P) s h (bind (call i j (operand_of w))) k
unfolding perform let_line
call_answers i j w all =
    record {
      answers = λ P n S f fs rest q st at_line.
          let names = let_names st at_line in
          all.checks P n S f fs q.counts q.rest rest q.filled st (names.0, (word_names st w names.2, tt));
    }

-- a frame is called, then the operand's slot in its caller is left
called_then_emptied : {t k : ℕ} {f : Frame} {fs : List Frame} {S : State} → Inside t k f fs S → (g : Frame) (w : Operand)
    → emptied t k w (called t g S) ≡ put_thread S t (g ∷ with_slots f (left_by f.slots w) ∷ fs) ready
unfolding called emptied
called_then_emptied {t} {k} {f} {fs} {S} in_frame g w =
    let R = put_thread S t (g ∷ f ∷ fs) ready in
    let frames : List Frame = g ∷ with_slots f (left_by f.slots w) ∷ fs in
    rw in_frame.frames
    (edit_caller (called_by in_frame g) (λ f. with_slots f (left_by f.slots w)) (thread_at R t).sender
    ∙ ap (put_thread R t frames) (ap (λ (u : Thread). u.sender) (thread_put S t (g ∷ f ∷ fs) ready in_frame.thread))
    ∙ put_put S t (g ∷ f ∷ fs) frames ready ready)

-- the target is object o, the method's block m
module _ {p s : List ℕ} {h : Here} {o m : ℕ} {a : Value} (i j w : ℕ) (target : TargetSeen s h i w a) (is : a ≡ Obj o) (method : MethodBlock p s o j (Some m)) where
  module _ {P : Program} {n : ℕ} {S : State} {f : Frame} {fs : List Frame} {rest : List ℕ} {b : ℕ} {v : Value} {vs : List Value} (loaded : Loaded p P)
      (st : Stand s h P n S f fs rest) (named : i < length f.slots) (passed : MethodCalled P (here_at S h.thread f fs) i j (operand_of w) b v vs) where
    target_left : slot_at (left_by f.slots (operand_of w)) i ≡ Obj b
    target_left = ap (λ (us : List Value). slot_at us i) (sym passed.gave.slots) ∙ passed.target

    target_was_there : slot_at f.slots i ≡ Obj b
    unfolding is_absent
    target_was_there = left_was_there f.slots (operand_of w) i refl target_left

    number_is : o ≡ b
    number_is = ap number_of (sym (target_read st i w target named ∙ is) ∙ target_left)

    block_is : m ≡ get_or (kind_at P (object_at S.objects b).kind).methods j 0
    block_is =
        let made = slot_object st i b target_was_there in
        let method = subst (λ (x : ℕ). MethodBlock p s x j (Some m)) number_is method in
        let found = method.is P S loaded.counts loaded.rest rest loaded.filled st.held st.valid made (kind_is_there st b made) in
        ap (λ (r : Option ℕ). unwrap_or r 0) found ∙ unwrap_or-slice_get (kind_at P (object_at S.objects b).kind).methods j 0

  -- the frame is pushed with the target and the operand's value, the target is held there, then the operand's slot is left
  module _ {s₁ s₂ s₃ : List ℕ} {v : Value} (read : SlotSeen s h (w / 2 % 16) v)
      (pushes : Becomes s (Innermost h.thread h.depth) (called h.thread (callee m (Obj o) v)) s₁)
      (holds : Counts (raised (Obj o)) s₁ s₂) (leaves : Leaves h.thread h.depth w v s₂ s₃) where
    frame_called : {P : Program} {n : ℕ} {S : State} {f : Frame} {fs : List Frame} {rest : List ℕ} → Stand s h P n S f fs rest → w / 2 < length f.slots
        → Written s₃ S (Obj o ∷ operand_gained f.slots (operand_of w)) []
        (put_thread S h.thread (callee m (Obj o) v ∷ with_slots f (left_by f.slots (operand_of w)) ∷ fs) ready) rest
    unfolding called all_raised
    frame_called {S = S} {f = f} {fs = fs} {rest = rest} st there =
        let t = h.thread in
        let k = h.depth in
        let here = inside st in
        let g : Frame = callee m (Obj o) v in
        let first = holds.counts (called t g S) rest (pushes.becomes S rest st.held (innermost here)) in
        let in-call : Inside t (suc k) g (f ∷ fs) (called t g S) = rw here.frames (called_by here g) in
        let has : HasSlot t k (w / 2) (called t g S) = record { has = has_caller in-call; slot = rw (caller_frame in-call) there } in
        let last = leaves.leaves (called t g S) rest first (omega (arith, there, slots_few st)) has in
        only_gained (Obj o ∷ operand_gained f.slots (operand_of w)) (rw (operand_kept st w read there, called_then_emptied here g (operand_of w)) at last)

    call_moved : {P : Program} {n : ℕ} {S : State} {f : Frame} {fs : List Frame} {rest : List ℕ} → Loaded p P → Stand s h P n S f fs rest → i < length f.slots
        → w / 2 < length f.slots → (S₁ : State) → Step mosts P (here_at S h.thread f fs) (bind (call i j (operand_of w))) S₁
        → Written s₃ S (slot_at f.slots i ∷ operand_gained f.slots (operand_of w)) [] S₁ rest × Went h.thread f fs S₁ Turned
    unfolding object
    call_moved {P} {n} {S} {f} {fs} {rest} loaded st named there S₁ (by_call _ _ u b x vs passed) =
        let block : get_or (kind_at P (object_at S.objects b).kind).methods j 0 ≡ m = sym (block_is loaded st named passed) in
        let is-target : slot_at f.slots i ≡ Obj o = target_was_there loaded st named passed ∙ ap Obj (sym (number_is loaded st named passed)) in
        let is-value : x ≡ v = operand_gave st w read there passed.gave in
        (rw (block, is-target, ← number_is loaded st named passed, is-value, passed.gave.slots) (frame_called st there), to_other)

    pub call_writes : Writes (λ P S. Loaded p P) s h (bind (call i j (operand_of w))) Turned s₃
    unfolding line_gained let_gained line_lost
    call_writes =
        record {
          writes = λ P n S f fs rest q st few at_line S₁ step.
              let names = let_names st at_line in
              call_moved q st names.0 (word_names st w names.2) S₁ step;
        }

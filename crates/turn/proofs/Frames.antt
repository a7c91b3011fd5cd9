-- The frame where a thread stands, edited: a value given, an operand's slot left, each is a put of the thread's frames.
use Prim.Native.Nat.{ℕ, suc, ◌+◌, ◌<◌}
use native.Mathlib.Omega.{arith}
use mathlib.Core.Path.{◌≡◌, refl, sym, ap, ◌∙◌}
use mathlib.Core.List.{List, [], ◌∷◌, ◌++◌}
use lib.ListN.{length}
use lib.Seq.{set-append_left}
use borrow.Author.Tests.{eq-eqb}
use Rattle.rules.specs.declared.Value.{Value}
use Rattle.rules.specs.declared.Value.TheVariants.{Absent}
use Rattle.rules.specs.Mosts as Most
use Rattle.rules.specs.Script.{Operand, reads, takes, Program}
use Rattle.rules.specs.Reading.{slot_of}
use Rattle.rules.specs.State.{Object, Frame, Sender, ready, Thread, State, thread_at}
use Rattle.rules.specs.Turn.{left_by, put_thread, put_objects, filled, with_slots}
use Rattle.table.specs.declared.standing.Here.{Here}
use Rattle.table.specs.StateTable.{frame_at, on_frame, edit_frame, HasFrame, HasRoom, HasSlot, Innermost, given, inner_less, left}
use Rattle.table.proofs.StateEdits.{thread_put, put_put, length_put, innermost_frame}
use Rattle.checks.specs.Checked.{Stand}
use Rattle.checks.proofs.Standing.{fits_here}
use Rattle.turn.specs.Performed.{emptied, StandsAt}

-- thread t's innermost frame is f, inside of k others
pub record Inside (t k : ℕ) (f : Frame) (fs : List Frame) (S : State) : Type 0 where
  pub thread : t < length S.threads
  pub frames : (thread_at S t).frames ≡ f ∷ fs
  pub depth : length fs ≡ k

pub inside : {s : List ℕ} {h : Here} {P : Program} {n : ℕ} {S : State} {f : Frame} {fs : List Frame} {rest : List ℕ} → Stand s h P n S f fs rest
    → Inside h.thread h.depth f fs S
inside st = record { thread = (fits_here st).self; frames = st.frames; depth = st.depth }

-- after the objects were put
pub inside_objects : {t k : ℕ} {f : Frame} {fs : List Frame} {S : State} (os : List Object) → Inside t k f fs S → Inside t k f fs (put_objects S os)
unfolding put_objects thread_at
inside_objects os in_frame = record { thread = in_frame.thread; frames = in_frame.frames; depth = in_frame.depth }

-- after the frames were put
pub inside_put : (S : State) {t k : ℕ} {f : Frame} {fs : List Frame} (d : Sender) → t < length S.threads → length fs ≡ k → Inside t k f fs (put_thread S t (f ∷ fs) d)
inside_put S {t} {k} {f} {fs} d there deep =
    record {
      thread = rw (length_put S t (f ∷ fs) d) there;
      frames = ap (λ (u : Thread). u.frames) (thread_put S t (f ∷ fs) d there);
      depth = deep;
    }

pub stands_put : (S : State) {t : ℕ} (f : Frame) (fs : List Frame) (d : Sender) → t < length S.threads
    → StandsAt t f.block f.line (length fs) (put_thread S t (f ∷ fs) d)
stands_put S {t} f fs d there =
    record { frame = f; callers = fs; frames = (inside_put S d there refl).frames; depth = refl; block = refl; line = refl }

module _ {t k : ℕ} {f : Frame} {fs : List Frame} {S : State} (in_frame : Inside t k f fs S) where
  pub frame_inside : frame_at S t k ≡ f
  frame_inside = innermost_frame S t in_frame.frames in_frame.depth

  has_frame : HasFrame t k S
  has_frame = record { thread = in_frame.thread; frame = rw in_frame.frames (omega (arith, in_frame.depth)) }

  pub has_room : length f.slots < Most.slots → f.line < Most.turns → HasRoom t k S
  has_room room line = record { has = has_frame; room = rw frame_inside room; line = rw frame_inside line }

  pub has_slot : (i : ℕ) → i < length f.slots → HasSlot t k i S
  has_slot i there = record { has = has_frame; slot = rw frame_inside there }

  pub innermost : Innermost t k S
  innermost = record { thread = in_frame.thread; frames = rw in_frame.frames (ap suc in_frame.depth) }

  edit_inside : (g : Frame → Frame) (d : Sender) → edit_frame S t k g d ≡ put_thread S t (g f ∷ fs) d
  unfolding edit_frame on_frame
  edit_inside g d = rw (in_frame.frames, eq-eqb k (length fs) (sym in_frame.depth)) refl

  pub given_inside : (v : Value) → given t k v S ≡ put_thread S t (filled f f.slots v ∷ fs) ready
  unfolding given
  given_inside v = edit_inside (λ f. filled f f.slots v) ready

  pub emptied_inside : (w : Operand) → emptied t k w S ≡ put_thread S t (with_slots f (left_by f.slots w) ∷ fs) (thread_at S t).sender
  unfolding emptied
  emptied_inside w = edit_inside (λ f. with_slots f (left_by f.slots w)) (thread_at S t).sender

  -- the innermost frame ends
  pub left_inside : left t S ≡ put_thread S t fs ready
  unfolding left inner_less
  left_inside = rw in_frame.frames refl

-- an operand leaves the value given after its slot
left_append : (vs : List Value) (v : Value) (w : Operand) → slot_of w < length vs → left_by (vs ++ (v ∷ [])) w ≡ left_by vs w ++ (v ∷ [])
left_append vs v (reads s) there = refl
left_append vs v (takes s) there = set-append_left vs (v ∷ []) s Absent there

-- an operand's slot is left, after a value was given
pub filled_then_emptied : (S : State) (t k : ℕ) (f : Frame) (fs : List Frame) (vs : List Value) (v : Value) (w : Operand) → t < length S.threads → length fs ≡ k → slot_of w < length vs
    → emptied t k w (put_thread S t (filled f vs v ∷ fs) ready) ≡ put_thread S t (filled f (left_by vs w) v ∷ fs) ready
unfolding filled with_slots
filled_then_emptied S t k f fs vs v w thread depth there =
    let g = filled f vs v in
    emptied_inside (inside_put S ready thread depth) w
    ∙ ap (put_thread (put_thread S t (g ∷ fs) ready) t (with_slots g (left_by g.slots w) ∷ fs)) (ap (λ (u : Thread). u.sender) (thread_put S t (g ∷ fs) ready thread))
    ∙ put_put S t (g ∷ fs) (with_slots g (left_by g.slots w) ∷ fs) ready ready
    ∙ ap (λ (us : List Value). let F : Frame = record { block = f.block; line = f.line + 1; slots = us } in put_thread S t (F ∷ fs) ready) (left_append vs v w there)

-- the value is given, then the operand's slot is left
pub given_then_emptied : {t k : ℕ} {f : Frame} {fs : List Frame} {S : State} → Inside t k f fs S → (v : Value) (w : Operand) → slot_of w < length f.slots
    → emptied t k w (given t k v S) ≡ put_thread S t (filled f (left_by f.slots w) v ∷ fs) ready
given_then_emptied {t} {k} {f} {fs} {S} in_frame v w there = rw (given_inside in_frame v) (filled_then_emptied S t k f fs f.slots v w in_frame.thread in_frame.depth there)

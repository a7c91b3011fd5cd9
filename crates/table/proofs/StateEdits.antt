-- The abstract state, edited: a thread put and read again, a frame of a thread found and edited, one edit after another.
use Rattle.std.proofs.Common.{◌≡◌, ℕ, suc, ◌<◌, eqb, List, [], ◌∷◌, length, get_or, set, sym, refl, ap, ◌∙◌, not-suc-le-zero, arith, length-set, get_or-set_same, set-set, eqb-true}
use Rattle.std.proofs.Math.ListN.{get_or-append}
use Rattle.std.proofs.Math.Seq.{get_or_at, set_at, set-append_left}
use Rattle.std.proofs.lemmas.Bool.{eqb-false}
use Rattle.rules.specs.State.{Frame, Sender, Thread, State, thread_at}
use Rattle.rules.specs.Turn.{put_thread}
use Rattle.rules.specs.Tables.{no_frame, outermost_first}
use Rattle.rules.proofs.ListLaws.{by_bool}
use Rattle.rules.proofs.TableWords.{length_outermost}
use Rattle.table.specs.StateTable.{frame_at, on_frame, edit_frame, HasFrame}

-- ---- A thread

pub thread_put : (S : State) (t : ℕ) (fs : List Frame) (d : Sender) → t < length S.threads
    → thread_at (put_thread S t fs d) t ≡ record { frames = fs; sender = d }
unfolding thread_at put_thread
thread_put S t fs d h = get_or-set_same S.threads t _ _ h

pub put_put : (S : State) (t : ℕ) (fs gs : List Frame) (d e : Sender) → put_thread (put_thread S t fs d) t gs e ≡ put_thread S t gs e
unfolding put_thread
put_put S t fs gs d e =
    ap (λ (ts : List Thread). let T : State = record { objects = S.objects; threads = ts; channels = S.channels } in T) (set-set S.threads t _ _)

pub length_put : (S : State) (t : ℕ) (fs : List Frame) (d : Sender) → length (put_thread S t fs d).threads ≡ length S.threads
unfolding put_thread
length_put S t fs d = length-set S.threads t _

-- ---- A frame of a list that has it

module _ (k : ℕ) (g : Frame → Frame) where
  pub length_edited : (fs : List Frame) → length (on_frame k g fs) ≡ length fs
  unfolding on_frame
  length_edited [] = refl
  length_edited (f ∷ fs) = by_bool (eqb k (length fs)) (λ t. rw t) (λ t. rw t (ap suc (length_edited fs)))

  pub outermost_edited : (fs : List Frame) → k < length fs
      → outermost_first (on_frame k g fs) ≡ set (outermost_first fs) k (g (get_or (outermost_first fs) k no_frame))
  unfolding on_frame outermost_first
  outermost_edited [] h = absurd (not-suc-le-zero h)
  outermost_edited (f ∷ fs) h = by_bool (eqb k (length fs))
      (λ t. let here : length (outermost_first fs) ≡ k = length_outermost fs ∙ sym (eqb-true k (length fs) t) in
      rw (t, get_or_at (outermost_first fs) f [] no_frame k here) (sym (set_at (outermost_first fs) f [] (g f) k here)))
      (λ t. let e = eqb-false k (length fs) t in
      let more : k < length fs = omega arith in
      let there : k < length (outermost_first fs) = omega (arith, length_outermost fs) in
      rw (t, get_or-append (outermost_first fs) (f ∷ []) no_frame k there, outermost_edited fs more)
      (sym (set-append_left (outermost_first fs) (f ∷ []) k (g (get_or (outermost_first fs) k no_frame)) there)))

-- two edits that agree on the frame
edits_agree : (k : ℕ) (g h : Frame → Frame) (fs : List Frame) → k < length fs
    → g (get_or (outermost_first fs) k no_frame) ≡ h (get_or (outermost_first fs) k no_frame) → on_frame k g fs ≡ on_frame k h fs
unfolding on_frame outermost_first
edits_agree k g h [] i e = refl
edits_agree k g h (f ∷ fs) i e = by_bool (eqb k (length fs))
    (λ t. let here : length (outermost_first fs) ≡ k = length_outermost fs ∙ sym (eqb-true k (length fs) t) in
    rw t (ap (◌∷ fs) (rw (get_or_at (outermost_first fs) f [] no_frame k here) at e)))
    (λ t. let n = eqb-false k (length fs) t in
    let more : k < length fs = omega arith in
    let there : k < length (outermost_first fs) = omega (arith, length_outermost fs) in
    rw t (ap (f ∷◌) (edits_agree k g h fs more (rw (get_or-append (outermost_first fs) (f ∷ []) no_frame k there) at e))))

-- ---- A frame of a thread that has it

-- the innermost one
pub innermost_frame : (S : State) (t : ℕ) {k : ℕ} {f : Frame} {fs : List Frame} → (thread_at S t).frames ≡ f ∷ fs → length fs ≡ k → frame_at S t k ≡ f
unfolding frame_at outermost_first
innermost_frame S t {k} {f} {fs} frames depth = rw frames (get_or_at (outermost_first fs) f [] no_frame k (length_outermost fs ∙ depth))

module _ {S : State} {t k : ℕ} (has : HasFrame t k S) where
  frames_edited : (g : Frame → Frame) (d : Sender) → (thread_at (edit_frame S t k g d) t).frames ≡ on_frame k g (thread_at S t).frames
  unfolding edit_frame
  frames_edited g d = ap (λ (u : Thread). u.frames) (thread_put S t _ d has.thread)

  -- what the frame becomes is known from the frame alone
  pub edit_at : (g : Frame → Frame) (d : Sender) → edit_frame S t k (λ _. g (frame_at S t k)) d ≡ edit_frame S t k g d
  unfolding edit_frame frame_at
  edit_at g d = ap (λ (gs : List Frame). put_thread S t gs d) (edits_agree k (λ _. g (frame_at S t k)) g (thread_at S t).frames has.frame refl)

  -- the thread's sender after its frame
  pub edit_then_sender : (g : Frame → Frame) (d e : Sender)
      → put_thread (edit_frame S t k g d) t (thread_at (edit_frame S t k g d) t).frames e ≡ edit_frame S t k g e
  unfolding edit_frame
  edit_then_sender g d e =
      let fs = on_frame k g (thread_at S t).frames in
      ap (λ (gs : List Frame). put_thread (edit_frame S t k g d) t gs e) (frames_edited g d) ∙ put_put S t fs fs d e

-- An iso object has at most one holder, self slots left out. No turn gives it one more: a read of an iso stops, a take moves it, a call's target becomes
-- a self slot, which no method takes, a copy is never iso; and a new object has the one slot that its let fills.
use Prim.Native.Nat.{ℕ, zero, suc, ◌+◌, ◌-◌, ◌≤◌, ◌<◌}
use native.Mathlib.Omega.{arith}
use mathlib.Core.Path.{◌≡◌, refl, sym, ap, ◌∙◌, subst}
use mathlib.Core.Bool.{false, false≢true}
use mathlib.Core.List.{List, [], ◌∷◌, ◌++◌, map}
use lib.Dec.{ltb, eqb}
use lib.ListN.{length, set, get_or, get_or-append}
use lib.Seq.{take-length, get_or-append-add}
use borrow.Author.Tests.{eqb-true, ltb-true, ltb-false}
use Rattle.rules.specs.declared.Cap.{Cap}
use Rattle.rules.specs.declared.Cap.TheVariants.{Imm, Iso, Local, Unsafe}
use Rattle.rules.specs.declared.Value.{Value}
use Rattle.rules.specs.declared.Value.TheVariants.{Absent, Obj, Chan}
use Rattle.rules.specs.declared.Mosts.{Mosts}
use Rattle.rules.specs.Lists.{place_of, Every}
use Rattle.rules.specs.Script.{Program, Operand, reads, takes, new, copy, Line, bind, Sort, thread, method, block_at, line_at}
use Rattle.rules.specs.Reading.{slot_of}
use Rattle.rules.specs.State.{Object, no_object, Frame, Sender, ready, Thread, no_thread, State, object_at, thread_at, slot_at, start}
use Rattle.rules.specs.Turn.{ok, is_iso, is_iso_object, left_by, renamed, Here, objects_of, object, put_thread, put_objects, put_channel, filled, with_slots, gives, set_field, started, copy_of, turn}
use Rattle.rules.specs.Run.{run_from, run}
use Rattle.rules.specs.Valid.{NotSelf, OperandOk, NotIso, Valid}
use Rattle.rules.specs.Fits.{InRange, Fits}
use Rattle.rules.specs.Reach.{count_one, count, slots_of}
use Rattle.rules.specs.Holders.{total, in_slots, holders}
use Rattle.rules.specs.HolderChanges.{operand_gained, operands_gained, put_gained, field_of, copied_fields, let_gained, return_gained, line_gained, line_lost}
use Rattle.theorems.specs.InFlight.{state_at}
use Rattle.theorems.specs.OneHolder.{without_self, other_slots, in_other_slots, other_holders, OneHolder}
use Rattle.rules.proofs.ListLaws.{impossible, by_bool, every_get, every_image, every_all, length_snoc}
use Rattle.rules.proofs.Counts.{count_append}
use Rattle.rules.proofs.Moves.{Gave, GaveAll, no_more, one_more, FieldRead, MethodCalled, ObjectMade, met_here, with_copies, copied_state, put_message, emptied, called_frame, swapped_objects, made_object, Step, by_value, by_field, by_swap, by_call, by_new, by_cast, by_spawn, by_put, by_sent, by_recv, by_copy, by_return, by_finish, moved}
use Rattle.rules.proofs.Keeps.{let_ok, give_ok, method_ok, left_range, slot_range, all_values_range, all_left_range, object_fits, HereFits, here_fits, keeps_turn, keeps_run}
use Rattle.rules.proofs.HolderLaws.{total_append, total_put, count_take, one_at_most, count_none, gave_all_changes, target_held, step_changes, unmade_unheld}
use Rattle.theorems.proofs.LaterStates.{Later, now, then, from_start}

-- ---- Self slots

unfoldable pub self_slot : Sort → List Value → List Value
self_slot thread vs = []
self_slot method [] = []
self_slot method (v ∷ vs) = v ∷ []

unfoldable self_slots : Program → List Frame → List Value
self_slots P [] = []
self_slots P (f ∷ fs) = self_slot (block_at P f.block).sort f.slots ++ self_slots P fs

unfoldable in_self : Program → ℕ → Thread → ℕ
in_self P n t = count n (self_slots P t.frames)

unfoldable self_holders : Program → State → ℕ → ℕ
self_holders P S n = total (in_self P n) S.threads

-- a take of another slot leaves it; a slot that is filled comes after it
set_keeps_self : (o : Sort) (vs : List Value) (s : ℕ) → NotSelf o s → self_slot o (set vs s Absent) ≡ self_slot o vs
unfolding self_slot
set_keeps_self thread vs s h = refl
set_keeps_self method [] s h = refl
set_keeps_self method (v ∷ vs) zero h = absurd (omega arith)
set_keeps_self method (v ∷ vs) (suc s) h = refl

operand_keeps_self : {os : List Object} {vs left : List Value} {v : Value} (o : Sort) (l : ℕ) (w : Operand) → OperandOk o l w → Gave os vs w v left
    → self_slot o left ≡ self_slot o vs
operand_keeps_self o l (reads s) h gave = ap (self_slot o) gave.slots
operand_keeps_self {vs = vs} o l (takes s) h gave = ap (self_slot o) gave.slots ∙ set_keeps_self o vs s h.1

operands_keep_self : {os : List Object} {vs us left : List Value} {ws : List Operand} (o : Sort) (l : ℕ) → Every (OperandOk o l) ws → GaveAll os vs ws us left
    → self_slot o left ≡ self_slot o vs
operands_keep_self o l h no_more = refl
operands_keep_self o l h (one_more {w = w} gave rest) = operands_keep_self o l h.1 rest ∙ operand_keeps_self o l w h.0 gave

module _ (n : ℕ) where
  filled_self : (o : Sort) (vs : List Value) (v : Value) → count n (self_slot o vs) ≤ count n (self_slot o (vs ++ (v ∷ [])))
  unfolding self_slot count
  filled_self thread vs v = omega arith
  filled_self method [] v = omega arith
  filled_self method (x ∷ vs) v = omega arith

  pub slot_counted : (vs : List Value) (s : ℕ) → count_one n (slot_at vs s) ≤ count n vs
  slot_counted vs s = omega (arith, count_take n vs s)

  -- a slot that is not self is among the others
  other_counted : (o : Sort) (vs : List Value) (s : ℕ) → NotSelf o s → count_one n (slot_at vs s) ≤ count n (without_self o vs)
  unfolding slot_at without_self
  other_counted thread vs s h = slot_counted vs s
  other_counted method [] s h = omega arith
  other_counted method (v ∷ vs) zero h = absurd (omega arith)
  other_counted method (v ∷ vs) (suc s) h = slot_counted vs s

  pub split_slots : (o : Sort) (vs : List Value) → count n (without_self o vs) + count n (self_slot o vs) ≡ count n vs
  unfolding without_self self_slot count
  split_slots thread vs = omega arith
  split_slots method [] = omega arith
  split_slots method (v ∷ vs) = omega arith

  module _ (P : Program) where
    split_frames : (fs : List Frame) → count n (other_slots P fs) + count n (self_slots P fs) ≡ count n (slots_of fs)
    unfolding other_slots self_slots slots_of count
    split_frames [] = refl
    split_frames (f ∷ fs) =
        let o = (block_at P f.block).sort in
        omega (
          arith,
          split_frames fs,
          split_slots o f.slots,
          count_append n (without_self o f.slots) (other_slots P fs),
          count_append n (self_slot o f.slots) (self_slots P fs),
          count_append n f.slots (slots_of fs),
        )

    split_threads : (ts : List Thread) → total (in_other_slots P n) ts + total (in_self P n) ts ≡ total (in_slots n) ts
    unfolding total in_other_slots in_self in_slots
    split_threads [] = refl
    split_threads (t ∷ ts) = omega (arith, split_threads ts, split_frames t.frames)

    -- all holders are the others and the self slots
    split : (S : State) → other_holders P S n + self_holders P S n ≡ holders S n
    unfolding other_holders self_holders holders
    split S = omega (arith, split_threads S.threads)

    self_changes : (S : State) (t : ℕ) (fs : List Frame) (d : Sender) → t < length S.threads
        → self_holders P (put_thread S t fs d) n + count n (self_slots P (thread_at S t).frames) ≡ self_holders P S n + count n (self_slots P fs)
    unfolding self_holders put_thread thread_at in_self
    self_changes S t fs d there = total_put (in_self P n) S.threads t (record { frames = fs; sender = d }) no_thread there

-- ---- An object that is iso already

iso_made : (os : List Object) (n : ℕ) → (object_at os n).cap ≡ Iso → n < length os
unfolding object_at
iso_made [] n iso = impossible cc
iso_made (o ∷ os) zero iso = omega arith
iso_made (o ∷ os) (suc n) iso = omega (arith, iso_made os n iso)

above_other : (n i : ℕ) → n < i → count_one n (Obj i) ≡ 0
above_other n i above = by_bool (eqb i n) (λ e. let same = eqb-true i n e in absurd (omega arith)) (λ e. rw e refl)

module _ (os : List Object) (n : ℕ) (iso : (object_at os n).cap ≡ Iso) where
  -- what is not an iso object is not this one
  not_iso : (v : Value) → is_iso_object os v ≡ false → count_one n v ≡ 0
  unfolding is_iso_object is_iso
  not_iso Absent h = refl
  not_iso (Obj i) h = by_bool (eqb i n) (λ e. let same = eqb-true i n e in absurd (false≢true (sym h ∙ rw (same, iso) refl))) (λ e. rw e refl)
  not_iso (Chan c) h = refl

  -- so no operand gains it, and no copy holds it
  operand_gains_none : {vs left : List Value} {v : Value} (w : Operand) → Gave os vs w v left → count n (operand_gained vs w) ≡ 0
  unfolding count
  operand_gains_none (reads s) gave = let none = not_iso (slot_at _ s) (rw (← gave.value) at gave.no_iso) in omega arith
  operand_gains_none (takes s) gave = refl

  operands_gain_none : {vs us left : List Value} {ws : List Operand} → GaveAll os vs ws us left → count n (operands_gained vs ws) ≡ 0
  unfolding operands_gained count
  operands_gain_none no_more = refl
  operands_gain_none {vs = vs} (one_more {next = next} {w = w} {ws = ws} gave rest) =
      let same : count n (operands_gained next ws) ≡ count n (operands_gained (left_by vs w) ws) = ap (λ l. count n (operands_gained l ws)) gave.slots in
      omega (arith, operand_gains_none w gave, operands_gain_none rest, count_append n (operand_gained vs w) (operands_gained (left_by vs w) ws))

  renamed_none : (met : List ℕ) (vs : List Value) → count n (map (renamed (length os) met) vs) ≡ 0
  unfolding renamed count
  renamed_none met [] = refl
  renamed_none met (Absent ∷ vs) = omega (arith, renamed_none met vs)
  renamed_none met (Obj i ∷ vs) =
      omega (arith, above_other n (length os + place_of i met) (omega (arith, iso_made os n iso)), renamed_none met vs)
  renamed_none met (Chan c ∷ vs) = omega (arith, renamed_none met vs)

  copies_gain_none : (met ns : List ℕ) → count n (copied_fields os met ns) ≡ 0
  unfolding copied_fields count
  copies_gain_none met [] = refl
  copies_gain_none met (i ∷ ns) =
      omega (
        arith,
        renamed_none met (object_at os i).fields,
        copies_gain_none met ns,
        count_append n (map (renamed (length os) met) (object_at os i).fields) (copied_fields os met ns),
      )

-- ---- Each way to move gives no holder more, self slots left out, to what was iso

-- what is gained above what is lost is in self slots
record NoneMore (P : Program) (S S₁ : State) (n : ℕ) (more less : List Value) : Type 0 where
  sum : count n more + self_holders P S n ≤ count n less + self_holders P S₁ n

module _ {m : Mosts} {P : Program} {k : ℕ} (valid : Valid m P) (H : Here) (here : HereFits m P k H)
    (frames : (thread_at H.state H.self).frames ≡ H.frame ∷ H.callers) (n : ℕ) where
  abbrev sort_here : Sort
  sort_here = (block_at P H.frame.block).sort

  -- the let gives v in a state S in which the thread stands where it stood
  gives_self : (S : State) → H.self < length S.threads → (thread_at S H.self).frames ≡ H.frame ∷ H.callers → (vs : List Value) (v : Value)
      → self_slot sort_here vs ≡ self_slot sort_here H.frame.slots → self_holders P S n ≤ self_holders P (gives S H vs v) n
  unfolding gives filled self_slots
  gives_self S there at vs v same =
      let now : List Frame = filled H.frame vs v ∷ H.callers in
      let put : self_holders P (gives S H vs v) n + count n (self_slots P (H.frame ∷ H.callers)) ≡ self_holders P S n + count n (self_slots P now) =
      rw at at (self_changes n P S H.self now ready there) in
      let kept : count n (self_slot sort_here vs) ≡ count n (self_slot sort_here H.frame.slots) = ap (count n) same in
      omega (
        arith,
        filled_self n sort_here vs v,
        count_append n (self_slot sort_here H.frame.slots) (self_slots P H.callers),
        count_append n (self_slot sort_here (vs ++ (v ∷ []))) (self_slots P H.callers),
      )

  -- the slots put in the place of the frame's, under frames of which g is the innermost
  called_self : (g : Frame) (vs : List Value) → self_slot sort_here vs ≡ self_slot sort_here H.frame.slots
      → self_holders P (put_thread H.state H.self (g ∷ with_slots H.frame vs ∷ H.callers) ready) n
      ≡ self_holders P H.state n + count n (self_slot (block_at P g.block).sort g.slots)
  unfolding with_slots self_slots
  called_self g vs same =
      let now : List Frame = g ∷ with_slots H.frame vs ∷ H.callers in
      let put : self_holders P (put_thread H.state H.self now ready) n + count n (self_slots P (H.frame ∷ H.callers))
      ≡ self_holders P H.state n + count n (self_slots P now) =
      rw frames at (self_changes n P H.state H.self now ready here.self) in
      let kept : count n (self_slot sort_here vs) ≡ count n (self_slot sort_here H.frame.slots) = ap (count n) same in
      omega (
        arith,
        count_append n (self_slot (block_at P g.block).sort g.slots) (self_slot sort_here vs ++ self_slots P H.callers),
        count_append n (self_slot sort_here vs) (self_slots P H.callers),
        count_append n (self_slot sort_here H.frame.slots) (self_slots P H.callers),
      )

  put_self : (c i : ℕ) (vs : List Value) (d : Sender) → self_slot sort_here vs ≡ self_slot sort_here H.frame.slots
      → self_holders P H.state n ≡ self_holders P (put_thread (put_message H c i) H.self (with_slots H.frame vs ∷ H.callers) d) n
  unfolding with_slots self_slots self_holders thread_at put_channel
  put_self c i vs d same =
      let now : List Frame = with_slots H.frame vs ∷ H.callers in
      let put : self_holders P (put_thread (put_message H c i) H.self now d) n + count n (self_slots P (H.frame ∷ H.callers))
      ≡ self_holders P (put_message H c i) n + count n (self_slots P now) =
      rw frames at (self_changes n P (put_message H c i) H.self now d here.self) in
      let kept : count n (self_slot sort_here vs) ≡ count n (self_slot sort_here H.frame.slots) = ap (count n) same in
      omega (
        arith,
        count_append n (self_slot sort_here vs) (self_slots P H.callers),
        count_append n (self_slot sort_here H.frame.slots) (self_slots P H.callers),
      )

  module _ (iso : (object_at (objects_of H) n).cap ≡ Iso) where
    -- nothing is gained, and the let gives v in a state with the threads that were
    plain : (more vs : List Value) (v : Value) (S : State) → self_holders P H.state n ≤ self_holders P S n → H.self < length S.threads
        → (thread_at S H.self).frames ≡ H.frame ∷ H.callers → count n more ≡ 0 → self_slot sort_here vs ≡ self_slot sort_here H.frame.slots
        → NoneMore P H.state (gives S H vs v) n more []
    unfolding count
    plain more vs v S self there at none same = record { sum = omega (arith, gives_self S there at vs v same) }

    operand_none_more : (l : ℕ) (w : Operand) (v : Value) (vs : List Value) → OperandOk sort_here l w → Gave (objects_of H) H.frame.slots w v vs
        → NoneMore P H.state (gives H.state H vs v) n (operand_gained H.frame.slots w) []
    operand_none_more l w v vs operand_ok gave =
        plain _ vs v H.state (omega arith) here.self frames (operand_gains_none (objects_of H) n iso w gave) (operand_keeps_self sort_here l w operand_ok gave)

    field_none_more : (s f i : ℕ) → FieldRead H s f i
        → NoneMore P H.state (gives H.state H H.frame.slots (slot_at (object H i).fields f)) n (field_of (objects_of H) (slot_at H.frame.slots s) f ∷ []) []
    unfolding object count
    field_none_more s f i read =
        rw read.target
        (plain _ H.frame.slots _ H.state (omega arith) here.self frames
        (omega (arith, not_iso (objects_of H) n iso (slot_at (object_at (objects_of H) i).fields f) read.no_iso)) refl)

    -- the target gets a self slot
    call_none_more : (l s i : ℕ) (w : Operand) (j : ℕ) (v : Value) (vs : List Value) → OperandOk sort_here l w → MethodCalled P H s i w j v vs
        → NoneMore P H.state (put_thread H.state H.self (called_frame P H i j v ∷ with_slots H.frame vs ∷ H.callers) ready) n
        (slot_at H.frame.slots s ∷ operand_gained H.frame.slots w) []
    unfolding object self_slot count
    call_none_more l s i w j v vs operand_ok called =
        let there : j < length (objects_of H) = subst (InRange _ _) called.target (slot_range _ _ vs s (left_range _ _ w called.gave here.frame.slots)) in
        let is_method = (method_ok m P valid (object H j).kind i (object_fits here.state j there).kind called.has_method).sort in
        let self : self_holders P (put_thread H.state H.self (called_frame P H i j v ∷ with_slots H.frame vs ∷ H.callers) ready) n
        ≡ self_holders P H.state n + count n (self_slot method (Obj j ∷ v ∷ [])) =
        rw is_method at (called_self (called_frame P H i j v) vs (operand_keeps_self sort_here l w operand_ok called.gave)) in
        rw (target_held w s j called.gave called.target) (record { sum = omega (arith, operand_gains_none (objects_of H) n iso w called.gave) })

    spawn_none_more : (b : ℕ) → NoneMore P H.state (gives (started H.state b) H H.frame.slots (Chan (length H.state.threads))) n [] []
    unfolding started thread_at self_holders total count
    spawn_none_more b =
        let begun : Thread = record { frames = record { block = b; line = 0; slots = Chan (length H.state.threads) ∷ [] } ∷ []; sender = ready } in
        plain [] H.frame.slots _ (started H.state b) (omega (arith, total_append (in_self P n) H.state.threads (begun ∷ [])))
        (omega (arith, here.self, length_snoc H.state.threads begun))
        (ap (λ x. x.frames) (get_or-append H.state.threads _ no_thread H.self here.self) ∙ frames) refl refl

    put_none_more : (l s : ℕ) (w : Operand) (c i : ℕ) (vs : List Value) (d : Sender) → OperandOk sort_here l w → Gave (objects_of H) H.frame.slots w (Obj i) vs
        → NoneMore P H.state (put_thread (put_message H c i) H.self (with_slots H.frame vs ∷ H.callers) d) n (operand_gained H.frame.slots w) []
    unfolding count
    put_none_more l s w c i vs d operand_ok gave =
        record { sum = omega (arith, operand_gains_none (objects_of H) n iso w gave, put_self c i vs d (operand_keeps_self sort_here l w operand_ok gave)) }

    -- what is given leaves the frame's other slots, or is no iso object
    given_counted : (l : ℕ) (w : Operand) (v : Value) (vs : List Value) → OperandOk sort_here l w → Gave (objects_of H) H.frame.slots w v vs
        → count_one n v ≤ count n (without_self sort_here H.frame.slots)
    given_counted l (reads s) v vs operand_ok gave = omega (arith, not_iso (objects_of H) n iso v gave.no_iso)
    given_counted l (takes s) v vs operand_ok gave = rw (← gave.value) (other_counted n sort_here H.frame.slots s operand_ok.1)

    return_none_more : (l : ℕ) (w : Operand) (v : Value) (vs : List Value) (f : Frame) (fs : List Frame) → OperandOk sort_here l w
        → Gave (objects_of H) H.frame.slots w v vs → H.callers ≡ f ∷ fs
        → NoneMore P H.state (put_thread H.state H.self (filled f f.slots v ∷ fs) ready) n
        (return_gained H.callers (slot_at H.frame.slots (slot_of w))) H.frame.slots
    unfolding filled self_slots count
    return_none_more l w v vs f fs operand_ok gave callers =
        let o = (block_at P f.block).sort in
        let now : List Frame = filled f f.slots v ∷ fs in
        let put : self_holders P (put_thread H.state H.self now ready) n + count n (self_slots P (H.frame ∷ f ∷ fs))
        ≡ self_holders P H.state n + count n (self_slots P now) =
        rw (frames, callers) at (self_changes n P H.state H.self now ready here.self) in
        rw (callers, gave.value)
        (record {
          sum = omega (
            arith,
            given_counted l w v vs operand_ok gave,
            split_slots n sort_here H.frame.slots,
            filled_self n o f.slots v,
            count_append n (self_slot sort_here H.frame.slots) (self_slots P (f ∷ fs)),
            count_append n (self_slot o f.slots) (self_slots P fs),
            count_append n (self_slot o (f.slots ++ (v ∷ []))) (self_slots P fs),
          );
        })

    finish_none_more : (v : Value) → H.callers ≡ []
        → NoneMore P H.state (put_thread H.state H.self [] ready) n (return_gained H.callers v) H.frame.slots
    unfolding self_slots count
    finish_none_more v callers =
        let put : self_holders P (put_thread H.state H.self [] ready) n + count n (self_slots P (H.frame ∷ []))
        ≡ self_holders P H.state n + count n (self_slots P []) =
        rw (frames, callers) at (self_changes n P H.state H.self [] ready here.self) in
        rw callers (record { sum = omega (arith, put, split_slots n sort_here H.frame.slots, count_append n (self_slot sort_here H.frame.slots) []) })

    copy_none_more : (c : Cap) (s i : ℕ) → slot_at H.frame.slots s ≡ Obj i → NoneMore P H.state (copied_state H c i) n (let_gained H (copy c s)) []
    unfolding let_gained self_holders put_objects thread_at count
    copy_none_more c s i target =
        rw target
        (plain _ H.frame.slots _ (put_objects H.state (with_copies H c i)) (omega arith) here.self frames
        (omega (
          arith,
          copies_gain_none (objects_of H) n iso (met_here H i) (met_here H i),
          above_other n (length (objects_of H)) (iso_made (objects_of H) n iso),
        )) refl)

    -- whichever way it was
    step_none_more : (x : Line) (S₁ : State) → line_at P H.frame.block H.frame.line ≡ x → Step m P H x S₁ → NoneMore P H.state S₁ n (line_gained H x) (line_lost H x)
    unfolding line_gained line_lost let_gained self_holders put_objects put_channel thread_at count
    step_none_more x S₁ at_line (by_value w v vs gave) = operand_none_more _ w v vs (let_ok m P valid _ _ _ here.frame.block at_line) gave
    step_none_more x S₁ at_line (by_field s f i read) = field_none_more s f i read
    step_none_more x S₁ at_line (by_swap s f w i u vs swapped) =
        let operand_ok = (let_ok m P valid _ _ _ here.frame.block at_line).2 in
        plain _ vs _ (put_objects H.state (swapped_objects H i f u)) (omega arith) here.self frames
        (operand_gains_none (objects_of H) n iso w swapped.gave) (operand_keeps_self sort_here _ w operand_ok swapped.gave)
    step_none_more x S₁ at_line (by_call s i w j v vs called) = call_none_more _ s i w j v vs (let_ok m P valid _ _ _ here.frame.block at_line).2 called
    step_none_more x S₁ at_line (by_new c i ws js vs made) =
        let operands_ok = (let_ok m P valid _ _ _ here.frame.block at_line).1 in
        plain _ vs _ (put_objects H.state (objects_of H ++ (made_object H c i js ∷ []))) (omega arith) here.self frames
        (omega (arith, operands_gain_none (objects_of H) n iso made.gave, above_other n (length (objects_of H)) (iso_made (objects_of H) n iso)))
        (operands_keep_self sort_here _ operands_ok made.gave)
    step_none_more x S₁ at_line (by_cast c w i vs cast) = operand_none_more _ w (Obj i) vs (let_ok m P valid _ _ _ here.frame.block at_line) cast.gave
    step_none_more x S₁ at_line (by_spawn b room) = spawn_none_more b
    step_none_more x S₁ at_line (by_put s w c i vs put) =
        rw put.sender (put_none_more _ s w c i vs _ (let_ok m P valid _ _ _ here.frame.block at_line).1 put.gave)
    step_none_more x S₁ at_line (by_sent s w i c taken) =
        subst (λ d. NoneMore P H.state (gives H.state H H.frame.slots (Chan c)) n (put_gained d H.frame.slots w) []) (sym taken.sender)
        (plain [] H.frame.slots (Chan c) H.state (omega arith) here.self frames refl refl)
    step_none_more x S₁ at_line (by_recv s c received) =
        plain [] H.frame.slots _ (emptied H c) (omega arith) here.self frames refl refl
    step_none_more x S₁ at_line (by_copy c s i copied) = copy_none_more c s i copied.target
    step_none_more x S₁ at_line (by_return w v vs f fs gave callers) =
        return_none_more _ w v vs f fs (give_ok m P valid _ _ _ here.frame.block here.frame.line at_line) gave callers
    step_none_more x S₁ at_line (by_finish w v vs gave callers) = finish_none_more _ callers

-- ---- What is iso after a move was iso before it, or is the object that it made

pub cap_kept : (os : List Object) (i n : ℕ) (o : Object) → o.cap ≡ (object_at os i).cap → (object_at (set os i o) n).cap ≡ (object_at os n).cap
unfolding object_at
cap_kept [] i n o same = refl
cap_kept (x ∷ os) zero zero o same = same
cap_kept (x ∷ os) zero (suc n) o same = refl
cap_kept (x ∷ os) (suc i) zero o same = refl
cap_kept (x ∷ os) (suc i) (suc n) o same = cap_kept os i n o same

cap_before : (os more : List Object) (n : ℕ) → n < length os → (object_at (os ++ more) n).cap ≡ (object_at os n).cap
unfolding object_at
cap_before os more n there = ap (λ o. o.cap) (get_or-append os more no_object n there)

not_iso_cap : (c : Cap) → NotIso c → c ≡ Iso → ⊥
not_iso_cap Imm h e = impossible cc
not_iso_cap Iso h e = h
not_iso_cap Local h e = impossible cc
not_iso_cap Unsafe h e = impossible cc

-- none of the new objects is iso, and none stands past them
cap_after : (os more : List Object) (n : ℕ) → length os ≤ n → Every (λ o. o.cap ≡ Iso → ⊥) more → (object_at (os ++ more) n).cap ≡ Iso → ⊥
unfolding object_at
cap_after os more n above none iso =
    let i : ℕ = n - length os in
    let place : n ≡ length os + i = omega arith in
    let there : get_or (os ++ more) n no_object ≡ get_or more i no_object = ap (λ j. get_or (os ++ more) j no_object) place ∙ get_or-append-add os more i no_object in
    every_get (λ o. o.cap ≡ Iso → ⊥) more i no_object (λ e. impossible cc) none (ap (λ o. o.cap) (sym there) ∙ iso)

data Was (H : Here) (S₁ : State) (n : ℕ) : Type 0 where
  iso_before : (object_at (objects_of H) n).cap ≡ Iso → Was H S₁ n
  just_made : holders S₁ n ≤ 1 → Was H S₁ n

module _ {m : Mosts} {P : Program} {k : ℕ} (valid : Valid m P) (H : Here) (here : HereFits m P k H)
    (frames : (thread_at H.state H.self).frames ≡ H.frame ∷ H.callers) (n : ℕ) where
  -- the let fills one slot with the new object, whose number no place held
  made_held : (c : Cap) (i : ℕ) (ws : List Operand) (js : List ℕ) (vs : List Value) {S₁ : State} → length (objects_of H) ≤ n → ObjectMade m H c ws js vs
      → Step m P H (bind (new c i ws)) S₁ → holders S₁ n ≤ 1
  unfolding line_gained line_lost let_gained count
  made_held c i ws js vs above made step =
      omega (
        arith,
        step_changes here.state frames step n,
        unmade_unheld H.state here.state n above,
        one_at_most n (Obj (length (objects_of H))),
        gave_all_changes n made.gave,
        count_none _ _ n (map Obj js) above (all_values_range _ _ made.gave here.frame.slots),
        count_none _ _ n vs above (all_left_range _ _ made.gave here.frame.slots),
      )

  swap_keeps : (f i u : ℕ) → (object_at (swapped_objects H i f u) n).cap ≡ (object_at (objects_of H) n).cap
  unfolding set_field object
  swap_keeps f i u = cap_kept (objects_of H) i n (set_field (object H i) f (Obj u)) refl

  copies_not_iso : (c : Cap) (met ns : List ℕ) → (c ≡ Iso → ⊥) → Every (λ o. o.cap ≡ Iso → ⊥) (map (copy_of H c met) ns)
  unfolding copy_of
  copies_not_iso c met ns not = every_image (λ o. o.cap ≡ Iso → ⊥) (copy_of H c met) ns (every_all _ (λ _. not) ns)

  step_was : (x : Line) (S₁ : State) → line_at P H.frame.block H.frame.line ≡ x → Step m P H x S₁ → (object_at S₁.objects n).cap ≡ Iso → Was H S₁ n
  unfolding gives put_thread put_objects put_channel started
  step_was x S₁ at_line (by_value w v vs gave) iso = iso_before iso
  step_was x S₁ at_line (by_field s f i read) iso = iso_before iso
  step_was x S₁ at_line (by_swap s f w i u vs swapped) iso = iso_before (sym (swap_keeps f i u) ∙ iso)
  step_was x S₁ at_line (by_call s i w j v vs called) iso = iso_before iso
  step_was x S₁ at_line (by_new c i ws js vs made) iso =
      by_bool (ltb n (length (objects_of H)))
      (λ below. iso_before (sym (cap_before (objects_of H) _ n (ltb-true _ _ below)) ∙ iso))
      (λ above. just_made (made_held c i ws js vs (ltb-false _ _ above) made (by_new c i ws js vs made)))
  step_was x S₁ at_line (by_cast c w i vs cast) iso = iso_before iso
  step_was x S₁ at_line (by_spawn b room) iso = iso_before iso
  step_was x S₁ at_line (by_put s w c i vs put) iso = iso_before iso
  step_was x S₁ at_line (by_sent s w i c taken) iso = iso_before iso
  step_was x S₁ at_line (by_recv s c received) iso = iso_before iso
  step_was x S₁ at_line (by_copy c s i copied) iso =
      let not = not_iso_cap c (let_ok m P valid _ _ _ here.frame.block at_line).1 in
      by_bool (ltb n (length (objects_of H)))
      (λ below. iso_before (sym (cap_before (objects_of H) _ n (ltb-true _ _ below)) ∙ iso))
      (λ above. absurd (cap_after (objects_of H) _ n (ltb-false _ _ above) (copies_not_iso c (met_here H i) (met_here H i) not) iso))
  step_was x S₁ at_line (by_return w v vs f fs gave callers) iso = iso_before iso
  step_was x S₁ at_line (by_finish w v vs gave callers) iso = iso_before iso

  -- the one holder is kept, or is the first
  step_one : (x : Line) (S₁ : State) → line_at P H.frame.block H.frame.line ≡ x → Step m P H x S₁ → OneHolder P H.state
      → (object_at S₁.objects n).cap ≡ Iso → other_holders P S₁ n ≤ 1
  step_one x S₁ at_line step one iso = go (step_was x S₁ at_line step iso)
    where
      go : Was H S₁ n → other_holders P S₁ n ≤ 1
      go (iso_before was) =
          omega (
            arith,
            split n P H.state,
            split n P S₁,
            step_changes here.state frames step n,
            (step_none_more valid H here frames n was x S₁ at_line step).sum,
            one.at_most_one n was,
          )
      go (just_made few) = omega (arith, split n P S₁)

-- ---- Turns and runs

pub turn_one : (m : Mosts) (P : Program) (k : ℕ) (S S₁ : State) (t : ℕ) → Valid m P → Fits m P k S → OneHolder P S → turn m P S t ≡ ok S₁ → OneHolder P S₁
turn_one m P k S S₁ t valid fits one goes =
    let way = moved m P S S₁ t goes in
    let here = here_fits m P k S t way.frame way.callers fits way.frames in
    record { at_most_one = λ n. step_one valid _ here way.frames n way.line S₁ way.at_line way.step one }

record Kept (m : Mosts) (P : Program) (S : State) : Type 0 where
  moves : ℕ
  fits : Fits m P moves S
  one : OneHolder P S

kept_later : {m : Mosts} {P : Program} {S S₁ : State} → Valid m P → Kept m P S → Later m P S S₁ → Kept m P S₁
kept_later valid k now = k
kept_later {m} {P} valid k (then {S₁ = S} {S₂ = S₁} t before goes) =
    let so = kept_later valid k before in
    record {
      moves = suc so.moves;
      fits = keeps_turn m P so.moves S S₁ t valid so.fits goes;
      one = turn_one m P so.moves S S₁ t valid so.fits so.one goes;
    }

pub start_one : (P : Program) → OneHolder P start
unfolding start object_at
start_one P = record { at_most_one = λ n iso. impossible cc }

-- in every state of every run of a valid program
pub one_holder : (m : Mosts) (P : Program) (ts : List ℕ) → Valid m P → 1 ≤ m.threads → OneHolder P (run m P ts).state
unfolding state_at run run_from
one_holder m P ts valid room =
    let first : Kept m P start = record { moves = 0; fits = keeps_run m P [] valid room; one = start_one P } in
    subst (λ us. OneHolder P (run m P us).state) (take-length ts) (kept_later valid first (from_start m P ts (length ts))).one

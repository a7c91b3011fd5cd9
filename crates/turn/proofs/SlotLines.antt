-- What an operand leaves in the table; and the lines that give an operand's value, value and cast: the value is given, then the operand's slot is left.
use Prim.Native.Nat.{ℕ, ◌/◌, ◌%◌, ◌<◌}
use native.Mathlib.Nat.{mod-eq_of_lt}
use native.Mathlib.Omega.{arith}
use mathlib.Core.Path.{◌≡◌, refl, sym, ap, ◌∙◌}
use mathlib.Core.List.{List, [], ◌∷◌, ◌++◌}
use lib.Dec.{eqb}
use lib.ListN.{length, get_or}
use lib.Seq.{set-get_or}
use borrow.Author.Tests.{eq-eqb, ne_eqb}
use Rattle.rules.specs.declared.Cap.{Cap}
use Rattle.rules.specs.declared.Value.{Value}
use Rattle.rules.specs.Mosts as Most
use Rattle.rules.specs.Mosts.{mosts}
use Rattle.rules.specs.Script.{Operand, reads, takes, Program, value, cast, bind, line_at}
use Rattle.rules.specs.Reading.{slot_of}
use Rattle.rules.specs.State.{Object, Frame, Thread, State, ready, no_thread, thread_at, slot_at}
use Rattle.rules.specs.Tables.{operand_of}
use Rattle.rules.specs.Turn.{Res, left_by, put_thread, filled, with_slots, gives, value_line, cast_line, let_line, perform}
use Rattle.rules.proofs.ListLaws.{by_bool, length_snoc}
use Rattle.rules.specs.HolderChanges.{operand_gained, let_gained, line_gained, line_lost}
use Rattle.rules.proofs.Moves.{Gave, Step, by_value, by_cast}
use Rattle.rules.proofs.TableWords.{slot_of_word}
use Rattle.table.specs.declared.standing.Here.{Here}
use Rattle.table.specs.StateTable.{Becomes, HasSlot, HasRoom, on_frame, edit_frame, cleared, given, raised, all_raised, Counts}
use Rattle.checks.specs.Checked.{here_at, Stand, Checks}
use Rattle.checks.proofs.CheckLaws.{then_gives}
use Rattle.checks.proofs.Standing.{OperandChecked, SlotSeen, slot_read}
use Rattle.turn.specs.Performed.{emptied, kept_by, Leaves, Went, to_next, Always}
use Rattle.turn.proofs.Settled.{Written, only_gained}
use Rattle.turn.proofs.TurnSteps.{Answers, Writes, word_names, let_names, let_room, line_few}
use Rattle.turn.proofs.Frames.{Inside, inside, has_room, has_slot, stands_put, inside_put, given_inside, given_then_emptied}
use Rattle.turn.specs.declared.Move.TheVariants.{Next}

-- ---- What an operand leaves

same_frames : (k : ℕ) (fs : List Frame) → on_frame k (λ f. with_slots f f.slots) fs ≡ fs
unfolding on_frame with_slots
same_frames k [] = refl
same_frames k (f ∷ fs) = by_bool (eqb k (length fs)) (λ t. rw t refl) (λ t. rw t (ap (f ∷◌) (same_frames k fs)))

read_leaves : (t k : ℕ) (S : State) → edit_frame S t k (λ f. with_slots f f.slots) (thread_at S t).sender ≡ S
unfolding edit_frame put_thread thread_at
read_leaves t k S =
    let T = get_or S.threads t no_thread in
    rw (same_frames k T.frames) (ap (λ (ts : List Thread). let R : State = record { objects = S.objects; threads = ts; channels = S.channels } in R) (set-get_or S.threads t no_thread))

module _ {s s₁ : List ℕ} (t k w : ℕ) {v : Value} where
  pub leaves_read : (w % 2 ≡ 1 → ⊥) → Counts (raised v) s s₁ → Leaves t k w v s s₁
  unfolding emptied all_raised
  leaves_read is_read holds = record { leaves = λ S rest held low there. rw (ne_eqb (w % 2) 1 is_read, read_leaves t k S) (holds.counts S rest held) }

  pub leaves_taken : {r : ℕ} → w % 2 ≡ 1 → r ≡ w / 2 % 16 → Becomes s (HasSlot t k r) (cleared t k r) s₁ → Leaves t k w v s s₁
  unfolding emptied cleared all_raised
  leaves_taken is-taken place clears =
      record {
        leaves = λ S rest held low there.
            let same = place ∙ mod-eq_of_lt low in
            rw (eq-eqb (w % 2) 1 is-taken, ← same) (clears.becomes S rest held (rw same there));
      }

-- what it keeps is what it gains
pub kept_gained : (vs : List Value) (w : Operand) {v : Value} → slot_at vs (slot_of w) ≡ v → kept_by w v ≡ operand_gained vs w
kept_gained vs (reads s) is = ap (◌∷ []) (sym is)
kept_gained vs (takes s) is = refl

-- the operand of word w, in a frame where a thread stands
module _ {s : List ℕ} {h : Here} {P : Program} {n : ℕ} {S : State} {f : Frame} {fs : List Frame} {rest : List ℕ} (st : Stand s h P n S f fs rest)
    {v : Value} (w : ℕ) (read : SlotSeen s h (w / 2 % 16) v) (there : w / 2 < length f.slots) where
  pub operand_kept : kept_by (operand_of w) v ≡ operand_gained f.slots (operand_of w)
  operand_kept = kept_gained f.slots (operand_of w) (ap (slot_at f.slots) (slot_of_word w) ∙ slot_read st (w / 2) (w / 2 % 16) refl read there)

  -- the value that the rule's operand gave
  pub operand_gave : {os : List Object} {x : Value} {vs : List Value} → Gave os f.slots (operand_of w) x vs → x ≡ v
  operand_gave gave = sym gave.value ∙ ap (slot_at f.slots) (slot_of_word w) ∙ slot_read st (w / 2) (w / 2 % 16) refl read there

-- ---- The operand of word w, whose check is k

module _ {s : List ℕ} {h : Here} {k : Res (Unit {0})} (w : ℕ) where
  pub value_answers : OperandChecked s h w k → Answers Always s h (bind (value (operand_of w))) k
  unfolding perform let_line value_line
  value_answers first = record { answers = λ P n S f fs rest q st at_line. first.checks P n S f fs rest st (word_names st w (let_names st at_line), tt) ∙ sym (then_gives _ _) }

  pub cast_answers : (c : Cap) → Checks s h (w / 2 ∷ []) (λ P H. cast_line H c (operand_of w)) k → Answers Always s h (bind (cast c (operand_of w))) k
  unfolding perform let_line
  cast_answers c all = record { answers = λ P n S f fs rest q st at_line. all.checks P n S f fs rest st (word_names st w (let_names st at_line), tt) }

-- the operand's value is given, then its slot is left
module _ {s s₁ s₂ : List ℕ} {h : Here} {v : Value} (w : ℕ) (read : SlotSeen s h (w / 2 % 16) v)
    (gives-value : Becomes s (HasRoom h.thread h.depth) (given h.thread h.depth v) s₁) (leaves : Leaves h.thread h.depth w v s₁ s₂) where
  module _ {P : Program} {n : ℕ} {S : State} {f : Frame} {fs : List Frame} {rest : List ℕ} (st : Stand s h P n S f fs rest) where
    value_given : length f.slots < Most.slots → w / 2 < length f.slots
        → Written s₂ S (operand_gained f.slots (operand_of w)) [] (put_thread S h.thread (filled f (left_by f.slots (operand_of w)) v ∷ fs) ready) rest
    unfolding filled
    value_given room there =
        let t = h.thread in
        let k = h.depth in
        let here = inside st in
        let first = gives-value.becomes S rest st.held (has_room here room (line_few st)) in
        let now-in : Inside t k (filled f f.slots v) fs (given t k v S) = rw (given_inside here v) (inside_put S ready here.thread here.depth) in
        let more : w / 2 < length (f.slots ++ (v ∷ [])) = omega (arith, there, length_snoc f.slots v) in
        let last = leaves.leaves (given t k v S) rest first (omega (arith, there, room)) (has_slot now-in (w / 2) more) in
        only_gained (operand_gained f.slots (operand_of w))
        (rw (operand_kept st w read there, given_then_emptied here v (operand_of w) (rw (slot_of_word w) there)) at last)

    value_moved : {S₁ : State} → line_at P f.block f.line ≡ bind (value (operand_of w)) → Step mosts P (here_at S h.thread f fs) (bind (value (operand_of w))) S₁
        → Written s₂ S (operand_gained f.slots (operand_of w)) [] S₁ rest × Went h.thread f fs S₁ Next
    unfolding gives filled
    value_moved at_line (by_value u x vs gave) =
        let named = word_names st w (let_names st at_line) in
        (rw (gave.slots, operand_gave st w read named gave) (value_given (let_room st at_line) named), to_next (stands_put S _ fs ready (inside st).thread))

    cast_moved : {S₁ : State} (c : Cap) → line_at P f.block f.line ≡ bind (cast c (operand_of w)) → Step mosts P (here_at S h.thread f fs) (bind (cast c (operand_of w))) S₁
        → Written s₂ S (operand_gained f.slots (operand_of w)) [] S₁ rest × Went h.thread f fs S₁ Next
    unfolding gives filled
    cast_moved c at_line (by_cast k u o vs passed) =
        let named = word_names st w (let_names st at_line) in
        (rw (passed.gave.slots, operand_gave st w read named passed.gave) (value_given (let_room st at_line) named), to_next (stands_put S _ fs ready (inside st).thread))

  pub value_writes : Writes Always s h (bind (value (operand_of w))) Next s₂
  unfolding line_gained let_gained line_lost
  value_writes = record { writes = λ P n S f fs rest q st few at_line S₁ step. value_moved st at_line step }

  pub cast_writes : (c : Cap) → Writes Always s h (bind (cast c (operand_of w))) Next s₂
  unfolding line_gained let_gained line_lost
  cast_writes c = record { writes = λ P n S f fs rest q st few at_line S₁ step. cast_moved st c at_line step }

-- The lines of an object's fields: field gives the field's value, which is then held once more; swap gives it, stores the operand's value there, then
-- the operand's slot is left.
use Prim.Native.Nat.{ℕ, ◌/◌, ◌%◌, ◌<◌}
use native.Mathlib.Nat.{mod-eq_of_lt}
use native.Mathlib.Omega.{arith}
use mathlib.Core.Path.{◌≡◌, refl, sym, ap, ◌∙◌}
use mathlib.Core.List.{List, [], ◌∷◌, ◌++◌}
use lib.ListN.{length}
use Rattle.rules.specs.declared.Value.{Value}
use Rattle.rules.specs.declared.Value.TheVariants.{Obj}
use Rattle.rules.specs.Mosts as Most
use Rattle.rules.specs.Mosts.{mosts}
use Rattle.rules.specs.Script.{Program, field, swap, bind, line_at}
use Rattle.rules.specs.State.{Frame, State, ready, object_at, thread_at, slot_at}
use Rattle.rules.specs.Holders.{holders}
use Rattle.rules.specs.HolderChanges.{operand_gained, field_of, let_gained, line_gained, line_lost}
use Rattle.rules.specs.Tables.{operand_of}
use Rattle.rules.specs.Turn.{Res, is_absent, left_by, object, put_thread, put_objects, filled, gives, field_line, swap_line, let_line, perform}
use Rattle.rules.proofs.ListLaws.{length_snoc}
use Rattle.rules.proofs.Moves.{Step, by_field, by_swap}
use Rattle.rules.proofs.TableWords.{slot_of_word}
use Rattle.table.specs.declared.standing.Here.{Here}
use Rattle.table.specs.StateTable.{Counted, Sees, Becomes, HasRoom, HasField, FieldIn, edit_frame, given, stored, raised, all_raised, Counts}
use Rattle.checks.specs.Checked.{here_at, Stand, Checks}
use Rattle.checks.proofs.CheckLaws.{number_of}
use Rattle.checks.proofs.Standing.{SlotSeen, TargetSeen, field_in, slot_read, slot_object, target_read, target_object, fielded}
use Rattle.turn.specs.Performed.{Leaves, Went, to_next, Always}
use Rattle.turn.proofs.Settled.{Written, only_gained}
use Rattle.turn.proofs.SlotLines.{operand_kept, operand_gave}
use Rattle.turn.proofs.TurnSteps.{Answers, Writes, word_names, let_names, let_room, line_few}
use Rattle.turn.proofs.Frames.{Inside, inside, inside_objects, has_room, has_slot, stands_put, inside_put, given_inside, given_then_emptied}
use Rattle.turn.specs.declared.Move.TheVariants.{Next}

-- ---- The checks

module _ {s : List ℕ} {h : Here} {k : Res (Unit {0})} (i j : ℕ) where
  pub field_answers : Checks s h (i ∷ []) (λ P H. field_line H i j) k → Answers Always s h (bind (field i j)) k
  unfolding perform let_line
  field_answers all = record { answers = λ P n S f fs rest q st at_line. all.checks P n S f fs rest st ((let_names st at_line).0, tt) }

  pub swap_answers : (w : ℕ) → Checks s h (i ∷ w / 2 ∷ []) (λ P H. swap_line H i j (operand_of w)) k → Answers Always s h (bind (swap i j (operand_of w))) k
  unfolding perform let_line
  swap_answers w all =
      record {
        answers = λ P n S f fs rest q st at_line.
            let names = let_names st at_line in
            all.checks P n S f fs rest st (names.0, (word_names st w names.2, tt));
      }

-- ---- A field stored

stored_after_given : (t k o j : ℕ) (u v : Value) (S : State) → stored o j v (given t k u S) ≡ given t k u (stored o j v S)
unfolding stored given edit_frame put_thread put_objects thread_at
stored_after_given t k o j u v S = refl

has_field_given : (t k o j : ℕ) (v : Value) (S : State) → HasField o j S → HasField o j (given t k v S)
unfolding given edit_frame put_thread
has_field_given t k o j v S has = record { object = has.object; field = has.field }

-- ---- Field j of object o, which holds u

field_read : {s : List ℕ} {h : Here} {o : ℕ} {u : Value} (j : ℕ) → Sees s (FieldIn o j) (λ S. slot_at (object_at S.objects o).fields j) u
    → {P : Program} {n : ℕ} {S : State} {f : Frame} {fs : List Frame} {rest : List ℕ} → Stand s h P n S f fs rest → o < length S.objects
    → slot_at (object_at S.objects o).fields j ≡ u
field_read {o = o} j read {S = S} {rest = rest} st made = sym (read.sees S rest st.held (field_in o j (fielded st o made)))

-- ---- It is given

module _ {s s₁ : List ℕ} {h : Here} {o : ℕ} {u : Value} (j : ℕ) (read : Sees s (FieldIn o j) (λ S. slot_at (object_at S.objects o).fields j) u)
    (gives-field : Becomes s (HasRoom h.thread h.depth) (given h.thread h.depth u) s₁) where
  field_given : {P : Program} {n : ℕ} {S : State} {f : Frame} {fs : List Frame} {rest : List ℕ} → Stand s h P n S f fs rest → length f.slots < Most.slots
      → Counted s₁ (holders S) (given h.thread h.depth u S) rest
  field_given {S = S} {rest = rest} st room = gives-field.becomes S rest st.held (has_room (inside st) room (line_few st))

  -- the target x in slot i; the field's value is held once more
  module _ {s₂ : List ℕ} {x : Value} (i : ℕ) (target : SlotSeen s h (i % 16) x) (is : x ≡ Obj o) (holds : Counts (raised u) s₁ s₂) where
    field_moved : {P : Program} {n : ℕ} {S : State} {f : Frame} {fs : List Frame} {rest : List ℕ} {S₁ : State} → Stand s h P n S f fs rest
        → line_at P f.block f.line ≡ bind (field i j) → Step mosts P (here_at S h.thread f fs) (bind (field i j)) S₁
        → Written s₂ S (field_of S.objects (slot_at f.slots i) j ∷ []) [] S₁ rest × Went h.thread f fs S₁ Next
    unfolding gives filled object all_raised
    field_moved {S = S} {f = f} {fs = fs} {rest = rest} st at_line (by_field b c m found) =
        let here = inside st in
        let is-target : slot_at f.slots i ≡ Obj o = slot_read st i _ refl target (let_names st at_line).0 ∙ is in
        let same : m ≡ o = ap number_of (sym found.target ∙ is-target) in
        let made : o < length S.objects = slot_object st i o is-target in
        let held = holds.counts _ rest (field_given st (let_room st at_line)) in
        rw (is-target, same, field_read j read st made) (only_gained (u ∷ []) (rw (given_inside here u) at held), to_next (stands_put S _ fs ready here.thread))

    pub field_writes : Writes Always s h (bind (field i j)) Next s₂
    unfolding line_gained let_gained line_lost
    field_writes = record { writes = λ P n S f fs rest q st few at_line S₁ step. field_moved st at_line step }

  -- the value v of the operand of word w is stored there
  module _ {s₂ s₃ : List ℕ} {v : Value} (w : ℕ) (operand : SlotSeen s h (w / 2 % 16) v) (stores : Becomes s₁ (HasField o (j % 4)) (stored o (j % 4) v) s₂)
      (leaves : Leaves h.thread h.depth w v s₂ s₃) where
    module _ {P : Program} {n : ℕ} {S : State} {f : Frame} {fs : List Frame} {rest : List ℕ} (st : Stand s h P n S f fs rest)
        (made : o < length S.objects) (has : j < length (object_at S.objects o).fields)
        (room : length f.slots < Most.slots) (there : w / 2 < length f.slots) where
      field_stored : Counted s₂ (holders S) (given h.thread h.depth u (stored o j v S)) rest
      field_stored =
          let t = h.thread in
          let k = h.depth in
          let place_is : j % 4 ≡ j = mod-eq_of_lt (omega (arith, has, (fielded st o made).few)) in
          let has-it = has_field_given t k o j u S (record { object = made; field = has }) in
          let held = stores.becomes (given t k u S) rest (field_given st room) (rw place_is has-it) in
          rw (place_is, stored_after_given t k o j u v S) at held

      field_swapped : Written s₃ S (operand_gained f.slots (operand_of w)) []
          (put_thread (stored o j v S) h.thread (filled f (left_by f.slots (operand_of w)) u ∷ fs) ready) rest
      unfolding filled stored
      field_swapped =
          let t = h.thread in
          let k = h.depth in
          let R = stored o j v S in
          let here : Inside t k f fs R = inside_objects _ (inside st) in
          let now-in : Inside t k (filled f f.slots u) fs (given t k u R) = rw (given_inside here u) (inside_put R ready here.thread here.depth) in
          let more : w / 2 < length (f.slots ++ (u ∷ [])) = omega (arith, there, length_snoc f.slots u) in
          let last = leaves.leaves (given t k u R) rest field_stored (omega (arith, there, room)) (has_slot now-in (w / 2) more) in
          only_gained (operand_gained f.slots (operand_of w))
          (rw (operand_kept st w operand there, given_then_emptied here u (operand_of w) (rw (slot_of_word w) there)) at last)

    -- the target x in slot i, as the operand leaves it
    module _ {x : Value} (i : ℕ) (target : TargetSeen s h i w x) (is : x ≡ Obj o) where
      swap_moved : {P : Program} {n : ℕ} {S : State} {f : Frame} {fs : List Frame} {rest : List ℕ} {S₁ : State} → Stand s h P n S f fs rest
          → line_at P f.block f.line ≡ bind (swap i j (operand_of w)) → Step mosts P (here_at S h.thread f fs) (bind (swap i j (operand_of w))) S₁
          → Written s₃ S (operand_gained f.slots (operand_of w)) [] S₁ rest × Went h.thread f fs S₁ Next
      unfolding gives filled object stored is_absent
      swap_moved {S = S} {f = f} {fs = fs} st at_line (by_swap b c d m r vs swapped) =
          let names = let_names st at_line in
          let named = word_names st w names.2 in
          let target_left : slot_at (left_by f.slots (operand_of w)) i ≡ Obj m = rw swapped.gave.slots at swapped.target in
          let same : m ≡ o = ap number_of (sym target_left ∙ target_read st i w target names.0 ∙ is) in
          let made : o < length S.objects = target_object st i w o (target_read st i w target names.0 ∙ is) in
          let is-value : Obj r ≡ v = operand_gave st w operand named swapped.gave in
          rw (same, field_read j read st made, is-value) (
            rw swapped.gave.slots (field_swapped st made (rw same at swapped.has_field) (let_room st at_line) named),
            to_next (stands_put (stored o j v S) _ fs ready (inside_objects _ (inside st)).thread),
          )

      pub swap_writes : Writes Always s h (bind (swap i j (operand_of w))) Next s₃
      unfolding line_gained let_gained line_lost
      swap_writes = record { writes = λ P n S f fs rest q st few at_line S₁ step. swap_moved st at_line step }

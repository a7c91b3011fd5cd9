-- Each way out of the checks of call and spawn, and the method that a call looks up: under the facts of that way the rule computes to the check's answer.
use Prim.Native.Nat.{ℕ, zero, suc, ◌-◌, ◌/◌, ◌%◌, ◌≤◌, ◌<◌}
use native.Mathlib.Nat.{mod-eq_of_lt}
use native.Mathlib.Omega.{arith}
use mathlib.Core.Path.{◌≡◌, refl, sym, ap, ◌∙◌}
use mathlib.Core.Bool.{Bool, true, false}
use mathlib.Core.List.{List, [], ◌∷◌, map}
use lib.Dec.{ltb}
use lib.ListN.{length, get_or}
use borrow.Author.Tests.{lt-ltb, le-ltb}
use Rattle.rules.specs.Numbers as No
use Rattle.rules.specs.declared.Value.{Value}
use Rattle.rules.specs.declared.Value.TheVariants.{Obj}
use Rattle.rules.specs.Script.{Program, lines_of, kind_at}
use Rattle.rules.specs.State.{State, Frame, object_at}
use Rattle.rules.specs.Mosts.{mosts}
use Rattle.rules.specs.Valid.{Valid}
use Rattle.rules.specs.Tables.{operand_of}
use Rattle.rules.specs.Turn.{Res, stop, ok, ◌>>=◌, ◌>>◌, check, permit, is_foreign, as_object, object, call_line}
use Rattle.rules.proofs.ListLaws.{impossible}
use Rattle.rules.proofs.Keeps.{kind_ok}
use Rattle.table.specs.declared.standing.Here.{Here}
use Rattle.table.specs.ProgramTable.{Filled, KindMethod}
use Rattle.table.specs.StateTable.{Held, Sees, Any}
use Rattle.std.proofs.lemmas.Option.{slice_get_past}
use Rattle.std.specs.Prelude.{Option, None, Some, slice_get}
use Rattle.checks.specs.Checked.{outcome_of, passed, Made, Few, Stand, here_at, Named, MethodBlock}
use Rattle.checks.proofs.CheckLaws.{stays, as_outcome}
use Rattle.checks.proofs.Standing.{TargetSeen, OperandChecked, kind_is_there, target_read, target_object, operand_goes}

-- ---- spawn: k threads

module _ {s : List ℕ} {k : ℕ} (count : Sees s Any (λ S. length S.threads) k) where
  pub spawn_room : k < 16 → Sees s Few (λ S. outcome_of (check (ltb (length S.threads) 16) 16)) (ok tt)
  unfolding check
  spawn_room room = record { sees = λ S rest held few. rw (sym (count.sees S rest held tt), lt-ltb k 16 room) refl }

  pub spawn_used_up : 16 ≤ k → Sees s Few (λ S. outcome_of (check (ltb (length S.threads) 16) 16)) (stop No.used_up)
  unfolding check
  spawn_used_up full = record { sees = λ S rest held few. rw (sym (count.sees S rest held tt), le-ltb k 16 full) refl }

-- ---- The method

-- an item of a list is 0 where the list has no such place, and one more than what stands there
no_item : (ms : List ℕ) (j : ℕ) → get_or (map suc ms) j 0 ≡ 0 → None ≡ slice_get ms j
no_item [] j e = refl
no_item (x ∷ ms) zero e = impossible cc
no_item (x ∷ ms) (suc j) e = no_item ms j e

some_item : (ms : List ℕ) (j : ℕ) → (get_or (map suc ms) j 0 ≡ 0 → ⊥) → Some (get_or (map suc ms) j 0 - 1) ≡ slice_get ms j
some_item [] j some = absurd (some refl)
some_item (x ∷ ms) zero some = ap Some (omega arith)
some_item (x ∷ ms) (suc j) some = some_item ms j some

-- no kind has a fifth method
pub no_fifth_method : (p s : List ℕ) (n : ℕ) {j : ℕ} → 4 ≤ j → MethodBlock p s n j None
no_fifth_method p s n {j} past =
    record {
      is = λ P S counts rest₁ rest₂ filled held valid made there.
          let k = (object_at S.objects n).kind in
          let few = (kind_ok _ P valid k there).few_methods in
          sym (slice_get_past (kind_at P k).methods j (omega (arith, few, past)));
    }

-- the kind k of object n is one of 32; its item is r
module _ {p s : List ℕ} {n k r : ℕ} (j : ℕ) (kind : Sees s (λ S. n < length S.objects) (λ S. (object_at S.objects n).kind) k) (method : KindMethod p (k % 32) j r) where
  item_is : (P : Program) (S : State) (counts rest₁ rest₂ : List ℕ) → Filled p counts (lines_of P) rest₁ → Held s S rest₂ → Valid mosts P → n < length S.objects
      → (object_at S.objects n).kind < length P.kinds → r ≡ get_or (map suc (kind_at P (object_at S.objects n).kind).methods) j 0
  item_is P S counts rest₁ rest₂ filled held valid made there =
      let k-is = kind.sees S rest₂ held made in
      let same : k % 32 ≡ (object_at S.objects _).kind = ap (◌% 32) k-is ∙ mod-eq_of_lt (omega (arith, there, valid.few_kinds)) in
      method.is P counts rest₁ filled (rw same there) ∙ ap (λ k. get_or (map suc (kind_at P k).methods) j 0) same

  pub no_such_method : r ≡ 0 → MethodBlock p s n j None
  no_such_method none =
      record {
        is = λ P S counts rest₁ rest₂ filled held valid made there.
            no_item (kind_at P (object_at S.objects n).kind).methods j (sym (item_is P S counts rest₁ rest₂ filled held valid made there) ∙ none);
      }

  pub such_method : (r ≡ 0 → ⊥) → MethodBlock p s n j (Some (r - 1))
  such_method some =
      record {
        is = λ P S counts rest₁ rest₂ filled held valid made there.
            let is = item_is P S counts rest₁ rest₂ filled held valid made there in
            ap (λ (i : ℕ). Some (i - 1)) is ∙ some_item (kind_at P (object_at S.objects n).kind).methods j (λ e. some (is ∙ e));
      }

-- ---- call

got_none : (ms : List ℕ) (j : ℕ) → slice_get ms j ≡ None → length ms ≤ j
got_none [] j e = omega arith
got_none (x ∷ ms) zero e = impossible cc
got_none (x ∷ ms) (suc j) e = omega (arith, got_none ms j e)

got_some : (ms : List ℕ) (j : ℕ) {x : ℕ} → slice_get ms j ≡ Some x → j < length ms
got_some [] j e = impossible cc
got_some (y ∷ ms) zero e = omega arith
got_some (y ∷ ms) (suc j) e = omega (arith, got_some ms j e)

-- the checks of a call of method j on the target in slot i answer k
pub record ChecksCall (p s : List ℕ) (h : Here) (i j w : ℕ) (k : Res (Unit {0})) : Type 0 where
  pub checks : (P : Program) (n : ℕ) (S : State) (f : Frame) (fs : List Frame) (counts rest₁ rest₂ : List ℕ) → Filled p counts (lines_of P) rest₁
      → Stand s h P n S f fs rest₂ → Named (i ∷ w / 2 ∷ []) f → k ≡ outcome_of (call_line P (here_at S h.thread f fs) i j (operand_of w))

-- the operand's word w, the target v in slot i as the operand leaves it, method j

module _ {p s : List ℕ} {h : Here} (i j w : ℕ) {k : Res (Unit {0})} (first : OperandChecked s h w k) where
  pub call_no_operand : passed k ≡ false → ChecksCall p s h i j w k
  unfolding call_line
  call_no_operand fails = record { checks = λ P n S f fs counts rest₁ rest₂ filled st named. stays _ _ fails (first.checks P n S f fs rest₂ st named.1) }

  module _ {v : Value} (goes : passed k ≡ true) (target : TargetSeen s h i w v) where
    pub call_no_object : {n : ℕ} → stop n ≡ as_object v → ChecksCall p s h i j w (stop n)
    unfolding call_line ◌>>=◌
    call_no_object is =
        record { checks = λ P n S f fs counts rest₁ rest₂ filled st named. rw (operand_goes st w first goes named.1.0, target_read st i w target named.0, ← is) refl }

    -- object o, whose method is the block m
    module _ {o : ℕ} {m : Option ℕ} (is : v ≡ Obj o) (method : MethodBlock p s o j m) where
      module _ {P : Program} {n : ℕ} {S : State} {f : Frame} {fs : List Frame} {counts rest₁ rest₂ : List ℕ}
          (filled : Filled p counts (lines_of P) rest₁) (st : Stand s h P n S f fs rest₂) (named : Named (i ∷ w / 2 ∷ []) f) where
        made : o < length S.objects
        made = target_object st i w o (target_read st i w target named.0 ∙ is)

        method_is : m ≡ slice_get (kind_at P (object_at S.objects o).kind).methods j
        method_is = method.is P S counts rest₁ rest₂ filled st.held st.valid made (kind_is_there st o made)

      pub call_no_method : m ≡ None → ChecksCall p s h i j w (stop No.no_method)
      unfolding call_line as_object object check ◌>>=◌ ◌>>◌
      call_no_method none =
          record {
            checks = λ P n S f fs counts rest₁ rest₂ filled st named.
                let ms = (kind_at P (object_at S.objects o).kind).methods in
                let has = le-ltb j (length ms) (got_none ms j (sym (method_is filled st named) ∙ none)) in
                rw (operand_goes st w first goes named.1.0, target_read st i w target named.0 ∙ is, has) refl;
          }

      module _ {b : Bool} {x : ℕ} (some : m ≡ Some x) (away : Sees s (Made o) (λ S. is_foreign h.thread (object_at S.objects o)) b) where
        module _ {P : Program} {n : ℕ} {S : State} {f : Frame} {fs : List Frame} {counts rest₁ rest₂ : List ℕ}
            (filled : Filled p counts (lines_of P) rest₁) (st : Stand s h P n S f fs rest₂) (named : Named (i ∷ w / 2 ∷ []) f) where
          has_method : ltb j (length (kind_at P (object_at S.objects o).kind).methods) ≡ true
          has_method =
              let ms = (kind_at P (object_at S.objects o).kind).methods in
              lt-ltb j (length ms) (got_some ms j (sym (method_is filled st named) ∙ some))

          foreign_is : is_foreign h.thread (object_at S.objects o) ≡ b
          foreign_is = sym (away.sees S rest₂ st.held (made filled st named))

        pub call_forbidden : {a : Res (Unit {0})} → a ≡ permit b false false → passed a ≡ false → ChecksCall p s h i j w a
        unfolding call_line as_object object check ◌>>=◌ ◌>>◌
        call_forbidden permission fails =
            record {
              checks = λ P n S f fs counts rest₁ rest₂ filled st named.
                  rw (operand_goes st w first goes named.1.0, target_read st i w target named.0 ∙ is, has_method filled st named, foreign_is filled st named)
                  (stays (permit _ _ _) _ fails (permission ∙ as_outcome _));
            }

        module _ (allowed : permit b false false ≡ ok tt) where
          pub call_used_up : 15 ≤ h.depth → ChecksCall p s h i j w (stop No.used_up)
          unfolding call_line as_object object check ◌>>=◌ ◌>>◌
          call_used_up deep =
              record {
                checks = λ P n S f fs counts rest₁ rest₂ filled st named.
                    let full = le-ltb (suc (length fs)) 16 (omega (arith, st.depth, deep)) in
                    rw (operand_goes st w first goes named.1.0, target_read st i w target named.0 ∙ is, has_method filled st named, foreign_is filled st named, allowed, full) refl;
              }

          pub call_passes : h.depth < 15 → ChecksCall p s h i j w (ok tt)
          unfolding call_line as_object object check ◌>>=◌ ◌>>◌
          call_passes room =
              record {
                checks = λ P n S f fs counts rest₁ rest₂ filled st named.
                    let one_more = lt-ltb (suc (length fs)) 16 (omega (arith, st.depth, room)) in
                    rw (operand_goes st w first goes named.1.0, target_read st i w target named.0 ∙ is, has_method filled st named, foreign_is filled st named, allowed, one_more) refl;
              }

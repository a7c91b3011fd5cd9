-- The checks of a new's items answer what its operands do: an item is one more than an operand's word, and an operand's answer depends on its own slot alone.
use Prim.Native.Nat.{ℕ, zero, suc, ◌-◌, ◌+◌, ◌*◌, ◌/◌, ◌%◌, ◌≤◌, ◌<◌}
use native.Mathlib.Omega.{arith}
use mathlib.Core.Path.{◌≡◌, refl, sym, ap, ◌∙◌, subst}
use mathlib.Core.Bool.{true, false}
use mathlib.Core.List.{List, [], ◌∷◌, ◌++◌, map}
use lib.Dec.{eqb}
use lib.ListN.{length, get_or, take, drop, replicate}
use borrow.Author.Tests.{eqb-true, eqb-false}
use lib.Seq.{drop-cons}
use Rattle.std.specs.List.{list_any}
use Rattle.std.proofs.lemmas.List.{take_more, take-append-drop, take_all}
use Rattle.rules.specs.Numbers as No
use Rattle.rules.specs.declared.Value.{Value}
use Rattle.rules.specs.declared.Value.TheVariants.{Absent}
use Rattle.rules.specs.Lists.{pad, Every}
use Rattle.rules.specs.Script.{Operand, reads, takes, Program}
use Rattle.rules.specs.Reading.{slot_of}
use Rattle.rules.specs.State.{Object, Frame, State, slot_at}
use Rattle.rules.specs.Tables.{operand_item, operand_of}
use Rattle.rules.specs.Turn.{stop, Res, ok, ◌>>=◌, ◌>>◌, permit, is_iso_object, present, operand, operands, left_by}
use Rattle.rules.proofs.ListLaws.{impossible, by_bool, every_pad, every_image, every_mapped, every_map, every_at}
use Rattle.rules.proofs.TableWords.{operand_of_word, half_of_word, slot_of_word}
use Rattle.table.specs.declared.standing.Here.{Here}
use Rattle.checks.specs.Checked.{outcome_of, passed, Stand, Named, Checks}
use Rattle.checks.specs.NewItems.{left_by_item, left_by_items, item_slots, item_operand, takes_slot, ChecksItems}
use Rattle.checks.proofs.CheckLaws.{no_both, stays, goes_on, then_ok, then_gives, same_after, given}
use Rattle.checks.proofs.OperandChecks.{slot_taken, slot_left}
use Rattle.checks.proofs.Standing.{OperandChecked}

-- whether item a takes the slot of item e, as the code asks
pub takes_its_slot : (a e : ℕ) → (e ≡ 0 → ⊥) → eqb a ((e - 1) / 2 * 2 + 2) ≡ takes_slot a e
takes_its_slot a zero some = absurd (some refl)
takes_its_slot a (suc w) some = let word : suc w - 1 ≡ w = omega arith in rw word refl

-- ---- The slot of item suc w, as item a leaves it

absent_if_taken : (vs : List Value) (a w : ℕ) → takes_slot a (suc w) ≡ true → slot_at (left_by_item vs a) (w / 2) ≡ Absent
absent_if_taken vs a w t = let e = eqb-true a (w / 2 * 2 + 2) t in by_item a e
  where
    by_item : (a : ℕ) → a ≡ w / 2 * 2 + 2 → slot_at (left_by_item vs a) (w / 2) ≡ Absent
    by_item zero e = absurd (omega arith)
    by_item (suc x) e = sym (slot_taken vs (w / 2) x (omega arith))

same_if_not : (vs : List Value) (a w : ℕ) → takes_slot a (suc w) ≡ false → slot_at (left_by_item vs a) (w / 2) ≡ slot_at vs (w / 2)
same_if_not vs zero w t = refl
same_if_not vs (suc x) w t = let other = eqb-false (suc x) (w / 2 * 2 + 2) t in slot_left vs (w / 2) x (λ e. other (omega arith))

still_absent : (vs : List Value) (a w : ℕ) → slot_at vs (w / 2) ≡ Absent → slot_at (left_by_item vs a) (w / 2) ≡ Absent
still_absent vs a w gone = by_bool (takes_slot a (suc w)) (absent_if_taken vs a w) (λ t. same_if_not vs a w t ∙ gone)

-- ---- The answer of an operand, by its slot

no_operand_there : (os : List Object) (vs : List Value) (w : ℕ) → slot_at vs (w / 2) ≡ Absent → (stop No.absent) ≡ outcome_of (item_operand os vs (suc w))
unfolding operand present ◌>>=◌ ◌>>◌
no_operand_there os vs w gone = by_bool (eqb (w % 2) 1) (λ t. rw (t, gone) refl) (λ t. rw (t, gone) refl)

same_slot_same_answer : (os : List Object) (vs us : List Value) (w : Operand) → slot_at vs (slot_of w) ≡ slot_at us (slot_of w) → outcome_of (operand os vs w) ≡ outcome_of (operand os us w)
unfolding operand
same_slot_same_answer os vs us (reads s) same =
    rw same (same_after (present (slot_at us s)) _ _ λ v. sym (then_ok (permit false (is_iso_object os v) false) (v, vs)) ∙ then_ok (permit false (is_iso_object os v) false) (v, us))
same_slot_same_answer os vs us (takes s) same = rw same (same_after (present (slot_at us s)) _ _ λ v. refl)

-- ---- The slot of item suc w, as the items before it leave it

stays_absent : (es : List ℕ) (vs : List Value) (w : ℕ) → slot_at vs (w / 2) ≡ Absent → slot_at (left_by_items vs es) (w / 2) ≡ Absent
stays_absent [] vs w gone = gone
stays_absent (e ∷ es) vs w gone = stays_absent es (left_by_item vs e) w (still_absent vs e w gone)

absent_if_any_took : (es : List ℕ) (vs : List Value) (w : ℕ) → list_any (λ a. takes_slot a (suc w)) es ≡ true → slot_at (left_by_items vs es) (w / 2) ≡ Absent
absent_if_any_took [] vs w some = impossible cc
absent_if_any_took (e ∷ es) vs w some = by_bool (takes_slot e (suc w))
    (λ t. stays_absent es (left_by_item vs e) w (absent_if_taken vs e w t))
    (λ t. absent_if_any_took es (left_by_item vs e) w (rw t at some))

same_if_none_took : (es : List ℕ) (vs : List Value) (w : ℕ) → list_any (λ a. takes_slot a (suc w)) es ≡ false → slot_at (left_by_items vs es) (w / 2) ≡ slot_at vs (w / 2)
same_if_none_took [] vs w none = refl
same_if_none_took (e ∷ es) vs w none = by_bool (takes_slot e (suc w))
    (λ t. let no : true ≡ false = rw t at none in impossible cc)
    (λ t. same_if_none_took es (left_by_item vs e) w (rw t at none) ∙ same_if_not vs e w t)

-- ---- One item e, after the items es

abbrev pub ItemChecked : List ℕ → Here → List ℕ → ℕ → Res (Unit {0}) → Type 0
ItemChecked s h es e k = Checks s h (item_slots e) (λ P H. item_operand H.state.objects (left_by_items H.frame.slots es) e) k

pub no_item_passes : (s : List ℕ) (h : Here) (es : List ℕ) {e : ℕ} → e ≡ 0 → ItemChecked s h es e (ok tt)
no_item_passes s h es none = record { checks = λ P n S f fs rest st named. rw none refl }

module _ (s : List ℕ) (h : Here) (es : List ℕ) where
  pub one_took : (e : ℕ) → (e ≡ 0 → ⊥) → list_any (λ a. takes_slot a e) es ≡ true → ItemChecked s h es e (stop No.absent)
  one_took zero some t = absurd (some refl)
  one_took (suc w) some t = record { checks = λ P n S f fs rest st named. no_operand_there S.objects _ w (absent_if_any_took es f.slots w t) }

  -- no earlier item took the slot: the operand of word e - 1 sees it as it stands
  pub none_took : (e : ℕ) {k : Res (Unit {0})} → (e ≡ 0 → ⊥) → list_any (λ a. takes_slot a e) es ≡ false → OperandChecked s h (e - 1) k → ItemChecked s h es e k
  none_took zero some none first = absurd (some refl)
  none_took (suc w) {k} some none first =
      let word : suc w - 1 ≡ w = omega arith in
      let own : OperandChecked s h w k = subst (λ x. OperandChecked s h x k) word first in
      record {
        checks = λ P n S f fs rest st named.
            let left = left_by_items f.slots es in
            let same : slot_at left (w / 2) ≡ slot_at f.slots (w / 2) = same_if_none_took es f.slots w none in
            own.checks P n S f fs rest st named ∙ sym (same_slot_same_answer S.objects left f.slots (operand_of w) (rw (slot_of_word w) same)) ∙ then_ok (operand S.objects left (operand_of w)) tt;
      }

-- ---- The items one after the other, each seeing what the earlier ones took

abbrev items_in_order : List Object → List Value → List ℕ → Res (Unit {0})
items_in_order os vs [] = ok tt
items_in_order os vs (e ∷ es) = item_operand os vs e >> items_in_order os (left_by_item vs e) es

no_items_pass : (os : List Object) (vs : List Value) (n m : ℕ) → items_in_order os vs (take n (replicate m 0)) ≡ ok tt
unfolding ◌>>◌ ◌>>=◌
no_items_pass os vs zero m = refl
no_items_pass os vs (suc n) zero = refl
no_items_pass os vs (suc n) (suc m) = no_items_pass os vs n m

-- an operand first: where it passes, the rest goes on from its value and the slots that it leaves
operand_first : {B C : Type 0} (os : List Object) (vs : List Value) (w : Operand) (g : Value × List Value → Res B) (y : Res C)
    → outcome_of (g (slot_at vs (slot_of w), left_by vs w)) ≡ outcome_of y → outcome_of (operand os vs w >>= g) ≡ outcome_of ((operand os vs w >> ok (tt {0})) >> y)
unfolding ◌>>◌ ◌>>=◌
operand_first os vs w g y same = by_bool (passed (outcome_of (operand os vs w)))
    (λ passes. rw (given os vs w passes refl) same)
    (λ fails. sym (stays (operand os vs w) g fails refl) ∙ stays (operand os vs w >> ok (tt {0})) (λ _. y) fails (then_ok (operand os vs w) tt))

operands_are_items : (os : List Object) (vs : List Value) (n m : ℕ) (ws : List Operand) → length ws ≤ n
    → outcome_of (operands os vs ws) ≡ outcome_of (items_in_order os vs (take n (map operand_item ws ++ replicate m 0)))
unfolding operands
operands_are_items os vs n m [] few = rw (no_items_pass os vs n m) refl
operands_are_items os vs zero m (w ∷ ws) few = absurd (omega arith)
operands_are_items os vs (suc n) m (w ∷ ws) few =
    rw (operand_of_word w)
    (operand_first os vs w _ _ (then_gives (operands os (left_by vs w) ws) _ ∙ operands_are_items os (left_by vs w) n m ws (omega arith)))

-- where each item's slot is filled, the items answer k
pub record ItemsChecked (s : List ℕ) (h : Here) (items : List ℕ) (k : Res (Unit {0})) : Type 0 where
  pub checks : (P : Program) (n : ℕ) (S : State) (f : Frame) (fs : List Frame) (rest : List ℕ) → Stand s h P n S f fs rest → Every (λ e. Named (item_slots e) f) items
      → k ≡ outcome_of (items_in_order S.objects f.slots items)

-- what the operands name, their items do
pub items_named : {items : List ℕ} (f : Frame) (ws : List Operand) → items ≡ pad 4 0 (map operand_item ws) → Named (map slot_of ws) f → Every (λ e. Named (item_slots e) f) items
items_named f ws items named =
    rw items
    (every_pad _ 4 0 (map operand_item ws) tt
    (every_image (λ e. Named (item_slots e) f) operand_item ws (every_map (λ w filled. (rw (half_of_word w) filled, tt)) ws (every_mapped (λ i. i < length f.slots) slot_of ws named))))

pub items_for_operands : {s : List ℕ} {h : Here} {items : List ℕ} {k : Res (Unit {0})} → ItemsChecked s h items k → ChecksItems s h items k
unfolding pad
items_for_operands all =
    record {
      checks = λ ws items few. record {
        checks = λ P n S f fs rest st named.
            all.checks P n S f fs rest st (items_named f ws items named)
            ∙ ap (λ es. outcome_of (items_in_order S.objects f.slots es)) items ∙ sym (operands_are_items S.objects f.slots 4 4 ws few);
      };
    }

-- where the first items pass, the rest goes on from the slots that they leave
rest_goes_on : (os : List Object) (vs : List Value) (es rest : List ℕ) → ok tt ≡ outcome_of (items_in_order os vs es)
    → outcome_of (items_in_order os vs (es ++ rest)) ≡ outcome_of (items_in_order os (left_by_items vs es) rest)
unfolding ◌>>=◌ ◌>>◌
rest_goes_on os vs [] rest passes = refl
rest_goes_on os vs (e ∷ es) rest passes = by_bool (passed (outcome_of (item_operand os vs e)))
    (λ first. goes_on (item_operand os vs e) _ first refl ∙ rest_goes_on os (left_by_item vs e) es rest (passes ∙ goes_on (item_operand os vs e) _ first refl))
    (λ fails. no_both (ok tt) refl (ap passed (passes ∙ sym (stays (item_operand os vs e) _ fails refl)) ∙ fails))

-- the first i items pass
pub record ItemsGo (s : List ℕ) (h : Here) (items : List ℕ) (i : ℕ) : Type 0 where
  pub go : (P : Program) (n : ℕ) (S : State) (f : Frame) (fs : List Frame) (rest : List ℕ) → Stand s h P n S f fs rest → Every (λ e. Named (item_slots e) f) items
      → ok tt ≡ outcome_of (items_in_order S.objects f.slots (take i items))

pub none_yet : (s : List ℕ) (h : Here) (items : List ℕ) → ItemsGo s h items 0
none_yet s h items = record { go = λ P n S f fs rest st named. refl }

pub all_pass : {s : List ℕ} {h : Here} (items : List ℕ) (i : ℕ) → length items ≤ i → ItemsGo s h items i → ItemsChecked s h items (ok tt)
all_pass items i past all =
    record { checks = λ P n S f fs rest st named. all.go P n S f fs rest st named ∙ ap (λ es. outcome_of (items_in_order S.objects f.slots es)) (take_all i items past) }

-- item e is that of number i
module _ {s : List ℕ} {h : Here} (items : List ℕ) (i : ℕ) (there : i < length items) (so-far : ItemsGo s h items i) where
  pub one_passes : ItemChecked s h (take i items) (get_or items i 0) (ok tt) → ItemsGo s h items (i + 1)
  one_passes own =
      record {
        go = λ P n S f fs rest st named.
            own.checks P n S f fs rest st (every_at (λ e. Named (item_slots e) f) items i 0 there named) ∙ then_ok (item_operand S.objects (left_by_items f.slots (take i items)) (get_or items i 0)) tt
            ∙ sym (rest_goes_on S.objects f.slots (take i items) (get_or items i 0 ∷ []) (so-far.go P n S f fs rest st named))
            ∙ ap (λ es. outcome_of (items_in_order S.objects f.slots es)) (sym (take_more items i 0 there));
      }

  pub one_ends : {n : ℕ} → ItemChecked s h (take i items) (get_or items i 0) (stop n) → ItemsChecked s h items (stop n)
  unfolding ◌>>◌
  one_ends own =
      record {
        checks = λ P n S f fs rest st named.
            stays (item_operand S.objects (left_by_items f.slots (take i items)) (get_or items i 0)) _ refl (own.checks P n S f fs rest st (every_at (λ e. Named (item_slots e) f) items i 0 there named))
            ∙ sym (rest_goes_on S.objects f.slots (take i items) (drop i items) (so-far.go P n S f fs rest st named) ∙ ap (λ es. outcome_of (items_in_order S.objects (left_by_items f.slots (take i items)) es)) (drop-cons items i 0 there))
            ∙ ap (λ es. outcome_of (items_in_order S.objects f.slots es)) (take-append-drop i items);
      }

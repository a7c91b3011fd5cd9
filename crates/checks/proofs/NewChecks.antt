-- The checks of new: where its operands pass, the values that they give are what stood in their slots, and the rest of the rule asks those values alone.
use Prim.Native.Nat.{ℕ, zero, suc, ◌-◌, ◌/◌, ◌%◌, ◌<◌}
use native.Mathlib.Omega.{arith}
use mathlib.Core.Path.{◌≡◌, refl, sym, ap, ◌∙◌, subst}
use mathlib.Core.Bool.{true, false}
use mathlib.Core.List.{List, [], ◌∷◌, map}
use lib.ListN.{length, get_or, length-map}
use Rattle.rules.specs.declared.Cap.{Cap}
use Rattle.rules.specs.declared.Value.{Value}
use Rattle.rules.specs.declared.Value.TheVariants.{Absent, Obj, Chan}
use Rattle.rules.specs.Mosts.{mosts}
use Rattle.rules.specs.Lists.{pad, Every}
use Rattle.rules.specs.Script.{Operand, reads, takes, Program}
use Rattle.rules.specs.Reading.{slot_of}
use Rattle.rules.specs.State.{Object, Frame, State, slot_at}
use Rattle.rules.specs.Tables.{operand_item}
use Rattle.rules.specs.Turn as R
use Rattle.rules.specs.Turn.{Res, ok, ◌>>=◌, ◌>>◌, check, permit, is_absent, present, operand, operands, all_objects, objects_of, object, new_line, left_by}
use Rattle.rules.proofs.ListLaws.{by_bool, every_map, every_image, every_mapped, map_pad}
use Rattle.rules.proofs.TableWords.{half_of_word}
use Rattle.rules.proofs.Moves.{left_was_there}
use Rattle.table.specs.declared.standing.Here.{Here}
use Rattle.table.specs.StateTable.{InTable, Sees, frame_at}
use Rattle.checks.specs.Checked.{outcome_of, passed, InObjects, here_at, Stand, Named}
use Rattle.checks.specs.NewItems.{hold_all, item_slots, item_value, AllInObjects, ChecksItems, ItemsRead, ChecksHeld, ChecksNew}
use Rattle.checks.proofs.CheckLaws.{stays, then_ok, then_gives, same_after, given, no_both}
use Rattle.checks.proofs.Standing.{SlotSeen, frame_is, slots_few, slot_in_table, slot_in_objects}
use Rattle.checks.proofs.ItemChecks.{items_named}
use Rattle.checks.proofs.HeldChecks.{AllThere}

-- ---- What the operands give

past_present : {B : Type 0} (v : Value) (g : Value → Res B) {k : Res (Unit {0})} → passed k ≡ true → k ≡ outcome_of (present v >>= g) → is_absent v ≡ false
unfolding present is_absent ◌>>=◌
past_present Absent g {k = k} passes e = no_both k passes (ap passed e)
past_present (Obj n) g passes e = refl
past_present (Chan c) g passes e = refl

-- an operand that passes finds its slot filled
found_there : (os : List Object) (vs : List Value) (w : Operand) {k : Res (Unit {0})} → passed k ≡ true → k ≡ outcome_of (operand os vs w) → is_absent (slot_at vs (slot_of w)) ≡ false
unfolding operand
found_there os vs (reads s) passes e = past_present (slot_at vs s) _ passes e
found_there os vs (takes s) passes e = past_present (slot_at vs s) _ passes e

-- what stood in the operands' slots
abbrev pub slots_of : List Value → List Operand → List Value
slots_of vs ws = map (λ w. slot_at vs (slot_of w)) ws

-- what an operand leaves to the later ones stood there before
pub were_there : (vs : List Value) (w : Operand) (ws : List Operand) → AllThere (slots_of (left_by vs w) ws) → slots_of (left_by vs w) ws ≡ slots_of vs ws
were_there vs w [] there = refl
were_there vs w (x ∷ ws) there = rw (left_was_there vs w (slot_of x) there.0 refl, were_there vs w ws there.1) refl

-- operands that pass give what stood in their slots
record AllGiven (os : List Object) (vs : List Value) (ws : List Operand) : Type 0 where
  left : List Value
  gives : operands os vs ws ≡ ok (slots_of vs ws, left)
  there : AllThere (slots_of vs ws)

one_more : (os : List Object) (vs : List Value) (w : Operand) (ws : List Operand) → operand os vs w ≡ ok (slot_at vs (slot_of w), left_by vs w) → is_absent (slot_at vs (slot_of w)) ≡ false
    → AllGiven os (left_by vs w) ws → AllGiven os vs (w ∷ ws)
unfolding operands ◌>>=◌
one_more os vs w ws gave there rest =
    let same = were_there vs w ws rest.there in
    record { left = rest.left; gives = rw (gave, rest.gives, same) refl; there = (there, subst AllThere same rest.there) }

all_given : (os : List Object) (vs : List Value) (ws : List Operand) {k : Res (Unit {0})} → passed k ≡ true → k ≡ outcome_of (operands os vs ws) → AllGiven os vs ws
unfolding operands ◌>>=◌
all_given os vs [] passes e = record { left = vs; gives = refl; there = tt }
all_given os vs (w ∷ ws) {k} passes e = by_bool (passed (outcome_of (operand os vs w)))
    (λ first. let gave = given os vs w first refl in
    one_more os vs w ws gave (found_there os vs w first refl) (all_given os (left_by vs w) ws passes ((rw gave at e) ∙ then_gives (operands os (left_by vs w) ws) _)))
    (λ fails. no_both k passes (ap passed e ∙ ap passed (sym (stays (operand os vs w) _ fails refl)) ∙ fails))

-- ---- An item's value, as it is seen

abbrev pub ItemSeen : List ℕ → Here → (e : ℕ) → Value → Type 0
ItemSeen s h e v =
    Sees s (λ S. Every (λ i. (i < 16) × InTable (slot_at (frame_at S h.thread h.depth).slots i)) (item_slots e)) (λ S. item_value (frame_at S h.thread h.depth).slots e) v

pub no_item_seen : (s : List ℕ) (h : Here) {e : ℕ} → e ≡ 0 → ItemSeen s h e Absent
no_item_seen s h none = record { sees = λ S rest held there. rw none refl }

pub item_seen : {s : List ℕ} (h : Here) (e : ℕ) {r : ℕ} {v : Value} → (e ≡ 0 → ⊥) → r ≡ (e - 1) / 2 % 16 → SlotSeen s h r v → ItemSeen s h e v
item_seen h zero some place seen = absurd (some refl)
item_seen h (suc w) {r} some place seen =
    record {
      sees = λ S rest held there.
          let vs = (frame_at S h.thread h.depth).slots in
          let at : r ≡ w / 2 = omega (arith, place, there.0.0) in
          seen.sees S rest held (subst (λ i. InTable (slot_at vs i)) (sym at) there.0.1) ∙ ap (slot_at vs) at;
    }

item_read : {s : List ℕ} {h : Here} {P : Program} {n : ℕ} {S : State} {f : Frame} {fs : List Frame} {rest : List ℕ} → Stand s h P n S f fs rest
    → (e : ℕ) {v : Value} → ItemSeen s h e v → Named (item_slots e) f → v ≡ item_value f.slots e
item_read {S = S} {f = f} {rest = rest} st e seen named =
    seen.sees S rest st.held (every_map (λ i filled. (omega (arith, slots_few st, filled), rw (frame_is st) (slot_in_table st i))) (item_slots e) named)
    ∙ ap (λ g. item_value g.slots e) (frame_is st)

items_values : (vs : List Value) (ws : List Operand) → map (item_value vs) (map operand_item ws) ≡ slots_of vs ws
items_values vs [] = refl
items_values vs (w ∷ ws) = rw (half_of_word w, items_values vs ws) refl

-- the values of four items are those of the operands' slots
values_read : {s : List ℕ} {h : Here} {P : Program} {n : ℕ} {S : State} {f : Frame} {fs : List Frame} {rest : List ℕ} → Stand s h P n S f fs rest
    → {a b c d : ℕ} {va vb vc vd : Value} → ItemSeen s h a va → ItemSeen s h b vb → ItemSeen s h c vc → ItemSeen s h d vd
    → (ws : List Operand) → a ∷ b ∷ c ∷ d ∷ [] ≡ pad 4 0 (map operand_item ws) → Named (map slot_of ws) f → va ∷ vb ∷ vc ∷ vd ∷ [] ≡ pad 4 Absent (slots_of f.slots ws)
values_read {f = f} st {a} {b} {c} {d} seen-a seen_b seen-c seen-d ws is named =
    let each = items_named f ws is named in
    rw (item_read st a seen-a each.0, item_read st b seen_b each.1.0, item_read st c seen-c each.1.1.0, item_read st d seen-d each.1.1.1.0)
    (ap (map (item_value f.slots)) is ∙ map_pad (item_value f.slots) 4 0 (map operand_item ws) ∙ ap (pad 4 Absent) (items_values f.slots ws))

pub four_there : {A : Type 0} (d : A) (xs : List A) → length xs ≡ 4 → xs ≡ get_or xs 0 d ∷ get_or xs 1 d ∷ get_or xs 2 d ∷ get_or xs 3 d ∷ []
four_there d [] four = absurd (omega arith)
four_there d (a ∷ []) four = absurd (omega arith)
four_there d (a ∷ b ∷ []) four = absurd (omega arith)
four_there d (a ∷ b ∷ c ∷ []) four = absurd (omega arith)
four_there d (a ∷ b ∷ c ∷ e ∷ []) four = refl
four_there d (a ∷ b ∷ c ∷ e ∷ x ∷ xs) four = absurd (omega arith)

pub items_read : {s : List ℕ} {h : Here} (items : List ℕ) → length items ≡ 4 → {va vb vc vd : Value}
    → ItemSeen s h (get_or items 0 0) va → ItemSeen s h (get_or items 1 0) vb → ItemSeen s h (get_or items 2 0) vc → ItemSeen s h (get_or items 3 0) vd
    → ItemsRead s h items (va ∷ vb ∷ vc ∷ vd ∷ [])
items_read items four seen-a seen_b seen-c seen-d =
    record { read = λ ws is P n S f fs rest st named. values_read st seen-a seen_b seen-c seen-d ws (sym (four_there 0 items four) ∙ is) named }

-- ---- new

-- past its operands it is the checks of its values, and then it cannot fail
new_checks_values : (H : R.Here) (k : Cap) (kind : ℕ) (ws : List Operand) (us left : List Value) → operands (objects_of H) H.frame.slots ws ≡ ok (us, left)
    → outcome_of (hold_all H.self k H.state us) ≡ outcome_of (new_line mosts H k kind ws)
unfolding new_line hold_all object ◌>>=◌ ◌>>◌
new_checks_values H k kind ws us left gives = rw gives (same_after (all_objects us) _ _ λ ns. same_after (permit _ _ _) _ _ λ _. then_ok (check _ _) _)

module _ {s : List ℕ} {h : Here} (k : Cap) {items : List ℕ} {first : Res (Unit {0})} (checked : ChecksItems s h items first) where
  pub new_no_operands : passed first ≡ false → ChecksNew s h k items first
  unfolding new_line
  new_no_operands fails =
      record {
        checks = λ ws is few kind. record { checks = λ P n S f fs rest st named. stays _ _ fails ((checked.checks ws is few).checks P n S f fs rest st named) };
      }

  pub new_of_values : {values : List Value} {r : Res (Unit {0})} → passed first ≡ true → ItemsRead s h items values → ChecksHeld s h.thread k values r → ChecksNew s h k items r
  new_of_values passes read held =
      record {
        checks = λ ws is few kind. record {
          checks = λ P n S f fs rest st named.
              let gave = all_given S.objects f.slots ws passes ((checked.checks ws is few).checks P n S f fs rest st named) in
              let us = slots_of f.slots ws in
              let values = read.read ws is P n S f fs rest st named in
              let made : AllInObjects us S = every_image (λ v. InObjects v S) _ ws (every_map (λ w filled. slot_in_objects st (slot_of w)) ws (every_mapped _ slot_of ws named)) in
              (held.checks us values (omega (arith, few, length-map ws (λ w. slot_at f.slots (slot_of w)))) gave.there).sees S rest st.held made
              ∙ new_checks_values (here_at S h.thread f fs) k kind ws us gave.left gave.gives;
        };
      }

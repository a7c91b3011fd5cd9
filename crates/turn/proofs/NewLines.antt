-- The line that makes an object: its fields are what stood in the operands' slots, the object is given and held, then each operand's slot is left in order.
use Prim.Native.Nat.{ℕ, zero, suc, ◌+◌, ◌-◌, ◌%◌, ◌≤◌, ◌<◌}
use native.Mathlib.Nat.{mod-eq_of_lt}
use native.Mathlib.Omega.{arith}
use mathlib.Core.Path.{◌≡◌, refl, ap, ◌∙◌, subst}
use mathlib.Core.Bool.{false}
use mathlib.Core.List.{List, [], ◌∷◌, ◌++◌, map}
use lib.ListN.{length, get_or, take, replicate}
use Rattle.std.proofs.lemmas.List.{take_more, take_all}
use Rattle.rules.specs.declared.Cap.{Cap}
use Rattle.rules.specs.declared.Value.{Value}
use Rattle.rules.specs.declared.Value.TheVariants.{Absent, Obj}
use Rattle.rules.specs.Mosts as Most
use Rattle.rules.specs.Mosts.{mosts}
use Rattle.rules.specs.Lists.{pad, Every}
use Rattle.rules.specs.Script.{Operand, Program, new, bind, line_at, rank, block_at}
use Rattle.rules.specs.Reading.{slot_of}
use Rattle.rules.specs.State.{Object, Frame, State, ready, slot_at}
use Rattle.rules.specs.Tables.{operand_item}
use Rattle.rules.specs.Turn.{Res, ok, is_absent, left_by, put_thread, filled, gives, let_line, perform}
use Rattle.rules.specs.Holders.{holders}
use Rattle.rules.specs.HolderChanges.{operand_gained, operands_gained, let_gained, line_gained, line_lost}
use Rattle.rules.proofs.ListLaws.{every_map, every_image, length_snoc}
use Rattle.rules.proofs.Moves.{GaveAll, no_more, one_more, Step, by_new}
use Rattle.rules.proofs.Keeps.{kind_ok}
use Rattle.rules.proofs.TableWords.{operand_of_word, half_of_word}
use Rattle.table.specs.declared.standing.Here.{Here}
use Rattle.table.specs.StateTable.{Counted, Sees, Any, Becomes, HasSlot, HasRoom, Makes, given, made, raised, all_raised, Counts}
use Rattle.std.specs.Prelude.{Result, Ok}
use Rattle.std.specs.Result.{IsErrAnd}
use Rattle.checks.specs.declared.form_checks.Halt.{Halt}
use Rattle.checks.specs.Checked.{halted, here_at, Stand, Named}
use Rattle.checks.specs.NewItems.{ItemsRead, ChecksNew}
use Rattle.checks.proofs.NewChecks.{slots_of, were_there}
use Rattle.turn.specs.Performed.{item_emptied, Leaves, LeavesItem, Went, to_next, Always, PerformsNew}
use Rattle.turn.proofs.SlotLines.{kept_gained}
use Rattle.turn.proofs.Settled.{Written, only_gained, raised_append}
use Rattle.turn.proofs.TurnSteps.{Answers, Writes, line_hands_on, line_moves, operand_names, let_names, let_room, line_few}
use Rattle.turn.proofs.Frames.{Inside, inside, inside_objects, has_room, has_slot, stands_put, inside_put, given_inside, filled_then_emptied}
use Rattle.turn.specs.declared.Move.{Move}
use Rattle.turn.specs.declared.Move.TheVariants.{Next}

-- ---- What an item leaves

pub no_item_left : {s : List ℕ} (t k : ℕ) {e : ℕ} {v : Value} → e ≡ 0 → LeavesItem t k e v s s
unfolding item_emptied all_raised
no_item_left t k none = record { leaves = λ S rest held there. rw none held }

pub item_left : {s s₁ : List ℕ} (t k e : ℕ) {v : Value} → (e ≡ 0 → ⊥) → Leaves t k (e - 1) v s s₁ → LeavesItem t k e v s s₁
unfolding item_emptied
item_left t k zero some leaves = absurd (some refl)
item_left {s} {s₁} t k (suc w) {v} some leaves =
    let word : suc w - 1 ≡ w = omega arith in
    let own = subst (λ x. Leaves t k x v s s₁) word leaves in
    record { leaves = λ S rest held there. own.leaves S rest held there.0.0 there.0.1 }

-- the items, of these values, one after the other
pub data ItemsLeft (t k : ℕ) : (items : List ℕ) (values : List Value) (s s₁ : List ℕ) → Type 0 where
  none_left : {s : List ℕ} → ItemsLeft t k [] [] s s
  then_left : {e : ℕ} {v : Value} {es : List ℕ} {vs : List Value} {s s₁ s₂ : List ℕ} → LeavesItem t k e v s s₁ → ItemsLeft t k es vs s₁ s₂ → ItemsLeft t k (e ∷ es) (v ∷ vs) s s₂

pub left_more : {t k : ℕ} (items : List ℕ) (values : List Value) {s s₁ s₂ : List ℕ} (i : ℕ) → i < length items → i < length values → ItemsLeft t k (take i items) (take i values) s s₁
    → LeavesItem t k (get_or items i 0) (get_or values i Absent) s₁ s₂ → ItemsLeft t k (take (i + 1) items) (take (i + 1) values) s s₂
left_more items values i there also before last = rw (take_more items i 0 there, take_more values i Absent also) (one_left before last)
  where
    one_left : {t k e : ℕ} {v : Value} {es : List ℕ} {vs : List Value} {s s₁ s₂ : List ℕ} → ItemsLeft t k es vs s s₁ → LeavesItem t k e v s₁ s₂ → ItemsLeft t k (es ++ (e ∷ [])) (vs ++ (v ∷ [])) s s₂
    one_left none_left last = then_left last none_left
    one_left (then_left first before) last = then_left first (one_left before last)

pub none_left_yet : {s : List ℕ} (t k : ℕ) (items : List ℕ) (values : List Value) → ItemsLeft t k (take 0 items) (take 0 values) s s
none_left_yet t k items values = none_left

pub all_left : {t k : ℕ} (items : List ℕ) (values : List Value) {s s₁ : List ℕ} (i : ℕ) → length items ≤ i → length values ≤ i → ItemsLeft t k (take i items) (take i values) s s₁
    → ItemsLeft t k items values s s₁
all_left items values i past also left = rw (take_all i items past, take_all i values also) at left

-- ---- What the operands gave

all_there : {os : List Object} {vs us left : List Value} {ws : List Operand} → GaveAll os vs ws us left → Every (λ u. is_absent u ≡ false) us
all_there no_more = tt
all_there (one_more gave rest) = (gave.there, all_there rest)

-- what stood in their slots
gave_what_stood : {os : List Object} {vs us left : List Value} {ws : List Operand} → GaveAll os vs ws us left → us ≡ slots_of vs ws
gave_what_stood no_more = refl
gave_what_stood {vs = vs} (one_more {next = next} {us = us} {w = w} {ws = ws} {v = v} gave rest) =
    let later : us ≡ slots_of (left_by vs w) ws = gave_what_stood rest ∙ ap (λ (l : List Value). slots_of l ws) gave.slots in
    let same = were_there vs w ws (subst (Every (λ u. is_absent u ≡ false)) later (all_there rest)) in
    rw (gave.value, ← same, ← later) refl

-- ---- The slots left, one after the other

-- in the state R frame f of thread t, whose callers are fs, has moved to its next line, with the slots vs and the value v
module _ (R : State) (t : ℕ) (f : Frame) (fs : List Frame) (v : Value) (rest : List ℕ) where
  abbrev Gives : List ℕ → (ℕ → ℕ) → List Value → Type 0
  Gives s N vs = Counted s N (put_thread R t (filled f vs v ∷ fs) ready) rest

  module _ {k : ℕ} (thread : t < length R.threads) (depth : length fs ≡ k) where
    no_operands_left : (n m : ℕ) {s s₁ : List ℕ} {N : ℕ → ℕ} (vs : List Value) → ItemsLeft t k (take n (replicate m 0)) (take n (replicate m Absent)) s s₁ → Gives s N vs → Gives s₁ N vs
    unfolding item_emptied all_raised
    no_operands_left zero m vs none_left held = held
    no_operands_left (suc n) zero vs none_left held = held
    no_operands_left (suc n) (suc m) vs (then_left first more) held = no_operands_left n m vs more (first.leaves _ rest held tt)

    operand_left : {s s₁ : List ℕ} {N : ℕ → ℕ} (vs : List Value) (w : Operand) → LeavesItem t k (operand_item w) (slot_at vs (slot_of w)) s s₁ → slot_of w < length vs → length vs < Most.slots
        → Gives s N vs → Gives s₁ (all_raised (operand_gained vs w) N) (left_by vs w)
    unfolding item_emptied filled
    operand_left {s} {s₁} {N} vs w leaves there room held =
        let now-in : Inside t k (filled f vs v) fs (put_thread R t (filled f vs v ∷ fs) ready) = inside_put R ready thread depth in
        let more : slot_of w < length (vs ++ (v ∷ [])) = omega (arith, there, length_snoc vs v) in
        let has : (slot_of w < 16) × HasSlot t k (slot_of w) (put_thread R t (filled f vs v ∷ fs) ready) = (omega (arith, there, room), has_slot now-in (slot_of w) more) in
        subst (λ (S : State). Counted s₁ (all_raised (operand_gained vs w) N) S rest) (filled_then_emptied R t k f fs vs v w thread depth there)
        (rw (operand_of_word w, kept_gained vs w refl) at (leaves.leaves _ rest held (rw (half_of_word w) (has, tt))))

    operands_left : {os : List Object} (n m : ℕ) {s s₁ : List ℕ} {N : ℕ → ℕ} {vs us left : List Value} {ws : List Operand} → GaveAll os vs ws us left → length ws ≤ n
        → ItemsLeft t k (take n (map operand_item ws ++ replicate m 0)) (take n (us ++ replicate m Absent)) s s₁ → Every (λ w. slot_of w < length vs) ws → length vs < Most.slots
        → Gives s N vs → Gives s₁ (all_raised (operands_gained vs ws) N) left
    unfolding operands_gained all_raised
    operands_left n m {vs = vs} no_more few leaves there room held = no_operands_left n m vs leaves held
    operands_left zero m (one_more gave more) few leaves there room held = absurd (omega arith)
    operands_left (suc n) m {s₁ = s₁} {N} {vs} {us} {left} (one_more {next = next} {w = w} {ws = ws} gave others) few (then_left {s₁ = s₂} first more) there room held =
        let M : ℕ → ℕ = all_raised (operand_gained vs w) N in
        let now-left : Gives s₂ M next = rw gave.slots (operand_left vs w (rw gave.value first) there.0 room held) in
        let last = operands_left n m others (omega arith) more (every_map (λ w below. rw gave.count below) ws there.1) (rw gave.count room) now-left in
        rw (raised_append (operand_gained vs w) (operands_gained (left_by vs w) ws) N, ← gave.slots) last

-- ---- What a new says of its operands

module _ {s : List ℕ} {h : Here} {P : Program} {n : ℕ} {S : State} {f : Frame} {fs : List Frame} {rest : List ℕ} (st : Stand s h P n S f fs rest)
    {c : Cap} {kind : ℕ} (ws : List Operand) (at_line : line_at P f.block f.line ≡ bind (new c kind ws)) where
  operands_few : length ws ≤ 4
  operands_few = let of-kind = (let_names st at_line).0 in omega (arith, of-kind.fields, (kind_ok mosts P st.valid kind of-kind.there).few_fields)

  operands_named : Every (λ w. slot_of w < length f.slots) ws
  operands_named = every_map (operand_names (block_at P f.block).sort (length f.slots)) ws (let_names st at_line).1

-- ---- The line whose operands are these items, whose check is k

module _ {s : List ℕ} {h : Here} {c : Cap} {items : List ℕ} {k : Res (Unit {0})} (kind : ℕ) (checked : ChecksNew s h c items k) where
  pub new_answers : (ws : List Operand) → items ≡ pad 4 0 (map operand_item ws) → Answers Always s h (bind (new c kind ws)) k
  unfolding perform let_line
  new_answers ws is =
      record {
        answers = λ P n S f fs rest q st at_line.
            let named : Named (map slot_of ws) f = every_image (λ i. i < length f.slots) slot_of ws (operands_named st ws at_line) in
            (checked.checks ws is (operands_few st ws at_line) kind).checks P n S f fs rest st named;
      }

pub new_hands_on : {s : List ℕ} {h : Here} {c : Cap} {items : List ℕ} {r : Result Move Halt} (kind : ℕ) (e : Halt) → IsErrAnd r (λ i. i ≡ e) → ChecksNew s h c items (halted e)
    → PerformsNew s h c kind items r s
new_hands_on kind e is checked = record { performs = λ ws items-are. line_hands_on e is (new_answers kind checked ws items-are) }

-- object n is made of the values of the items, it is given and held, then the slots of the items are left
module _ {s s₁ s₂ s₃ s₄ : List ℕ} {h : Here} {c : Cap} {kind count n cap : ℕ} {items : List ℕ} {values : List Value}
    (read : ItemsRead s h items values) (counted : Sees s Any (λ S. length S.objects) count) (next : n ≡ count % 256) (ranked : cap ≡ rank c)
    (makes : Makes h.thread n cap kind values s s₁)
    (gives-object : Becomes s₁ (HasRoom h.thread h.depth) (given h.thread h.depth (Obj n)) s₂) (holds : Counts (raised (Obj n)) s₂ s₃)
    (leaves : ItemsLeft h.thread h.depth items values s₃ s₄) where
  module _ {P : Program} {m : ℕ} {S : State} {f : Frame} {fs : List Frame} {rest : List ℕ} (st : Stand s h P m S f fs rest)
      (ws : List Operand) (is : items ≡ pad 4 0 (map operand_item ws)) (at_line : line_at P f.block f.line ≡ bind (new c kind ws)) where
    abbrev stood : List Value
    stood = slots_of f.slots ws

    -- the object that is made, and its value
    abbrev new_object : Object
    new_object = record { cap = c; kind = kind; creator = h.thread; fields = stood }

    abbrev new_value : Value
    new_value = Obj (length S.objects)

    values_stood : values ≡ pad 4 Absent stood
    values_stood = read.read ws is P m S f fs rest st (every_image (λ i. i < length f.slots) slot_of ws (operands_named st ws at_line))

    object_number : length S.objects < 256 → n ≡ length S.objects
    object_number room = let is-count = counted.sees S rest st.held tt in next ∙ ap (λ i. i % 256) is-count ∙ mod-eq_of_lt room

    object_given : n ≡ length S.objects
        → Counted s₃ (raised new_value (holders S)) (put_thread (made new_object S) h.thread (filled f f.slots new_value ∷ fs) ready) rest
    unfolding made
    object_given number =
        let R = made new_object S in
        let here : Inside h.thread h.depth f fs R = inside_objects _ (inside st) in
        let is_made = (makes.makes c stood ranked values_stood).becomes S rest st.held number in
        let held = holds.counts _ rest (gives-object.becomes R rest is_made (has_room here (let_room st at_line) (line_few st))) in
        subst (λ (T : State). Counted s₃ (raised new_value (holders S)) T rest) (given_inside here new_value)
        (subst (λ i. Counted s₃ (raised (Obj i) (holders S)) (given h.thread h.depth (Obj i) R) rest) number held)

    new_moved : {S₁ : State} → Step mosts P (here_at S h.thread f fs) (bind (new c kind ws)) S₁
        → Written s₄ S (new_value ∷ operands_gained f.slots ws) [] S₁ rest × Went h.thread f fs S₁ Next
    unfolding gives filled made pad all_raised
    new_moved (by_new c kind ws ns vs found) =
        let R = made new_object S in
        let here : Inside h.thread h.depth f fs R = inside_objects _ (inside st) in
        let gave : GaveAll S.objects f.slots ws stood vs = rw (← gave_what_stood found.gave) found.gave in
        let leaves_all : ItemsLeft h.thread h.depth (pad 4 0 (map operand_item ws)) (pad 4 Absent stood) s₃ s₄ = rw (← is, ← values_stood) leaves in
        let first = object_given (object_number found.room) in
        let last = operands_left R h.thread f fs new_value rest here.thread here.depth 4 4 gave (operands_few st ws at_line) leaves_all (operands_named st ws at_line) (let_room st at_line) first in
        rw (gave_what_stood found.gave) (only_gained (new_value ∷ operands_gained f.slots ws) last, to_next (stands_put R _ fs ready here.thread))

  new_writes : (ws : List Operand) → items ≡ pad 4 0 (map operand_item ws) → Writes Always s h (bind (new c kind ws)) Next s₄
  unfolding line_gained let_gained line_lost
  new_writes ws is = record { writes = λ P n S f fs rest q st few at_line S₁ step. new_moved st ws is at_line step }

  pub new_moves : ChecksNew s h c items (ok tt) → PerformsNew s h c kind items (Ok Next) s₄
  new_moves checked = record { performs = λ ws is. line_moves (new_answers kind checked ws is) (new_writes ws is) }

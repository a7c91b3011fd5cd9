-- The copies, one after the other: a source stands before all copies, so that it reads the same however many are made; the fields of each copy are held
-- once it is made.
use Prim.Native.Nat.{ℕ, suc, ◌+◌, ◌%◌, ◌≤◌, ◌<◌}
use native.Mathlib.Nat.{mod-eq_of_lt}
use native.Mathlib.Numerals.{add-one}
use native.Mathlib.Omega.{arith}
use mathlib.Core.Path.{◌≡◌, refl, sym, ap, ◌∙◌, subst}
use mathlib.Core.Bool.{Bool}
use mathlib.Core.List.{List, [], ◌∷◌, ◌++◌, map, map-append, append_assoc, append-nil}
use lib.ListN.{length, get_or, take, length-append, length-map, get_or-append, get_or-map}
use lib.Seq.{take-suc, length-take-le}
use Rattle.rules.specs.declared.Cap.{Cap}
use Rattle.rules.specs.declared.Value.{Value}
use Rattle.rules.specs.declared.Value.TheVariants.{Absent}
use Rattle.rules.specs.Lists.{pad, any, Every}
use Rattle.rules.specs.State.{Object, State, no_object, object_at, slot_at}
use Rattle.rules.specs.Turn.{is_foreign, put_objects}
use Rattle.rules.proofs.ListLaws.{every_map, every_parts}
use Rattle.std.proofs.lemmas.List.{take_more, take_all}
use Rattle.checks.proofs.AnySeen.{SeenAs}
use Rattle.table.specs.StateTable.{Counted, Sees, FieldIn, Makes, made, recount, raised, all_raised, Counts}
use Rattle.checks.specs.Checked.{Made, Fielded}
use Rattle.checks.proofs.Standing.{field_in}
use Rattle.turn.proofs.Settled.{raised_append}
use Rattle.turn.specs.Copied.{AllMade, renamed_by, copied_by, one_copied, all_copied, fields_copied, CanCopy, CanCopyAll, CopiesOne, CopiesAll}
use Rattle.turn.proofs.TurnSteps.{four_by_place}

-- ---- Whether any of the objects met is foreign

abbrev pub foreign_in : ℕ → State → ℕ → Bool
foreign_in t S i = is_foreign t (object_at S.objects i)

-- there, and so it has a place in the table
abbrev pub Placed : ℕ → State → Type 0
Placed i S = (length S.objects ≤ 256) × Made i S

pub number_seen : {s : List ℕ} {b : Bool} (t i : ℕ) → Sees s (Made (i % 256)) (λ S. foreign_in t S (i % 256)) b → SeenAs s Placed (foreign_in t) b i
number_seen t i seen =
    record {
      sees = λ S rest held there.
          let same : i % 256 ≡ i = mod-eq_of_lt (omega (arith, there.0, there.1)) in
          rw same at (seen.sees S rest held (rw same there.1));
    }

pub met_seen : {s : List ℕ} {b : Bool} (t : ℕ) (order : List ℕ) → Sees s (λ S. Every (λ i. Placed i S) order) (λ S. any (foreign_in t S) order) b
    → Sees s (AllMade order) (λ S. any (foreign_in t S) order) b
met_seen t order seen = record { sees = λ S rest held there. seen.sees S rest held (every_map (λ i made. (there.few, made)) order there.made) }

-- ---- One copy

-- field j, read and renamed
abbrev pub FieldCopied : (s places : List ℕ) → (first o j : ℕ) → Value → Type 0
FieldCopied s places first o j v = Sees s (λ S. FieldIn o j S) (λ S. renamed_by places first (slot_at (object_at S.objects o).fields j)) v

-- what is absent is held by nothing
four_raised : (vs : List Value) (N : ℕ → ℕ) → length vs ≤ 4 → all_raised (pad 4 Absent vs) N ≡ all_raised vs N
unfolding all_raised recount pad
four_raised [] N few = refl
four_raised (a ∷ []) N few = refl
four_raised (a ∷ b ∷ []) N few = refl
four_raised (a ∷ b ∷ c ∷ []) N few = refl
four_raised (a ∷ b ∷ c ∷ d ∷ []) N few = refl
four_raised (a ∷ b ∷ c ∷ d ∷ e ∷ vs) N few = absurd (omega arith)

pub none_held : (s : List ℕ) (vs : List Value) → Counts (all_raised (take 0 vs)) s s
unfolding all_raised
none_held s vs = record { counts = λ S rest held. held }

pub one_more_held : {s s₁ s₂ : List ℕ} (vs : List Value) (i : ℕ) → i < length vs → Counts (all_raised (take i vs)) s s₁ → Counts (raised (get_or vs i Absent)) s₁ s₂
    → Counts (all_raised (take (i + 1) vs)) s s₂
unfolding all_raised
one_more_held vs i there before last = record {
  counts = λ {N} S rest held. rw (take_more vs i Absent there, raised_append (take i vs) (get_or vs i Absent ∷ []) N) (last.counts S rest (before.counts S rest held));
}

pub all_held : {s s₁ : List ℕ} (vs : List Value) (i : ℕ) → length vs ≤ i → Counts (all_raised (take i vs)) s s₁ → Counts (all_raised vs) s s₁
all_held vs i past held = rw (take_all i vs past) at held

-- four fields, of which those that the object does not have are absent; each is held
pub copy_made : {s s₁ s₂ : List ℕ} {t n cap kind : ℕ} {a b c d : Value} (places : List ℕ) (first o : ℕ)
    → Sees s (λ S. o < length S.objects) (λ S. (object_at S.objects o).kind) kind
    → FieldCopied s places first o 0 a → FieldCopied s places first o 1 b → FieldCopied s places first o 2 c → FieldCopied s places first o 3 d
    → Makes t n cap kind (a ∷ b ∷ c ∷ d ∷ []) s s₁ → Counts (all_raised (a ∷ b ∷ c ∷ d ∷ [])) s₁ s₂ → CopiesOne t cap places first n o s s₂
unfolding one_copied slot_at
copy_made {s₁ = s₁} {s₂ = s₂} {t = t} {a = a} {b = b} {c = c} {d = d} places first o is_kind is-a is_b is_c is-d makes holds =
    record {
      copies = λ {N} k S rest ranked held can.
          let source = can.source in
          let old = (object_at S.objects o).fields in
          let fields = map (renamed_by places first) old in
          let at : (j : ℕ) → get_or fields j Absent ≡ renamed_by places first (get_or old j Absent) = λ j. get_or-map (renamed_by places first) old j Absent in
          let four : a ∷ b ∷ c ∷ d ∷ [] ≡ pad 4 Absent fields =
          rw (
            is-a.sees S rest held (field_in o 0 source) ∙ sym (at 0),
            is_b.sees S rest held (field_in o 1 source) ∙ sym (at 1),
            is_c.sees S rest held (field_in o 2 source) ∙ sym (at 2),
            is-d.sees S rest held (field_in o 3 source) ∙ sym (at 3),
          )
          (four_by_place Absent fields) in
          let few : length fields ≤ 4 = omega (arith, source.few, length-map old (renamed_by places first)) in
          let S₁ = one_copied k t places first o S in
          let is_made : Counted s₁ N S₁ rest = rw (← is_kind.sees S rest held source.made) ((makes.makes k fields ranked four).becomes S rest held can.next) in
          subst (λ (M : ℕ → ℕ). Counted s₂ M S₁ rest) (ap (λ (us : List Value). all_raised us N) four ∙ four_raised fields N few) (holds.counts S₁ rest is_made);
    }

-- ---- The copies, in order

pub none_copied : (s : List ℕ) (t cap first : ℕ) (places order : List ℕ) → CopiesAll t cap places first (take 0 order) s s
unfolding all_copied put_objects fields_copied all_raised
none_copied s t cap first places order = record { copies = λ k S rest ranked held can. rw (append-nil S.objects) held }

fields_then : (places : List ℕ) (b : ℕ) (os : List Object) (ms : List ℕ) (o : ℕ)
    → fields_copied places b os (ms ++ (o ∷ [])) ≡ fields_copied places b os ms ++ map (renamed_by places b) (object_at os o).fields
unfolding fields_copied
fields_then places b os [] o = append-nil _
fields_then places b os (m ∷ ms) o = rw (fields_then places b os ms o) (sym (append_assoc (map (renamed_by places b) (object_at os m).fields) (fields_copied places b os ms) _))

-- after the first i, the next
module _ (order : List ℕ) (i : ℕ) (within : i < length order) (t : ℕ) (places : List ℕ) (first : ℕ) (room : first + i < 256) where
  module _ {S : State} (can : CanCopyAll first (take (suc i) order) S) where
    sources : Every (λ o. Fielded o S) (take i order) × Every (λ o. Fielded o S) (get_or order i 0 ∷ [])
    sources = every_parts (λ o. Fielded o S) (take i order) (get_or order i 0 ∷ []) (rw (take-suc order i 0 within) at can.sources)

    source : Fielded (get_or order i 0) S
    source = sources.1.0

    source_number : get_or order i 0 % 256 ≡ get_or order i 0
    source_number = mod-eq_of_lt (omega (arith, source.made, can.next))

    module _ (k : Cap) where
      abbrev copied : ℕ → Object
      copied o = copied_by k t places first (object_at S.objects o)

      source_stands : object_at (S.objects ++ map copied (take i order)) (get_or order i 0) ≡ object_at S.objects (get_or order i 0)
      unfolding object_at
      source_stands = get_or-append S.objects (map copied (take i order)) no_object (get_or order i 0) source.made

      can_copy : CanCopy (first + i) (get_or order i 0) (all_copied k t places first (take i order) S)
      unfolding all_copied put_objects
      can_copy =
          let copies = map copied (take i order) in
          let more : length (S.objects ++ copies) ≡ length S.objects + length copies = length-append S.objects copies in
          let many : length copies ≡ i = length-map (take i order) copied ∙ length-take-le i order (omega arith) in
          record {
            next = omega (arith, can.next, more, many);
            source = record { made = omega (arith, source.made, more); few = rw source_stands source.few; fields = rw source_stands source.fields };
          }

      then_copied : one_copied k t places first (get_or order i 0) (all_copied k t places first (take i order) S) ≡ all_copied k t places first (take (suc i) order) S
      unfolding one_copied all_copied made put_objects
      then_copied =
          rw (
            source_stands,
            take-suc order i 0 within,
            map-append copied (take i order) (get_or order i 0 ∷ []),
            append_assoc S.objects (map copied (take i order)) (copied (get_or order i 0) ∷ []),
          )
          refl

      -- what the copies hold, once this one is made too
      then_raised : (N : ℕ → ℕ)
          → all_raised (map (renamed_by places first) (object_at (all_copied k t places first (take i order) S).objects (get_or order i 0)).fields)
          (all_raised (fields_copied places first S.objects (take i order)) N) ≡ all_raised (fields_copied places first S.objects (take (suc i) order)) N
      unfolding all_copied put_objects
      then_raised N =
          let here = map (renamed_by places first) (object_at S.objects (get_or order i 0)).fields in
          rw (source_stands, take-suc order i 0 within, fields_then places first S.objects (take i order) (get_or order i 0))
          (sym (raised_append (fields_copied places first S.objects (take i order)) here N))

  pub one_more_copied : {s s₁ s₂ : List ℕ} {cap : ℕ} → CopiesAll t cap places first (take i order) s s₁ → CopiesOne t cap places first (first + i) (get_or order i 0 % 256) s₁ s₂
      → CopiesAll t cap places first (take (i + 1) order) s s₂
  one_more_copied {s₂ = s₂} before next =
      rw (add-one i) (record {
        copies = λ {N} k S rest ranked held can.
            let before-it = all_copied k t places first (take i order) S in
            let now_held = before.copies k S rest ranked held (record { next = can.next; sources = (sources can).0 }) in
            let made-too = rw (source_number can) at (next.copies k before-it rest ranked now_held (rw (source_number can) (can_copy can k))) in
            subst (λ (R : State). Counted s₂ (all_raised (fields_copied places first S.objects (take (suc i) order)) N) R rest) (then_copied can k)
            (subst (λ (M : ℕ → ℕ). Counted s₂ M (one_copied k t places first (get_or order i 0) before-it) rest) (then_raised can k N) made-too);
      })

pub all_are_copied : {s s₁ : List ℕ} {t cap first : ℕ} {places : List ℕ} (order : List ℕ) (i : ℕ) → length order ≤ i → CopiesAll t cap places first (take i order) s s₁
    → CopiesAll t cap places first order s s₁
all_are_copied order i past copied = rw (take_all i order past) at copied

-- The line that copies: the objects that the code met and numbered are those that the rule meets, so that its checks answer as the rule's do, and each
-- copy that is made is the rule's.
use Prim.Native.Nat.{ℕ, ◌+◌, ◌%◌, ◌≤◌, ◌<◌}
use native.Mathlib.Nat.{mod-eq_of_lt}
use native.Mathlib.Omega.{arith}
use mathlib.Core.Path.{◌≡◌, refl, sym, ap, ap₂, ◌∙◌}
use mathlib.Core.Bool.{Bool, true, false}
use mathlib.Core.List.{List, [], ◌∷◌, ◌++◌, map}
use lib.Dec.{leb}
use lib.ListN.{length, get_or, take, replicate}
use borrow.Author.Tests.{le-leb, lt-leb}
use Rattle.rules.specs.declared.Cap.{Cap}
use Rattle.rules.specs.declared.Ground.TheVariants.{Foreign}
use Rattle.rules.specs.declared.Value.{Value}
use Rattle.rules.specs.declared.Value.TheVariants.{Absent, Obj, Chan}
use Rattle.rules.specs.Mosts.{mosts}
use Rattle.rules.specs.Numbers as No
use Rattle.rules.specs.Lists.{place_of, any, Every}
use Rattle.rules.specs.Reach.{count, times}
use Rattle.rules.specs.Script.{Program, copy, bind, rank, line_at}
use Rattle.rules.specs.State.{Object, Frame, State, ready, object_at, slot_at}
use Rattle.rules.specs.Turn.{Res, ok, stop, ◌>>=◌, ◌>>◌, check, permit, as_object, object, put_objects, filled, gives, renamed, copy_of, copy_line, let_line, perform}
use Rattle.rules.specs.Walk.{met_from}
use Rattle.rules.specs.Holders.{holders}
use Rattle.rules.specs.HolderChanges.{copied_fields, copies_gained, let_gained, line_gained, line_lost}
use Rattle.rules.specs.Fits.{Fits}
use Rattle.rules.proofs.ListLaws.{impossible, every_map}
use Rattle.rules.proofs.Counts.{object_self, every_time, among_times, place_there, count_append}
use Rattle.rules.proofs.Walks.{walked_values, walked_fields, walked_range, met_walked}
use Rattle.rules.proofs.Moves.{met_here, Step, by_copy, with_copies}
use Rattle.rules.proofs.Keeps.{fields_in_range}
use Rattle.table.specs.declared.standing.Here.{Here}
use Rattle.table.specs.StateTable.{Counted, Held, Sees, Any, Becomes, HasRoom, given, raised, all_raised, Counts}
use Rattle.walk.specs.Walking.{tally, Numbered, Walks, Of}
use Rattle.walk.proofs.Numbers.{number_at}
use Rattle.walk.proofs.FromNothing.{walk_from_nothing}
use Rattle.std.specs.Prelude.{Result, Ok}
use Rattle.std.specs.Result.{IsErrAnd}
use Rattle.rules.specs.declared.faults.Fault.{Fault}
use Rattle.checks.specs.declared.form_checks.Halt.{Halt}
use Rattle.checks.specs.declared.form_checks.Halt.TheVariants.{Stops}
use Rattle.checks.specs.Checked.{halted, outcome_of, passed, Made, here_at, Stand}
use Rattle.checks.proofs.CheckLaws.{number_of, as_outcome, then_ok, same_after}
use Rattle.checks.proofs.Standing.{SlotSeen, made_fielded, slot_read, slot_object}
use Rattle.turn.specs.Performed.{Went, to_next, Always, Performs}
use Rattle.turn.specs.Copied.{AllMade, renamed_by, all_copied, fields_copied, CanCopyAll, CopiesAll, copy_from, CopiesFrom}
use Rattle.turn.proofs.Settled.{Written, only_gained, raised_append}
use Rattle.turn.proofs.TurnSteps.{Answers, line_hands_on, line_moves, let_names, let_room, line_few}
use Rattle.turn.proofs.Frames.{Inside, inside, inside_objects, has_room, stands_put, given_inside}
use Rattle.turn.proofs.CopiesMade.{foreign_in}
use Rattle.turn.specs.declared.Move.{Move}
use Rattle.turn.specs.declared.Move.TheVariants.{Next}

-- ---- Copies by the places of what is met

-- what agrees on each of a list
map_same : {A B : Type 0} (f g : A → B) (l : List A) → Every (λ x. f x ≡ g x) l → map f l ≡ map g l
map_same f g [] same = refl
map_same f g (x ∷ l) same = ap₂ ◌∷◌ same.0 (map_same f g l same.1)

module _ {places order : List ℕ} {n : ℕ} (b : ℕ) {met : List ℕ} (numbered : Numbered (tally places order n) met) (room : b + length met ≤ 256) where
  number_same : (x : ℕ) → 1 ≤ times x met → (b + get_or places x 0 + 255) % 256 ≡ b + place_of x met
  number_same x is-met = omega (arith, number_at x numbered (among_times x met is-met), place_there x met is-met)

  -- where each object among the values is met
  values_same : (vs : List Value) → ((x : ℕ) → 1 ≤ count x vs → 1 ≤ times x met) → map (renamed_by places b) vs ≡ map (renamed b met) vs
  unfolding renamed count
  values_same [] all-met = refl
  values_same (Absent ∷ vs) all-met = ap (Absent ∷◌) (values_same vs (λ x h. all-met x (omega arith)))
  values_same (Obj x ∷ vs) all-met = ap₂ ◌∷◌ (ap Obj (number_same x (all-met x (omega (arith, object_self x))))) (values_same vs (λ y h. all-met y (omega arith)))
  values_same (Chan c ∷ vs) all-met = ap (Chan c ∷◌) (values_same vs (λ x h. all-met x (omega arith)))

-- and so for all fields of the objects ms
fields_same : (places met : List ℕ) (os : List Object) (ms : List ℕ)
    → Every (λ x. map (renamed_by places (length os)) (object_at os x).fields ≡ map (renamed (length os) met) (object_at os x).fields) ms
    → fields_copied places (length os) os ms ≡ copied_fields os met ms
unfolding fields_copied copied_fields
fields_same places met os [] same = refl
fields_same places met os (x ∷ ms) same = rw (same.0, fields_same places met os ms same.1) refl

self_counts : (n : ℕ) → 1 ≤ count n (Obj n ∷ [])
unfolding count
self_counts n = omega (arith, object_self n)

-- ---- The copies of what is met from object n

module _ {s order₀ places order : List ℕ} {n total : ℕ}
    (walks : Walks s (tally (replicate 256 0) order₀ 0) (Of (Obj n)) (λ S. Obj n ∷ []) (tally places order total)) where
  module _ {P : Program} {m : ℕ} {S : State} {rest : List ℕ} (held : Held s S rest) (fits : Fits mosts P m S) (there : Made n S) where
    abbrev met : List ℕ
    met = met_from S.objects (Obj n ∷ [])

    numbered : Numbered (tally places order total) met
    numbered = walk_from_nothing walks held fits there

    met_in_range : (x : ℕ) → 1 ≤ times x met → x < length S.objects
    met_in_range = walked_range S.objects _ (length S.threads) (fields_in_range fits) (there, tt) (met_walked S.objects (Obj n ∷ []))

    all_made : AllMade (take total order) S
    all_made = record { few = fits.few_objects; made = rw numbered.listed (every_time _ met met_in_range) }

    can_copy_all : {first : ℕ} → first ≡ length S.objects → CanCopyAll first (take total order) S
    can_copy_all is-count = record { next = is-count; sources = rw numbered.listed (every_time _ met (λ x is-met. made_fielded fits x (met_in_range x is-met))) }

    -- what the code asks is what the rule asks
    checks_same : (t : ℕ) {far : Bool} {first : ℕ} → Sees s (AllMade (take total order)) (λ S. any (foreign_in t S) (take total order)) far → Sees s Any (λ S. length S.objects) first
        → (permit far false false >> check (leb (first + total) 256) No.used_up) ≡ copy_from t n S
    unfolding copy_from
    checks_same t {far} foreign counted =
        let is-far : far ≡ any (foreign_in t S) met = rw numbered.listed at (foreign.sees S rest held all_made) in
        rw (is-far, counted.sees S rest held tt, numbered.counted) refl

    -- what the code makes is what the rule makes, and it holds the same
    module _ {first : ℕ} (is-count : first ≡ length S.objects) (room : first + total ≤ 256) where
      met_renamed : Every (λ x. map (renamed_by places (length S.objects)) (object_at S.objects x).fields ≡ map (renamed (length S.objects) met) (object_at S.objects x).fields) met
      met_renamed =
          let few : length S.objects + length met ≤ 256 = omega (arith, room, is-count, numbered.counted) in
          every_time _ met λ x is-met.
          values_same (length S.objects) numbered few (object_at S.objects x).fields (λ y held-there. walked_fields S.objects (met_walked S.objects (Obj n ∷ [])) x y is-met held-there)

      copies_same : (k : Cap) (t : ℕ) (f : Frame) (fs : List Frame)
          → all_copied k t places first (take total order) S ≡ put_objects S (S.objects ++ map (copy_of (here_at S t f fs) k met) met)
      unfolding all_copied copy_of object
      copies_same k t f fs =
          rw (is-count, numbered.listed)
          (ap (λ (xs : List Object). put_objects S (S.objects ++ xs))
          (map_same _ _ met (every_map (λ x same.
          ap (λ (vs : List Value). let o : Object = record { cap = k; kind = (object_at S.objects x).kind; creator = t; fields = vs } in o) same) met met_renamed)))

      gained_same : fields_copied places first S.objects (take total order) ≡ copies_gained S.objects (Obj n)
      gained_same = rw (is-count, numbered.listed) (fields_same places met S.objects met met_renamed)

  module _ (t cap : ℕ) {far : Bool} {first : ℕ}
      (foreign : Sees s (AllMade (take total order)) (λ S. any (foreign_in t S) (take total order)) far) (counted : Sees s Any (λ S. length S.objects) first) where
    pub from_foreign : far ≡ true → CopiesFrom t cap n s (stop (No.permission Foreign)) s
    unfolding permit check ◌>>◌ ◌>>=◌
    from_foreign some =
        record {
          stops = λ fails. refl;
          answers = λ P m S rest held fits there. let same = checks_same held fits there t foreign counted in rw some at same;
          copies = λ P m S f fs rest held fits there passes. impossible cc;
        }

    module _ (near : far ≡ false) where
      pub from_used_up : 256 < first + total → CopiesFrom t cap n s (stop No.used_up) s
      unfolding permit check ◌>>◌ ◌>>=◌
      from_used_up full =
          record {
            stops = λ fails. refl;
            answers = λ P m S rest held fits there. let same = checks_same held fits there t foreign counted in rw (near, lt-leb (first + total) 256 full) at same;
            copies = λ P m S f fs rest held fits there passes. impossible cc;
          }

      pub from_copied : {s₁ : List ℕ} → first + total ≤ 256 → CopiesAll t cap places first (take total order) s s₁ → CopiesFrom t cap n s (ok tt) s₁
      unfolding permit check ◌>>◌ ◌>>=◌
      from_copied {s₁} room all =
          record {
            stops = λ fails. impossible cc;
            answers = λ P m S rest held fits there. let same = checks_same held fits there t foreign counted in rw (near, le-leb (first + total) 256 room) at same;
            copies = λ P m S f fs rest held fits there passes k ranked.
                let is-count : first ≡ length S.objects = counted.sees S rest held tt in
                let made = all.copies k S rest ranked held (can_copy_all held fits there is-count) in
                rw (copies_same held fits there is-count room k t f fs, gained_same held fits there is-count room) at made;
          }

-- ---- The line, by what its slot holds

-- the copies hold vs, and v is held after them: in whatever order, each is gained
held_last : {s₁ rest : List ℕ} {S S₁ : State} {vs : List Value} {v : Value} → Counted s₁ (raised v (all_raised vs (holders S))) S₁ rest → Written s₁ S (v ∷ vs) [] S₁ rest
unfolding all_raised count
held_last {s₁} {rest} {S} {S₁} {vs} {v} held =
    let last : Written s₁ S (vs ++ (v ∷ [])) [] S₁ rest = only_gained (vs ++ (v ∷ [])) (rw (raised_append vs (v ∷ []) (holders S)) held) in
    record { counts = last.counts; held = last.held; tally = λ small n. let sum = last.tally small n in omega (arith, sum, count_append n vs (v ∷ [])) }

module _ {s : List ℕ} {h : Here} (k : Cap) (i : ℕ) {x : Value} (target : SlotSeen s h (i % 16) x) where
  pub copy_no_object : {r : Result Move Halt} (e : Fault) → IsErrAnd r (λ i. i ≡ Stops e) → stop (No.number e) ≡ as_object x → Performs Always s h (bind (copy k i)) r s
  unfolding perform let_line copy_line ◌>>=◌
  copy_no_object e handed is =
      line_hands_on (Stops e) handed (record { answers = λ P n S f fs rest q st at_line. rw (slot_read st i _ refl target (let_names st at_line).0, ← is) refl })

  -- object n, whose copies answer r
  module _ {n cap : ℕ} {r : Res (Unit {0})} {s₁ : List ℕ} (is : x ≡ Obj n) (does : CopiesFrom h.thread cap n s r s₁) where
    module _ {P : Program} {m : ℕ} {S : State} {f : Frame} {fs : List Frame} {rest : List ℕ} (st : Stand s h P m S f fs rest)
        (at_line : line_at P f.block f.line ≡ bind (copy k i)) where
      source_read : slot_at f.slots i ≡ Obj n
      source_read = slot_read st i _ refl target (let_names st at_line).0 ∙ is

      source_made : Made n S
      source_made = slot_object st i n source_read

      line_checks : copy_from h.thread n S ≡ outcome_of (copy_line mosts (here_at S h.thread f fs) k i)
      unfolding copy_line copy_from as_object object ◌>>=◌ ◌>>◌
      line_checks = rw source_read (as_outcome _ ∙ same_after (permit _ false false) _ _ λ _. then_ok (check _ No.used_up) _)

    line_answers : Answers Always s h (bind (copy k i)) r
    unfolding perform let_line
    line_answers = record { answers = λ P m S f fs rest q st at_line. does.answers P m S rest st.held st.fits (source_made st at_line) ∙ line_checks st at_line }

  pub copy_hands_on : {n cap : ℕ} {s₁ : List ℕ} {r : Result Move Halt} (e : Halt) → x ≡ Obj n → IsErrAnd r (λ i. i ≡ e) → CopiesFrom h.thread cap n s (halted e) s₁
      → passed (halted e) ≡ false → Performs Always s h (bind (copy k i)) r s₁
  copy_hands_on e is handed does fails = rw (does.stops fails) (line_hands_on e handed (line_answers is does))

  module _ {n cap : ℕ} {s₁ : List ℕ} (is : x ≡ Obj n) (does : CopiesFrom h.thread cap n s (ok tt) s₁) where
    -- the copies are made, and the first is given and held
    module _ {s₂ s₃ : List ℕ} {count number : ℕ} (ranked : cap ≡ rank k) (counted : Sees s Any (λ S. length S.objects) count) (is-next : number ≡ count % 256)
        (gives-copy : Becomes s₁ (HasRoom h.thread h.depth) (given h.thread h.depth (Obj number)) s₂) (holds : Counts (raised (Obj number)) s₂ s₃) where
      copy_moved : {P : Program} {m : ℕ} {S : State} {f : Frame} {fs : List Frame} {S₁ : State} {rest : List ℕ} (st : Stand s h P m S f fs rest)
          → line_at P f.block f.line ≡ bind (copy k i) → Step mosts P (here_at S h.thread f fs) (bind (copy k i)) S₁
          → Written s₃ S (Obj (length S.objects) ∷ copies_gained S.objects (slot_at f.slots i)) [] S₁ rest × Went h.thread f fs S₁ Next
      unfolding gives filled
      copy_moved {P} {m} {S} {f} {fs} {S₁} {rest} st at_line (by_copy c j o graph) =
          let H = here_at S h.thread f fs in
          let same : o ≡ n = ap number_of (sym graph.target ∙ source_read is does st at_line) in
          let is-met = place_there o (met_here H o) (walked_values S.objects (met_walked S.objects (Obj o ∷ [])) o (self_counts o)) in
          let below : length S.objects < 256 = omega (arith, graph.room, is-met) in
          let is_number : number ≡ length S.objects = is-next ∙ ap (λ a. a % 256) (counted.sees S rest st.held tt) ∙ mod-eq_of_lt below in
          let R = put_objects S (with_copies H k n) in
          let here : Inside h.thread h.depth f fs R = inside_objects _ (inside st) in
          let made = does.copies P m S f fs rest st.held st.fits (source_made is does st at_line) refl k ranked in
          let held-copy = holds.counts _ rest (gives-copy.becomes R rest made (has_room here (let_room st at_line) (line_few st))) in
          rw (same, source_read is does st at_line) (
            held_last (rw (is_number, given_inside here (Obj (length S.objects))) at held-copy),
            to_next (stands_put R _ fs ready here.thread),
          )

      pub copy_moves : Performs Always s h (bind (copy k i)) (Ok Next) s₃
      unfolding copy_from line_gained let_gained line_lost
      copy_moves =
          line_moves (line_answers is does)
          (record { writes = λ P m S f fs rest q st few at_line S₁ step. copy_moved st at_line step })

-- A turn played is a turn of the rules, noted; and after the turns so far the marks are theirs, and no turn has raced with one before it.
use Rattle.std.proofs.Common.{ℕ, zero, suc, ◌+◌, ◌%◌, ◌≤◌, ◌<◌, zero-le, arith, ◌≡◌, refl, sym, ap, ◌∙◌, subst, Bool, true, false, List, [], ◌∷◌, map, ◌⊎◌, inl, inr, ⊎_elim, ltb, leb, length, get_or, take, length-take-le, ltb-true, ltb-false, leb-true, leb-false, Option, None, Some}
use Rattle.rules.specs.declared.Event.{Event}
use Rattle.rules.specs.declared.Event.TheVariants.{Quiet, Reads, Swaps, Puts, Receives, Copies}
use Rattle.rules.specs.Mosts.{mosts}
use Rattle.rules.specs.Lists.{Every}
use Rattle.rules.specs.Script.{Program}
use Rattle.rules.specs.State.{State, thread_at, start}
use Rattle.rules.specs.Turn.{Res, ok, wait, stop, turn}
use Rattle.rules.specs.Run.{Stop, none, stopped, Run, fresh, after, advance, run_from, run, is_finished}
use Rattle.rules.specs.Valid.{Valid}
use Rattle.rules.specs.Fits.{Fits}
use Rattle.rules.specs.Races.{event, if_moves, run_before, thread_of, event_at, norace, race, named, verdict_of, verdict}
use Rattle.rules.proofs.ListLaws.{impossible, by_bool, every_map, take_past}
use Rattle.rules.proofs.Runs.{step, run_one_more}
use Rattle.rules.proofs.Keeps.{keeps_run, moves_few}
use Rattle.table.specs.StateTable.{Held}
use Rattle.turn.specs.Performed.{Loaded}
use Rattle.tally.specs.declared.Fate.{Fate}
use Rattle.tally.specs.declared.Fate.TheVariants.{Moved, Waited, Idled, Halted, Unplayed}
use Rattle.tally.specs.Fates.{fate_by}
use Rattle.tally.specs.Counted.{TakesOne}
use Rattle.races.specs.declared.Race.{Race}
use Rattle.races.specs.declared.marks.Found.{Found}
use Rattle.races.specs.declared.marks.Marks.{Marks}
use Rattle.races.specs.Events.{ObjectBelow, TurnTells, met_by, Meets}
use Rattle.races.specs.Marks.{Roomy, objects_in, mark_of, Notes}
use Rattle.races.specs.Judged.{race_of, NothingMarked, Comes, to_stop, to_wait, to_move, Plays, JudgesTurns}
use Rattle.races.proofs.EventLaws.{event_made, met_below_lem, moved_field_few, moved_thread}
use Rattle.races.proofs.Marked.{FieldBelow, HasMarks, start_marks, TurnIs, quiet_marks, noted_marks}
use Rattle.races.proofs.Latest.{found_object, found_field}
use Rattle.races.proofs.Noted.{quiet_no_race, noted_race, noted_named}
use Rattle.races.proofs.Verdicts.{verdict_found, verdict_goes_on, verdict_halts}

low_kept : (xs : List ℕ) → Every (λ x. x < 256) xs → map (λ (x : ℕ). x % 256) xs ≡ xs
low_kept [] low = refl
low_kept (x ∷ xs) low = let first : x % 256 ≡ x = (let a = low.0 in omega arith) in rw (first, low_kept xs low.1) refl

-- ---- One turn, by its fate

waited : {s : List ℕ} (n t : ℕ) (S : State) (rest : List ℕ) → Held s (after S n t wait).state rest → Held s S rest
unfolding after
waited n t S rest held = held

went : {s : List ℕ} (n t : ℕ) (S S₁ : State) (rest : List ℕ) → Held s (after S n t (ok S₁)).state rest → Held s S₁ rest
unfolding after
went n t S S₁ rest held = held

module _ {p s s₁ : List ℕ} {t mark : ℕ} {r : Fate} (M M₁ : Marks) (takes : TakesOne p s t r s₁) where
  pub halted_plays : r ≡ Halted → Plays p s t mark M None s₁ M₁
  halted_plays is =
      record {
        plays = λ P n S rest loaded held valid fits few.
            go (turn mosts P S t) (is_finished (thread_at S t)) P S rest (takes.fate P n S rest loaded held valid fits few);
      }
    where
      go : (x : Res State) (b : Bool) (P : Program) (S : State) (rest : List ℕ) → r ≡ fate_by x b → Comes P S t mark M M₁ s₁ rest x None
      go (ok S₁) b P S rest e = impossible cc
      go wait true P S rest e = impossible cc
      go wait false P S rest e = impossible cc
      go (stop k) b P S rest e = to_stop

  pub waiting_plays : (r ≡ Waited) ⊎ ((r ≡ Idled) ⊎ (r ≡ Unplayed)) → M₁ ≡ M → Plays p s t mark M (Some None) s₁ M₁
  waiting_plays stays same =
      record {
        plays = λ P n S rest loaded held valid fits few.
            go (turn mosts P S t) (is_finished (thread_at S t)) P n S rest (takes.fate P n S rest loaded held valid fits few)
            (takes.leaves P n S rest loaded held valid fits few);
      }
    where
      go : (x : Res State) (b : Bool) (P : Program) (n : ℕ) (S : State) (rest : List ℕ) → r ≡ fate_by x b → Held s₁ (after S n t x).state rest
          → Comes P S t mark M M₁ s₁ rest x (Some None)
      go (ok S₁) b P n S rest e held = ⊎_elim (λ a. impossible cc) (⊎_elim (λ a. impossible cc) (λ a. impossible cc)) stays
      go wait b P n S rest e held = to_wait (waited n t S rest held) same
      go (stop k) b P n S rest e held = ⊎_elim (λ a. impossible cc) (⊎_elim (λ a. impossible cc) (λ a. impossible cc)) stays

  pub moving_plays : {e : Event} {order : List ℕ} {count : ℕ} {F : Option Found} → TurnTells p s t e → Meets s e order count → r ≡ Moved → Roomy M
      → Notes e (objects_in (take count order)) (t % 16) mark M M₁ F → Plays p s t mark M (Some F) s₁ M₁
  moving_plays {e} {order} {count} {F} tells meets goes room notes =
      record {
        plays = λ P n S rest loaded held valid fits few.
            let is = tells.tells P n S rest loaded held valid fits in
            let made : ObjectBelow (length S.objects) e = subst (ObjectBelow (length S.objects)) (sym is) (event_made fits t) in
            let low = every_map {A = ℕ} {Q = λ x. x < length S.objects} {R = λ x. x < 256} (λ x below. omega (arith, fits.few_objects)) (met_by S.objects e) (met_below_lem fits e made) in
            let met : objects_in (take count order) ≡ met_by S.objects e = ap (map (λ (x : ℕ). x % 256)) (meets.meets P n S rest held fits made) ∙ low_kept (met_by S.objects e) low in
            go (turn mosts P S t) (is_finished (thread_at S t)) P n S rest (takes.fate P n S rest loaded held valid fits few)
            (takes.leaves P n S rest loaded held valid fits few) (subst (λ g. objects_in (take count order) ≡ met_by S.objects g) is met)
            (subst (λ g. Notes g (objects_in (take count order)) (t % 16) mark M M₁ F) is notes);
      }
    where
      go : (x : Res State) (b : Bool) (P : Program) (n : ℕ) (S : State) (rest : List ℕ) → r ≡ fate_by x b → Held s₁ (after S n t x).state rest
          → objects_in (take count order) ≡ met_by S.objects (event P S t) → Notes (event P S t) (objects_in (take count order)) (t % 16) mark M M₁ F
          → Comes P S t mark M M₁ s₁ rest x (Some F)
      go (ok S₁) b P n S rest e held met noted = to_move room (went n t S S₁ rest held) met noted
      go wait true P n S rest e held met noted = impossible cc
      go wait false P n S rest e held met noted = impossible cc
      go (stop k) b P n S rest e held met noted = impossible cc

-- ---- The run before a turn

module _ (P : Program) (ts : List ℕ) where
  before_fits : Valid mosts P → (k : ℕ) → Fits mosts P (run_before mosts P ts k).moves (run_before mosts P ts k).state
  unfolding run_before
  before_fits valid k = keeps_run mosts P (take k ts) valid (omega arith)

  before_few : (k : ℕ) → k ≤ length ts → (run_before mosts P ts k).moves ≤ k
  unfolding run_before
  before_few k within = omega (arith, moves_few mosts P (take k ts), length-take-le k ts within)

  -- turn k, from a run that goes on
  before_next : (k : ℕ) {x : Res State} → k < length ts → (run_before mosts P ts k).stop ≡ none → turn mosts P (run_before mosts P ts k).state (thread_of mosts P ts k) ≡ x
      → run_before mosts P ts (suc k) ≡ after (run_before mosts P ts k).state (run_before mosts P ts k).moves (thread_of mosts P ts k) x
  unfolding run_before run step advance
  before_next k there going is = run_one_more mosts P fresh ts k there ∙ rw (going, is) refl

  -- after a stop, nothing is done
  stays_stopped : (k j : ℕ) (n t b l : ℕ) → (run_before mosts P ts k).stop ≡ stopped n t b l → k ≤ j → (run_before mosts P ts j).stop ≡ stopped n t b l
  unfolding run_before run step advance
  stays_stopped k zero n t b l is within = let same : k ≡ 0 = omega arith in rw same at is
  stays_stopped k (suc j) n t b l is within =
      by_bool (leb k j)
      (λ earlier.
      let so = stays_stopped k j n t b l is (leb-true k j earlier) in
      by_bool (ltb j (length ts))
      (λ there. ap (λ (r : Run). r.stop) (run_one_more mosts P fresh ts j (ltb-true j (length ts) there)) ∙ rw so refl)
      (λ past. ap (λ (us : List ℕ). (run_from mosts P fresh us).stop) (take_past ts j (ltb-false j (length ts) past)) ∙ so))
      (λ same. let now : k ≡ suc j = omega (arith, leb-false k j same) in rw now at is)

  event_by : (k : ℕ) {x : Res State} → (run_before mosts P ts k).stop ≡ none → turn mosts P (run_before mosts P ts k).state (thread_of mosts P ts k) ≡ x
      → event_at mosts P ts k ≡ if_moves none x (event P (run_before mosts P ts k).state (thread_of mosts P ts k))
  unfolding event_at
  event_by k going is = rw (going, is) refl

  stopped_quiet : (k : ℕ) {n t b l : ℕ} → (run_before mosts P ts k).stop ≡ stopped n t b l → event_at mosts P ts k ≡ Quiet
  unfolding event_at
  stopped_quiet k is = rw is refl

  -- only a thread of the run does anything
  threads_few : Valid mosts P → (i : ℕ) → (event_at mosts P ts i ≡ Quiet) ⊎ (thread_of mosts P ts i < 16)
  unfolding event_at
  threads_few valid i = go (run_before mosts P ts i).stop refl (turn mosts P (run_before mosts P ts i).state (thread_of mosts P ts i)) refl
    where
      go : (q : Stop) → (run_before mosts P ts i).stop ≡ q → (x : Res State) → turn mosts P (run_before mosts P ts i).state (thread_of mosts P ts i) ≡ x
          → (event_at mosts P ts i ≡ Quiet) ⊎ (thread_of mosts P ts i < 16)
      go none a (ok S₁) b = inr (omega (arith, moved_thread (before_fits valid i) (thread_of mosts P ts i) b, (before_fits valid i).few_threads))
      go none a wait b = inl (rw (a, b) refl)
      go none a (stop n) b = inl (rw (a, b) refl)
      go (stopped n t c l) a x b = inl (rw a refl)

-- ---- The turns so far

-- before turn k, of one program: its state is held, the run goes on, the marks are those of the turns before, and none of them raced
pub record So (P : Program) (ts s : List ℕ) (M : Marks) (k : ℕ) (rest : List ℕ) : Type 0 where
  pub held : Held s (run_before mosts P ts k).state rest
  pub going : (run_before mosts P ts k).stop ≡ none
  pub marked : HasMarks P ts k M
  pub clean : verdict_of mosts P ts k ≡ norace

module _ {P : Program} {ts s : List ℕ} {M : Marks} {k : ℕ} {rest : List ℕ} (valid : Valid mosts P) (there : k < length ts) (so : So P ts s M k rest) where
  abbrev S : State
  S = (run_before mosts P ts k).state

  abbrev t : ℕ
  t = thread_of mosts P ts k

  -- a turn that stops the run
  stop_ends : {n : ℕ} → turn mosts P S t ≡ stop n → verdict mosts P ts ≡ norace
  unfolding after
  stop_ends is =
      let next = ap (λ (r : Run). r.stop) (before_next P ts k there so.going is) in
      verdict_halts P ts k so.clean
      (λ j from.
      by_bool (leb (suc k) j)
      (λ later. stopped_quiet P ts j (stays_stopped P ts (suc k) j _ _ _ _ next (leb-true (suc k) j later)))
      (λ same. let now : j ≡ k = omega (arith, leb-false (suc k) j same) in rw now (event_by P ts k so.going is)))

  -- one that waits
  wait_so : {s₁ : List ℕ} {M₁ : Marks} → turn mosts P S t ≡ wait → Held s₁ S rest → M₁ ≡ M → So P ts s₁ M₁ (suc k) rest
  unfolding after
  wait_so {s₁} {M₁} is held same =
      let next = before_next P ts k there so.going is in
      let quiet = event_by P ts k so.going is in
      let has = quiet_marks P ts quiet so.marked in
      record {
        held = subst (λ (r : Run). Held s₁ r.state rest) (sym next) held;
        going = ap (λ (r : Run). r.stop) next;
        marked = rw same has;
        clean = verdict_goes_on P ts k so.clean (quiet_no_race P ts k quiet);
      }

  -- one that moves
  module _ {S₁ : State} (is : turn mosts P S t ≡ ok S₁) {objects : List ℕ} (M₁ : Marks) (F : Option Found) (met : objects ≡ met_by S.objects (event P S t)) where
    field_low : (e : Event) → event P S t ≡ e → FieldBelow 4 e
    field_low Quiet e = tt
    field_low (Reads n f) e = moved_field_few (before_fits P ts valid k) t is n f (inl e)
    field_low (Swaps n f) e = moved_field_few (before_fits P ts valid k) t is n f (inr e)
    field_low (Puts n) e = tt
    field_low (Receives n) e = tt
    field_low (Copies n) e = tt

    object_low : (e : Event) → ObjectBelow (length S.objects) e → ObjectBelow 256 e
    object_low Quiet a = tt
    object_low (Reads n f) a = omega (arith, a, (before_fits P ts valid k).few_objects)
    object_low (Swaps n f) a = omega (arith, a, (before_fits P ts valid k).few_objects)
    object_low (Puts n) a = omega (arith, a, (before_fits P ts valid k).few_objects)
    object_low (Receives n) a = omega (arith, a, (before_fits P ts valid k).few_objects)
    object_low (Copies n) a = omega (arith, a, (before_fits P ts valid k).few_objects)

    thread_low : t < 16
    thread_low = omega (arith, moved_thread (before_fits P ts valid k) t is, (before_fits P ts valid k).few_threads)

    turn_is : TurnIs P ts k (event P S t) objects t
    turn_is =
        record {
          event = event_by P ts k so.going is;
          thread = refl;
          thread_low = thread_low;
          met = met;
          met_low = rw met
              (every_map {A = ℕ} {Q = λ x. x < length S.objects} {R = λ x. x < 256} (λ x below. omega (arith, (before_fits P ts valid k).few_objects))
              (met_by S.objects (event P S t)) (met_below_lem (before_fits P ts valid k) (event P S t) (event_made (before_fits P ts valid k) t)));
          object_low = object_low (event P S t) (event_made (before_fits P ts valid k) t);
          field_low = field_low (event P S t) refl;
        }

    module _ (notes : Notes (event P S t) objects (t % 16) (suc k) M M₁ F) where
      noted : Notes (event P S t) objects t (suc k) M M₁ F
      noted = subst (λ (u : ℕ). Notes (event P S t) objects u (suc k) M M₁ F) (let low = thread_low in omega arith) notes

      few : (i : ℕ) → i < k → (event_at mosts P ts i ≡ Quiet) ⊎ (thread_of mosts P ts i < 16)
      few i _ = threads_few P ts valid i

      -- it races with none
      move_so : {s₁ : List ℕ} → Roomy M → mark_of F ≡ 0 → Held s₁ S₁ rest → So P ts s₁ M₁ (suc k) rest
      unfolding after
      move_so {s₁} roomy nothing-found held =
          let next = before_next P ts k there so.going is in
          record {
            held = subst (λ (r : Run). Held s₁ r.state rest) (sym next) held;
            going = ap (λ (r : Run). r.stop) next;
            marked = noted_marks P ts (event P S t) M₁ F so.marked roomy turn_is noted;
            clean = verdict_goes_on P ts k so.clean (noted_race P ts (event P S t) M₁ F so.marked turn_is few noted ∙ nothing-found);
          }

      -- it is the first that races
      move_races : (i : ℕ) → mark_of F ≡ suc i → verdict mosts P ts ≡ race i k (found_object F) (found_field F)
      move_races i is_last =
          verdict_found P ts i k (found_object F) (found_field F) there so.clean
          (ap (named mosts P ts k) (noted_race P ts (event P S t) M₁ F so.marked turn_is few noted)
          ∙ noted_named P ts (event P S t) M₁ F so.marked turn_is few noted i is_last)

-- ---- The loop

-- before turn k, of any program that the table holds, from the start in s₀
pub record Judging (p ts s₀ s : List ℕ) (M : Marks) (k : ℕ) : Type 0 where
  pub within : k ≤ length ts
  pub same_length : length s ≡ length s₀
  pub so : (P : Program) (rest : List ℕ) → Loaded p P → Valid mosts P → Held s₀ start rest → So P ts s M k rest

pub judging_starts : (p ts s : List ℕ) (M : Marks) → NothingMarked M → Judging p ts s s M 0
unfolding run_before run run_from verdict_of
judging_starts p ts s M m =
    record {
      within = zero-le;
      same_length = refl;
      so = λ P rest loaded valid held.
          record {
            held = held;
            going = refl;
            marked = start_marks P ts M m.receives.none m.reads.none m.read_puts.none m.swaps.none m.swap_puts.none;
            clean = refl;
          };
    }

module _ {p ts s₀ s s₁ : List ℕ} {M M₁ : Marks} {k : ℕ} (before : Judging p ts s₀ s M k) (there : k < length ts) (few : length ts ≤ 1024) where
  -- what comes of turn k
  comes : {r : Option (Option Found)} → Plays p s (get_or ts k 0) (k + 1) M r s₁ M₁ → (P : Program) (rest : List ℕ) → Loaded p P → Valid mosts P → Held s₀ start rest
      → Comes P (run_before mosts P ts k).state (get_or ts k 0) (suc k) M M₁ s₁ rest (turn mosts P (run_before mosts P ts k).state (get_or ts k 0)) r
  comes {r} plays P rest loaded valid held =
      let S = (run_before mosts P ts k).state in
      let next : k + 1 ≡ suc k = omega arith in
      subst (λ (mark : ℕ). Comes P S (get_or ts k 0) mark M M₁ s₁ rest (turn mosts P S (get_or ts k 0)) r) next
      (plays.plays P (run_before mosts P ts k).moves S rest loaded (before.so P rest loaded valid held).held valid (before_fits P ts valid k)
      (omega (arith, before_few P ts k before.within)))

  pub judging_stops : Plays p s (get_or ts k 0) (k + 1) M None s₁ M₁ → JudgesTurns p ts s₀ None
  judging_stops plays =
      record {
        judges = λ P rest loaded valid held.
            go P rest valid (before.so P rest loaded valid held) (turn mosts P (run_before mosts P ts k).state (get_or ts k 0)) refl (comes plays P rest loaded valid held);
      }
    where
      go : (P : Program) (rest : List ℕ) → Valid mosts P → So P ts s M k rest → (x : Res State) → turn mosts P (run_before mosts P ts k).state (get_or ts k 0) ≡ x
          → Comes P (run_before mosts P ts k).state (get_or ts k 0) (suc k) M M₁ s₁ rest x None → None ≡ race_of (verdict mosts P ts)
      go P rest valid so (ok S₁) is came = elim came [ ]
      go P rest valid so wait is came = elim came [ ]
      go P rest valid so (stop n) is to_stop = rw (stop_ends valid there so is) refl

  pub judging_finds : {F : Found} → Plays p s (get_or ts k 0) (k + 1) M (Some (Some F)) s₁ M₁
      → JudgesTurns p ts s₀ (Some (record { first = F.turn; second = k; object = F.object; field = F.field }))
  judging_finds {F} plays =
      record {
        judges = λ P rest loaded valid held.
            go P rest valid (before.so P rest loaded valid held) (turn mosts P (run_before mosts P ts k).state (get_or ts k 0)) refl (comes plays P rest loaded valid held);
      }
    where
      go : (P : Program) (rest : List ℕ) → Valid mosts P → So P ts s M k rest → (x : Res State) → turn mosts P (run_before mosts P ts k).state (get_or ts k 0) ≡ x
          → Comes P (run_before mosts P ts k).state (get_or ts k 0) (suc k) M M₁ s₁ rest x (Some (Some F))
          → ◌≡◌ {A = Option Race} (Some (record { first = F.turn; second = k; object = F.object; field = F.field })) (race_of (verdict mosts P ts))
      go P rest valid so wait is came = elim came [ ]
      go P rest valid so (ok S₁) is (to_move room held met notes) = rw (move_races valid there so is M₁ (Some F) met notes F.turn refl) refl
      go P rest valid so (stop n) is came = elim came [ ]

  pub judging_goes_on : Plays p s (get_or ts k 0) (k + 1) M (Some None) s₁ M₁ → length s₁ ≡ length s → Judging p ts s₀ s₁ M₁ (k + 1)
  judging_goes_on plays same =
      record {
        within = omega arith;
        same_length = same ∙ before.same_length;
        so = λ P rest loaded valid held.
            let next : suc k ≡ k + 1 = omega arith in
            subst (λ (j : ℕ). So P ts s₁ M₁ j rest) next
            (go P rest valid (before.so P rest loaded valid held) (turn mosts P (run_before mosts P ts k).state (get_or ts k 0)) refl (comes plays P rest loaded valid held));
      }
    where
      go : (P : Program) (rest : List ℕ) → Valid mosts P → So P ts s M k rest → (x : Res State) → turn mosts P (run_before mosts P ts k).state (get_or ts k 0) ≡ x
          → Comes P (run_before mosts P ts k).state (get_or ts k 0) (suc k) M M₁ s₁ rest x (Some None) → So P ts s₁ M₁ (suc k) rest
      go P rest valid so wait is (to_wait held same-marks) = wait_so valid there so is held same-marks
      go P rest valid so (ok S₁) is (to_move room held met notes) = move_so valid there so is M₁ None met notes room refl held
      go P rest valid so (stop n) is came = elim came [ ]

-- all turns are played
pub judging_ends : {p ts s₀ s : List ℕ} {M : Marks} {k : ℕ} → Judging p ts s₀ s M k → length ts ≤ k → JudgesTurns p ts s₀ None
unfolding verdict
judging_ends {ts = ts} {k = k} before all =
    let last : k ≡ length ts = omega (arith, before.within) in
    record {
      judges = λ P rest loaded valid held.
          let clean : verdict_of mosts P ts (length ts) ≡ norace = subst (λ (j : ℕ). verdict_of mosts P ts j ≡ norace) last (before.so P rest loaded valid held).clean in
          rw clean refl;
    }

-- A list of turns played one by one: what the loop keeps, each way through its body, and its ends.
use Prim.Native.Nat.{ℕ, suc, ◌+◌, ◌-◌, ◌%◌, ◌≤◌, ◌<◌}
use native.Mathlib.Omega.{arith}
use native.Mathlib.Numerals.{add-one}
use mathlib.Core.Path.{◌≡◌, refl, sym, ap, ◌∙◌, subst}
use mathlib.Core.List.{List, [], ◌∷◌}
use lib.Dec.{eqb}
use lib.ListN.{length, get_or, set, drop, replicate, length-set, drop_of_length-le}
use lib.Seq.{drop-cons, get_or-set_same, get_or-set_other}
use borrow.Author.Tests.{eqb-true, eqb-false}
use mathlib.Core.Bool.{Bool, true, false, not}
use Rattle.std.specs.Prelude.{Option, Some, None, Result, Ok, Err}
use Rattle.std.specs.Option.{is_some}
use Rattle.std.proofs.lemmas.List.{get_or_default}
use Rattle.rules.specs.declared.faults.Fault.{Fault}
use Rattle.rules.specs.declared.forms.Form.TheVariants.{Copy}
use Rattle.rules.specs.Forms.{form_number}
use Rattle.rules.specs.Mosts as Most
use Rattle.rules.specs.Mosts.{mosts}
use Rattle.rules.specs.Numbers.{number}
use Rattle.rules.specs.Script.{Program, block_at}
use Rattle.rules.specs.Valid.{Valid}
use Rattle.rules.specs.State.{Frame, State, thread_at, start}
use Rattle.rules.specs.Turn.{Res, ok, wait, stop, turn}
use Rattle.rules.specs.Run as R
use Rattle.rules.specs.Run.{Run, block_of, line_now, after, advance, run_from, run}
use Rattle.rules.specs.Fits.{Fits}
use Rattle.rules.proofs.ListLaws.{impossible, by_bool, every_get, every_replicate}
use Rattle.rules.proofs.OtherThreads.{turn_keeps}
use Rattle.rules.proofs.Keeps.{here_fits, keeps_turn, keeps_run}
use Rattle.table.specs.declared.standing.Here.{Here}
use Rattle.table.specs.StateTable.{Held, Sees, Any, Stands}
use Rattle.table.proofs.StateFrames.{next_on_line}
use Rattle.checks.specs.Checked.{Stand}
use Rattle.checks.proofs.Standing.{frame_is}
use Rattle.turn.proofs.Located as Place
use Rattle.turn.proofs.Located.{no_frames, no_frame_waits, turn_performs}
use Rattle.checks.specs.declared.form_checks.Halt.{Halt}
use Rattle.checks.specs.declared.form_checks.Halt.TheVariants.{Waits, Stops}
use Rattle.turn.specs.declared.Move.{Move}
use Rattle.turn.specs.declared.Move.TheVariants.{Next, Stay, Turned}
use Rattle.turn.specs.Performed.{StandsAt, Went, to_next, to_same, Performed, moved, waited, stopped, Loaded, PerformsHere}
use Rattle.run.specs.declared.Stop.{Stop}
use Rattle.run.specs.declared.playing.Stretch.{Stretch}
use Rattle.run.specs.declared.playing.Stretch.TheVariants.{Through, AtCopy}
use Rattle.run.specs.Reached.{going, Reached, Knows}
use Rattle.run.specs.Played.{StopsAt, place_at, LooksUp, is_kept, is_found, no_frame, Tells, Plays, CopyNext, Comes, to_end, to_stop, to_copy, PlaysFrom, PlaysPast}

-- ---- The run, turn by turn

-- a run that a turn of thread t stopped
abbrev stopped_by : State → (moves number thread : ℕ) → Run
stopped_by S n k t = record { state = S; moves = n; stop = R.stopped k t (block_of (thread_at S t).frames) (line_now (thread_at S t).frames) }

stays_stopped : (P : Program) (S : State) (n k t b l : ℕ) (ts : List ℕ)
    → (let r : Run = record { state = S; moves = n; stop = R.stopped k t b l } in run_from mosts P r ts ≡ r)
unfolding run_from advance
stays_stopped P S n k t b l [] = refl
stays_stopped P S n k t b l (u ∷ ts) = stays_stopped P S n k t b l ts

takes_turn : (P : Program) (S : State) (n i t : ℕ) (turns : List ℕ) {x : Res State} → i < length turns → t ≡ get_or turns i 0 → turn mosts P S t ≡ x
    → run_from mosts P (going S n) (drop i turns) ≡ run_from mosts P (after S n t x) (drop (i + 1) turns)
unfolding run_from advance
takes_turn P S n i t turns {x} more is e =
    ap (run_from mosts P (going S n)) (drop-cons turns i 0 more)
    ∙ ap (λ (u : ℕ). run_from mosts P (after S n u (turn mosts P S u)) (drop (suc i) turns)) (sym is)
    ∙ ap (λ (y : Res State). run_from mosts P (after S n t y) (drop (suc i) turns)) e
    ∙ ap (λ (j : ℕ). run_from mosts P (after S n t x) (drop j turns)) (sym (add-one i))

-- ---- The state reached after i turns

-- from a fresh start
reached_start : (turns : List ℕ) (P : Program) (s rest : List ℕ) → Valid mosts P → Held s start rest → Reached turns P s rest start 0 0
unfolding run run_from
reached_start turns P s rest valid held = record { held = held; fits = keeps_run mosts P [] valid (omega arith); goes_on = refl }

module _ {turns : List ℕ} {P : Program} {s rest : List ℕ} {S : State} {n i t : ℕ} (at : Reached turns P s rest S n i) (more : i < length turns) (is : t ≡ get_or turns i 0) where
  waits_on : turn mosts P S t ≡ wait → Reached turns P s rest S n (i + 1)
  unfolding after
  waits_on e = record { held = at.held; fits = at.fits; goes_on = at.goes_on ∙ takes_turn P S n i t turns more is e }

  moves_on : Valid mosts P → {s₁ : List ℕ} {S₁ : State} → turn mosts P S t ≡ ok S₁ → Held s₁ S₁ rest → Reached turns P s₁ rest S₁ (n + 1) (i + 1)
  unfolding after
  moves_on valid {S₁ = S₁} e held =
      record {
        held = held;
        fits = rw (add-one n) (keeps_turn mosts P n S S₁ t valid at.fits e);
        goes_on = at.goes_on ∙ takes_turn P S n i t turns more is e;
      }

  stops_there : {k : ℕ} → turn mosts P S t ≡ stop k → run mosts P turns ≡ stopped_by S n k t
  unfolding after
  stops_there {k} e =
      at.goes_on ∙ takes_turn P S n i t turns more is e
      ∙ stays_stopped P S n k t (block_of (thread_at S t).frames) (line_now (thread_at S t).frames) (drop (i + 1) turns)

-- the last turn is played
reached_end : {turns : List ℕ} {P : Program} {s rest : List ℕ} {S : State} {n i : ℕ} → Reached turns P s rest S n i → length turns ≤ i → run mosts P turns ≡ going S n
unfolding run_from
reached_end {turns} {P} {S = S} {n = n} at all = at.goes_on ∙ ap (run_from mosts P (going S n)) (drop_of_length-le turns all)

-- ---- Where a thread stands

-- found by its frames
located : {p : List ℕ} {P : Program} {s rest : List ℕ} {S : State} {n d : ℕ} {h : Here} → Loaded p P → Valid mosts P → Fits mosts P n S → Held s S rest
    → d ≡ length (thread_at S h.thread).frames → (d ≡ 0 → ⊥) → Stands p s d h → Knows p P S h
located {S = S} {h = h} loaded valid fits held count some stands =
    let at = Place.found stands some loaded held valid fits count (thread_at S h.thread).frames refl in
    record { frame = at.frame; callers = at.callers; frames = at.stand.frames; depth = at.stand.depth; line = at.on_line }

module _ {p : List ℕ} {P : Program} {S : State} {h : Here} (known : Knows p P S h) {S₁ : State} where
  -- after a turn of another thread
  knows_other : (t : ℕ) → turn mosts P S t ≡ ok S₁ → (h.thread ≡ t → ⊥) → Knows p P S₁ h
  knows_other t goes other =
      record {
        frame = known.frame;
        callers = known.callers;
        frames = turn_keeps h.thread mosts P S S₁ t goes other known.frames;
        depth = known.depth;
        line = known.line;
      }

  -- at the same line
  knows_same : StandsAt h.thread known.frame.block known.frame.line (length known.callers) S₁ → Knows p P S₁ h
  knows_same at =
      record { frame = at.frame; callers = at.callers; frames = at.frames; depth = at.depth ∙ known.depth; line = rw (at.block, at.line) known.line }

  -- at the next line
  knows_next : {n : ℕ} → Loaded p P → Fits mosts P n S₁ → StandsAt h.thread known.frame.block (known.frame.line + 1) (length known.callers) S₁
      → {g : Here} → g.thread ≡ h.thread → g.depth ≡ h.depth → g.row ≡ (h.row + 8) % 8192 → Knows p P S₁ g
  knows_next {n} loaded fits at thread depth row =
      let f = at.frame in
      let here = here_fits mosts P n S₁ h.thread f at.callers fits at.frames in
      let b = known.frame.block in
      let there : b < length P.blocks = subst (λ (x : ℕ). x < length P.blocks) at.block here.frame.block in
      let fit : f.line ≤ length (block_at P b).lets = subst (λ (x : ℕ). f.line ≤ length (block_at P x).lets) at.block here.frame.line in
      record {
        frame = f;
        callers = at.callers;
        frames = ap (λ (u : ℕ). (thread_at S₁ u).frames) thread ∙ at.frames;
        depth = at.depth ∙ known.depth ∙ sym depth;
        line = rw (at.block, at.line) (next_on_line P loaded.filled there known.line row (omega (arith, fit, at.line)));
      }

-- ---- What was performed

-- a line that moved
record MovedTo (t : ℕ) (f : Frame) (fs : List Frame) (s₁ rest : List ℕ) (m : Move) (x : Res State) : Type 0 where
  state : State
  is : x ≡ ok state
  held : Held s₁ state rest
  went : Went t f fs state m

module _ {t : ℕ} {f : Frame} {fs : List Frame} {s rest : List ℕ} where
  has_moved : {m : Move} {s₁ : List ℕ} {x : Res State} → Performed t f fs s rest (Ok m) s₁ x → MovedTo t f fs s₁ rest m x
  has_moved (moved {S = S} held went) = record { state = S; is = refl; held = held; went = went }

  has_waited : {s₁ : List ℕ} {x : Res State} → Performed t f fs s rest (Err Waits) s₁ x → (x ≡ wait) × (s₁ ≡ s)
  has_waited waited = (refl, refl)

  has_stopped : {e : Fault} {s₁ : List ℕ} {x : Res State} → Performed t f fs s rest (Err (Stops e)) s₁ x → (x ≡ stop (number e)) × (s₁ ≡ s)
  has_stopped (stopped is) = (ap stop (sym is), refl)

module _ {t : ℕ} {f : Frame} {fs : List Frame} {S : State} where
  went_next : Went t f fs S Next → StandsAt t f.block (f.line + 1) (length fs) S
  went_next (to_next at) = at

  went_same : Went t f fs S Stay → StandsAt t f.block f.line (length fs) S
  went_same (to_same at) = at

same_answer : {p s s₁ : List ℕ} {h : Here} {r r₁ : Result Move Halt} → r ≡ r₁ → PerformsHere p s h r s₁ → PerformsHere p s h r₁ s₁
same_answer {p} {s} {s₁} {h} e does = subst (λ (r : Result Move Halt). PerformsHere p s h r s₁) e does

module _ {turns : List ℕ} {P : Program} {p s rest : List ℕ} {S : State} {n i : ℕ} {h : Here}
    (valid : Valid mosts P) (at : Reached turns P s rest S n i) (known : Knows p P S h) where
  stand : Stand s h P n S known.frame known.callers rest
  stand = record { held = at.held; valid = valid; fits = at.fits; frames = known.frames; depth = known.depth }

  -- the line performed is the thread's turn
  performed_turn : Loaded p P → n < Most.turns → {r : Result Move Halt} {s₁ : List ℕ} → PerformsHere p s h r s₁
      → Performed h.thread known.frame known.callers s rest r s₁ (turn mosts P S h.thread)
  performed_turn loaded few {r} {s₁} does =
      let f = known.frame in
      let fs = known.callers in
      subst (λ (x : Res State). Performed h.thread f fs s rest r s₁ x) (sym (turn_performs P S h.thread known.frames))
      (does.performs P n S f fs rest loaded stand few known.line)

-- ---- The places kept

-- no place is changed but thread t's
record Changed (t : ℕ) (places places₁ : List (Option Here)) : Type 0 where
  long : length places₁ ≡ length places
  same : (u : ℕ) → (u ≡ t → ⊥) → place_at places₁ u ≡ place_at places u

changed_set : {places : List (Option Here)} (t : ℕ) (x : Option Here) → Changed t places (set places t x)
changed_set {places} t x = record { long = length-set places t x; same = λ u other. get_or-set_other places t u x None other }

changed_none : {places : List (Option Here)} (t : ℕ) → Changed t places places
changed_none t = record { long = refl; same = λ u other. refl }

-- what holds of each place kept
abbrev EachKept : (Q : ℕ → Here → Type 0) → List (Option Here) → Type 0
EachKept Q places = (u : ℕ) (h : Here) → place_at places u ≡ Some h → Q u h

each_kept : (Q : ℕ → Here → Type 0) {t : ℕ} {places places₁ : List (Option Here)} → Changed t places places₁
    → ((u : ℕ) (h : Here) → (u ≡ t → ⊥) → place_at places u ≡ Some h → Q u h) → ((h : Here) → place_at places₁ t ≡ Some h → Q t h) → EachKept Q places₁
each_kept Q {t} {places} {places₁} changed others this u h kept =
    by_bool (eqb u t)
    (λ b. let same = eqb-true u t b in subst (λ (v : ℕ). Q v h) (sym same) (this h (ap (place_at places₁) (sym same) ∙ kept)))
    (λ b. let other = eqb-false u t b in others u h other (sym (changed.same u other) ∙ kept))

-- a place looked at
is_none_one : (x : Option Here) → is_some x ≡ false → x ≡ None
is_none_one None e = refl
is_none_one (Some h) e = impossible cc

is_some_one : (x : Option Here) → is_some x ≡ true → (h : Here) × (x ≡ Some h)
is_some_one None e = impossible cc
is_some_one (Some h) e = (h, refl)

module _ {p s : List ℕ} {places places₁ : List (Option Here)} {t : ℕ} {r : Option Here} (few : t < length places) (read : r ≡ get_or places₁ t r) where
  pub looks_found : {h : Here} {d : ℕ} → (d ≡ 0 → ⊥) → Sees s Any (λ S. length (thread_at S t).frames) d → h.thread ≡ t → Stands p s d h → places₁ ≡ set places t (Some h)
      → LooksUp p s places t r places₁
  looks_found {h} some counted place stands stored =
      let is : r ≡ Some h = read ∙ ap (λ (l : List (Option Here)). get_or l t r) stored ∙ get_or-set_same places t (Some h) r few in
      rw (is, stored) (is_found some counted place stands)

  module _ (same : places₁ ≡ places) (old : Option Here) {b : Bool} (asked : is_some (get_or places t old) ≡ not b) where
    pub looks_idle : b ≡ true → {d : ℕ} → Sees s Any (λ S. length (thread_at S t).frames) d → d ≡ 0 → LooksUp p s places t r places₁
    looks_idle empty counted none_counted =
        let none : place_at places t ≡ None = get_or_default places t None old few ∙ is_none_one (get_or places t old) (asked ∙ ap not empty) in
        let is : r ≡ None = read ∙ ap (λ (l : List (Option Here)). get_or l t r) same ∙ get_or_default places t r None few ∙ none in
        rw (is, same) (no_frame none (rw none_counted at counted))

    pub looks_kept : b ≡ false → LooksUp p s places t r places₁
    looks_kept filled =
        let (h, there) = is_some_one (get_or places t old) (asked ∙ ap not filled) in
        let kept : place_at places t ≡ Some h = get_or_default places t None old few ∙ there in
        let is : r ≡ Some h = read ∙ ap (λ (l : List (Option Here)). get_or l t r) same ∙ get_or_default places t r None few ∙ kept in
        rw (is, same) (is_kept kept)

-- ---- What the loop keeps

-- of one program: the state reached, and where the threads stand whose places are kept
pub record Sofar (p turns : List ℕ) (P : Program) (s rest : List ℕ) (places : List (Option Here)) (moves i : ℕ) : Type 0 where
  pub state : State
  pub reached : Reached turns P s rest state moves i
  pub knows : EachKept (λ u h. Knows p P state h) places

-- of every program that p holds, from any state reached after i₀ turns with m₀ moves
pub record Playing (p s₀ turns : List ℕ) (m₀ i₀ : ℕ) (s : List ℕ) (places : List (Option Here)) (moves i : ℕ) : Type 0 where
  pub long : length places ≡ mosts.threads
  pub threads : EachKept (λ u h. h.thread ≡ u) places
  pub few : moves ≤ i
  pub later : i₀ ≤ i
  pub same_length : length s ≡ length s₀
  pub sofar : (P : Program) (S₀ : State) (rest : List ℕ) → Loaded p P → Valid mosts P → Reached turns P s₀ rest S₀ m₀ i₀ → Sofar p turns P s rest places moves i

pub at_start : (p s turns : List ℕ) {m i : ℕ} → m ≤ i → Playing p s turns m i s (replicate 16 None) m i
at_start p s turns few =
    let none : (u : ℕ) → place_at (replicate 16 None) u ≡ None = λ u. every_get (λ (x : Option Here). x ≡ None) (replicate 16 None) u None refl (every_replicate (λ (x : Option Here). x ≡ None) 16 None refl) in
    record {
      long = refl;
      threads = λ u h kept. let both = sym (none u) ∙ kept in impossible cc;
      few = few;
      later = omega arith;
      same_length = refl;
      sofar = λ P S₀ rest loaded valid from. record { state = S₀; reached = from; knows = λ u h kept. let both = sym (none u) ∙ kept in impossible cc };
    }

pub at_end : {p s₀ turns s : List ℕ} {places : List (Option Here)} {m₀ i₀ moves i : ℕ} → Playing p s₀ turns m₀ i₀ s places moves i → length turns ≤ i
    → PlaysFrom p s₀ turns i₀ m₀ (Ok (Through moves)) s
at_end {moves = moves} playing all =
    record {
      next = λ j m h e. impossible cc;
      comes = λ P S₀ rest loaded valid from.
          let at = (playing.sofar P S₀ rest loaded valid from).reached in
          let end = reached_end at all in
          to_end (record { stop_is = sym (ap (λ (r : Run). r.stop) end); moves_are = sym (ap (λ (r : Run). r.moves) end) }) (rw end at.held);
    }

-- the copy where a stretch ends is one
same_next : {p turns : List ℕ} {i₀ i j n m : ℕ} {g h : Here} → ◌≡◌ {A = Result Stretch Stop} (Ok (AtCopy i n g)) (Ok (AtCopy j m h)) → (i₀ ≤ i) × CopyNext p turns i n g
    → (i₀ ≤ j) × CopyNext p turns j m h
same_next {p} {turns} {i₀} {i} {j} {n} {m} {g} {h} e next =
    let place : i ≡ j = cc in
    let moves : n ≡ m = cc in
    let here : g ≡ h = cc in
    rw (← place, ← moves, ← here) next

-- the same, of what is equal
pub same_playing : {p s₀ turns s s₁ : List ℕ} {places places₁ : List (Option Here)} {m₀ i₀ moves moves₁ i : ℕ} → s₁ ≡ s → places₁ ≡ places → moves₁ ≡ moves
    → Playing p s₀ turns m₀ i₀ s places moves i → Playing p s₀ turns m₀ i₀ s₁ places₁ moves₁ i
same_playing e₀ e₁ e₂ playing = rw (e₀, e₁, e₂) playing

-- ---- The thread whose turn it is, looked for

-- its place is kept, or it has no frame
pub record Looked (p s₀ turns : List ℕ) (m₀ i₀ : ℕ) (s : List ℕ) (places : List (Option Here)) (moves i t : ℕ) (r : Option Here) : Type 0 where
  pub playing : Playing p s₀ turns m₀ i₀ s places moves i
  pub is : place_at places t ≡ r
  pub idle : r ≡ None → Sees s Any (λ S. length (thread_at S t).frames) 0

pub looked : {p s₀ turns s : List ℕ} {places places₁ : List (Option Here)} {m₀ i₀ moves i t : ℕ} {r : Option Here} → Playing p s₀ turns m₀ i₀ s places moves i
    → LooksUp p s places t r places₁ → Looked p s₀ turns m₀ i₀ s places₁ moves i t r
looked playing (is_kept is) = record { playing = playing; is = is; idle = λ e. impossible cc }
looked playing (no_frame is none) = record { playing = playing; is = is; idle = λ e. none }
looked {p} {places = places} {t = t} playing (is_found {h} some counted place stands) =
    let few : t < mosts.threads = omega (arith, place, h.placed.thread) in
    let stored : place_at (set places t (Some h)) t ≡ Some h = get_or-set_same places t (Some h) None (omega (arith, few, playing.long)) in
    let same : (g : Here) → place_at (set places t (Some h)) t ≡ Some g → h ≡ g = λ g kept. let both = sym stored ∙ kept in cc in
    record {
      playing = record {
        long = length-set places t (Some h) ∙ playing.long;
        threads = each_kept (λ u g. g.thread ≡ u) (changed_set t (Some h)) (λ u g other. playing.threads u g) (λ g kept. subst (λ (x : Here). x.thread ≡ t) (same g kept) place);
        few = playing.few;
        later = playing.later;
        same_length = playing.same_length;
        sofar = λ P S₀ rest loaded valid from.
            let so = playing.sofar P S₀ rest loaded valid from in
            let count = counted.sees so.state rest so.reached.held tt ∙ ap (λ (u : ℕ). length (thread_at so.state u).frames) (sym place) in
            let knows = located loaded valid so.reached.fits so.reached.held count some stands in
            record {
              state = so.state;
              reached = so.reached;
              knows = each_kept (λ u g. Knows p P so.state g) (changed_set t (Some h)) (λ u g other. so.knows u g) (λ g kept. subst (Knows p P so.state) (same g kept) knows);
            };
      };
      is = stored;
      idle = λ e. impossible cc;
    }

-- ---- The turn

-- a stop: block and line are those of the innermost frame
stop_comes : {p s s₁ turns : List ℕ} {n i : ℕ} {h : Here} {e : Fault} {x : Stop} → i < length turns → h.thread ≡ get_or turns i 0 → n < Most.turns
    → PerformsHere p s h (Err (Stops e)) s₁ → StopsAt s₁ h e n x
    → {P : Program} {S : State} {rest : List ℕ} → Loaded p P → Valid mosts P → Reached turns P s rest S n i → Knows p P S h
    → Comes p turns P s₁ rest (Err x)
unfolding block_of line_now
stop_comes {s₁ = s₁} {h = h} {x = x} more is few does stops {S = S} {rest = rest} loaded valid at known =
    let t = h.thread in
    let did = has_stopped (performed_turn valid at known loaded few does) in
    let held : Held s₁ S rest = rw did.1 at.held in
    let frame = frame_is (stand valid at known) in
    let is_block : x.block ≡ block_of (thread_at S t).frames = stops.block.sees S rest held tt ∙ ap (λ (f : Frame). f.block) frame ∙ sym (ap block_of known.frames) in
    let is_line : x.line ≡ line_now (thread_at S t).frames = stops.line.sees S rest held tt ∙ ap (λ (f : Frame). f.line) frame ∙ sym (ap line_now known.frames) in
    let end = stops_there at more is did.0 in
    to_stop
    (record {
      stop_is = rw (stops.fault, stops.thread, is_block, is_line) (sym (ap (λ (r : Run). r.stop) end));
      moves_are = stops.moves ∙ sym (ap (λ (r : Run). r.moves) end);
    })
    (rw end held)

module _ {p s₀ turns s : List ℕ} {places : List (Option Here)} {m₀ i₀ moves i t : ℕ} (playing : Playing p s₀ turns m₀ i₀ s places moves i) (more : i < length turns)
    (is : t ≡ get_or turns i 0) where
  idles : ((P : Program) (S : State) (rest : List ℕ) → Loaded p P → Valid mosts P → Held s S rest → Fits mosts P moves S → 0 ≡ length (thread_at S t).frames)
      → Playing p s₀ turns m₀ i₀ s places moves (i + 1)
  idles idle =
      record {
        long = playing.long;
        threads = playing.threads;
        few = omega (arith, playing.few);
        later = omega (arith, playing.later);
        same_length = playing.same_length;
        sofar = λ P S₀ rest loaded valid from.
            let so = playing.sofar P S₀ rest loaded valid from in
            let at = so.reached in
            let waits = no_frame_waits P so.state t (idle P so.state rest loaded valid at.held at.fits) in
            record { state = so.state; reached = waits_on at more is waits; knows = so.knows };
      }

  -- there is no such thread
  pub no_turn : 16 ≤ t → Playing p s₀ turns m₀ i₀ s places moves (i + 1)
  no_turn past = idles λ P S rest loaded valid held fits. no_frames S t fits.few_threads past

  module _ (few : length turns ≤ Most.turns) {h : Here} (kept : place_at places t ≡ Some h) where
    few_moves : moves < Most.turns
    few_moves = omega (arith, playing.few)

    thread : h.thread ≡ t
    thread = playing.threads t h kept

    its_turn : h.thread ≡ get_or turns i 0
    its_turn = thread ∙ is

    stored : (x : Option Here) → place_at (set places t x) t ≡ x
    stored x = get_or-set_same places t x None (omega (arith, thread, h.placed.thread, playing.long))

    -- what the line came to, of one program
    turn_performed : {r : Result Move Halt} {s₁ : List ℕ} → PerformsHere p s h r s₁ → {P : Program} {rest : List ℕ} → Loaded p P → Valid mosts P
        → (so : Sofar p turns P s rest places moves i) → (let k = so.knows t h kept in Performed h.thread k.frame k.callers s rest r s₁ (turn mosts P so.state h.thread))
    turn_performed does loaded valid so = performed_turn valid so.reached (so.knows t h kept) loaded few_moves does

    -- a turn that moves, and the place that it leaves to keep
    moves_turn : {m : Move} {s₁ : List ℕ} {places₁ : List (Option Here)} → PerformsHere p s h (Ok m) s₁ → length s₁ ≡ length s → Changed t places places₁
        → ((g : Here) → place_at places₁ t ≡ Some g → g.thread ≡ t)
        → ((P : Program) (S S₁ : State) (k : Knows p P S h) → Loaded p P → Fits mosts P (moves + 1) S₁ → Went h.thread k.frame k.callers S₁ m
        → (g : Here) → place_at places₁ t ≡ Some g → Knows p P S₁ g)
        → Playing p s₀ turns m₀ i₀ s₁ places₁ (moves + 1) (i + 1)
    moves_turn does long changed threads then =
        record {
          long = changed.long ∙ playing.long;
          threads = each_kept (λ u g. g.thread ≡ u) changed (λ u g other. playing.threads u g) threads;
          few = omega (arith, playing.few);
          later = omega (arith, playing.later);
          same_length = long ∙ playing.same_length;
          sofar = λ P S₀ rest loaded valid from.
              let so = playing.sofar P S₀ rest loaded valid from in
              let to = has_moved (turn_performed does loaded valid so) in
              let reached = moves_on so.reached more its_turn valid to.is to.held in
              record {
                state = to.state;
                reached = reached;
                knows = each_kept (λ u g. Knows p P to.state g) changed
                    (λ u g other at. knows_other (so.knows u g at) h.thread to.is (λ same. other (sym (playing.threads u g at) ∙ same ∙ thread)))
                    (then P so.state to.state (so.knows t h kept) loaded reached.fits to.went);
              };
        }

    pub turn_goes_next : {r : Result Move Halt} {s₁ : List ℕ} (g : Here) → r ≡ Ok Next → PerformsHere p s h r s₁ → length s₁ ≡ length s
        → g.thread ≡ h.thread → g.depth ≡ h.depth → g.row ≡ (h.row + 8) % 8192 → Playing p s₀ turns m₀ i₀ s₁ (set places t (Some g)) (moves + 1) (i + 1)
    turn_goes_next g e does long same_thread same_depth row =
        let same : (x : Here) → place_at (set places t (Some g)) t ≡ Some x → g ≡ x = λ x at. let both = sym (stored (Some g)) ∙ at in cc in
        moves_turn (same_answer e does) long (changed_set t (Some g))
        (λ x at. subst (λ (y : Here). y.thread ≡ t) (same x at) (same_thread ∙ thread))
        (λ P S S₁ k loaded fits went x at. subst (Knows p P S₁) (same x at) (knows_next k loaded fits (went_next went) same_thread same_depth row))

    pub turn_stays : {r : Result Move Halt} {s₁ : List ℕ} → r ≡ Ok Stay → PerformsHere p s h r s₁ → length s₁ ≡ length s
        → Playing p s₀ turns m₀ i₀ s₁ places (moves + 1) (i + 1)
    turn_stays e does long =
        let same : (x : Here) → place_at places t ≡ Some x → h ≡ x = λ x at. let both = sym kept ∙ at in cc in
        moves_turn (same_answer e does) long (changed_none t) (playing.threads t)
        (λ P S S₁ k loaded fits went x at. subst (Knows p P S₁) (same x at) (knows_same k (went_same went)))

    pub turn_leaves_frame : {r : Result Move Halt} {s₁ : List ℕ} → r ≡ Ok Turned → PerformsHere p s h r s₁ → length s₁ ≡ length s
        → Playing p s₀ turns m₀ i₀ s₁ (set places t None) (moves + 1) (i + 1)
    turn_leaves_frame e does long =
        moves_turn (same_answer e does) long (changed_set t None)
        (λ x at. let both = sym (stored None) ∙ at in impossible cc)
        (λ P S S₁ k loaded fits went x at. let both = sym (stored None) ∙ at in impossible cc)

    pub turn_waits : {r : Result Move Halt} {s₁ : List ℕ} → r ≡ Err Waits → PerformsHere p s h r s₁ → length s₁ ≡ length s
        → Playing p s₀ turns m₀ i₀ s₁ places moves (i + 1)
    turn_waits e does long =
        record {
          long = playing.long;
          threads = playing.threads;
          few = omega (arith, playing.few);
          later = omega (arith, playing.later);
          same_length = long ∙ playing.same_length;
          sofar = λ P S₀ rest loaded valid from.
              let so = playing.sofar P S₀ rest loaded valid from in
              let did = has_waited (turn_performed (same_answer e does) loaded valid so) in
              rw did.1 (record { state = so.state; reached = waits_on so.reached more its_turn did.0; knows = so.knows });
        }

    pub turn_stops : {r : Result Move Halt} {s₁ : List ℕ} {e : Fault} {x : Stop} → r ≡ Err (Stops e) → PerformsHere p s h r s₁ → StopsAt s₁ h e moves x
        → PlaysFrom p s₀ turns i₀ m₀ (Err x) s₁
    turn_stops e does stops =
        record {
          next = λ j m g e. impossible cc;
          comes = λ P S₀ rest loaded valid from.
              let so = playing.sofar P S₀ rest loaded valid from in
              stop_comes more its_turn few_moves (same_answer e does) stops loaded valid so.reached (so.knows t h kept);
        }

    -- its line is a copy
    pub turn_at_copy : get_or p (h.row + 0) 0 ≡ form_number Copy → PlaysFrom p s₀ turns i₀ m₀ (Ok (AtCopy i moves h)) s
    turn_at_copy form =
        record {
          next = λ j m g e. same_next e (playing.later, record { more = more; few = playing.few; thread = its_turn; form = form });
          comes = λ P S₀ rest loaded valid from.
              let so = playing.sofar P S₀ rest loaded valid from in
              to_copy so.reached (so.knows t h kept);
        }

-- the thread has no frame
pub turn_idles : {p s₀ turns s : List ℕ} {places : List (Option Here)} {m₀ i₀ moves i t : ℕ} {r : Option Here} → Looked p s₀ turns m₀ i₀ s places moves i t r → i < length turns
    → t ≡ get_or turns i 0 → r ≡ None → Playing p s₀ turns m₀ i₀ s places moves (i + 1)
turn_idles look more is none = idles look.playing more is λ P S rest loaded valid held fits. (look.idle none).sees S rest held tt

-- ---- A copy's turn, between two stretches

module _ {p s turns s₁ : List ℕ} {i n : ℕ} {h : Here} {r : Result Move Halt} (copy : CopyNext p turns i n h) (few : length turns ≤ Most.turns) (does : PerformsHere p s h r s₁) where
  few_before : n < Most.turns
  few_before = omega (arith, copy.more, copy.few, few)

  pub moves_past : {m : Move} {x : Result Stretch Stop} {s₂ : List ℕ} → r ≡ Ok m → PlaysFrom p s₁ turns (i + 1) (n + 1) x s₂ → PlaysPast p s turns i n h x s₂
  moves_past e on =
      record {
        next = on.next;
        comes = λ P S rest loaded valid at.
            let to = has_moved (performed_turn valid at.0 at.1 loaded few_before (same_answer e does)) in
            on.comes P to.state rest loaded valid (moves_on at.0 copy.more copy.thread valid to.is to.held);
      }

  pub waits_past : {x : Result Stretch Stop} {s₂ : List ℕ} → r ≡ Err Waits → PlaysFrom p s₁ turns (i + 1) n x s₂ → PlaysPast p s turns i n h x s₂
  waits_past e on =
      record {
        next = on.next;
        comes = λ P S rest loaded valid at.
            let did = has_waited (performed_turn valid at.0 at.1 loaded few_before (same_answer e does)) in
            on.comes P S rest loaded valid (rw did.1 (waits_on at.0 copy.more copy.thread did.0));
      }

  pub stops_past : {e : Fault} {x : Stop} → r ≡ Err (Stops e) → StopsAt s₁ h e n x → PlaysPast p s turns i n h (Err x) s₁
  stops_past e stops =
      record {
        next = λ j m g e. impossible cc;
        comes = λ P S rest loaded valid at. stop_comes copy.more copy.thread few_before (same_answer e does) stops loaded valid at.0 at.1;
      }

-- ---- From copy to copy

from_copy : {p turns : List ℕ} {P : Program} {s rest : List ℕ} {i m : ℕ} {h : Here} {r : Result Stretch Stop} {s₁ : List ℕ} → PlaysPast p s turns i m h r s₁
    → Loaded p P → Valid mosts P → Comes p turns P s rest (Ok (AtCopy i m h)) → Comes p turns P s₁ rest r
from_copy {P = P} {rest = rest} past loaded valid (to_copy {S = S} at knows) = past.comes P S rest loaded valid (at, knows)

-- a stretch, and the one past the copy where it ends
pub plays_past : {p s₀ turns s s₁ : List ℕ} {i m : ℕ} {h : Here} {x : Stretch} {r : Result Stretch Stop} → PlaysFrom p s₀ turns 0 0 (Ok x) s → x ≡ AtCopy i m h
    → PlaysPast p s turns i m h r s₁ → PlaysFrom p s₀ turns 0 0 r s₁
plays_past {p} {turns = turns} {s = s} plays is past =
    record {
      next = λ j m g e. (omega arith, (past.next j m g e).1);
      comes = λ P S rest loaded valid at. from_copy past loaded valid (subst (λ (y : Stretch). Comes p turns P s rest (Ok y)) is (plays.comes P S rest loaded valid at));
    }

module _ {p turns s rest : List ℕ} {P : Program} where
  has_ended : {m : ℕ} → Comes p turns P s rest (Ok (Through m)) → Tells P turns (Ok m) × Held s (run mosts P turns).state rest
  has_ended (to_end tells held) = (tells, held)

  was_stopped : {x : Stop} → Comes p turns P s rest (Err x) → Tells P turns (Err x) × Held s (run mosts P turns).state rest
  was_stopped (to_stop tells held) = (tells, held)

-- the last stretch, or one that a turn stopped
module _ {p s₀ turns s : List ℕ} where
  pub plays_all : {x : Stretch} {m : ℕ} → PlaysFrom p s₀ turns 0 0 (Ok x) s → x ≡ Through m → Plays p s₀ turns (Ok m) s
  plays_all {m = m} plays is =
      let end : (P : Program) (rest : List ℕ) → Loaded p P → Valid mosts P → Held s₀ start rest → Tells P turns (Ok m) × Held s (run mosts P turns).state rest
      = λ P rest loaded valid held.
      has_ended (subst (λ (y : Stretch). Comes p turns P s rest (Ok y)) is (plays.comes P start rest loaded valid (reached_start turns P s₀ rest valid held))) in
      record { answers = λ P rest loaded valid held. (end P rest loaded valid held).0; leaves = λ P rest loaded valid held. (end P rest loaded valid held).1 }

  pub plays_stopped : {x : Stop} → PlaysFrom p s₀ turns 0 0 (Err x) s → Plays p s₀ turns (Err x) s
  plays_stopped {x} plays =
      let end : (P : Program) (rest : List ℕ) → Loaded p P → Valid mosts P → Held s₀ start rest → Tells P turns (Err x) × Held s (run mosts P turns).state rest
      = λ P rest loaded valid held. was_stopped (plays.comes P start rest loaded valid (reached_start turns P s₀ rest valid held)) in
      record { answers = λ P rest loaded valid held. (end P rest loaded valid held).0; leaves = λ P rest loaded valid held. (end P rest loaded valid held).1 }

-- how many turns are left after a stretch, the copy's own among them
abbrev pub turns_left : List ℕ → Stretch → ℕ
turns_left turns (Through m) = 0
turns_left turns (AtCopy i m h) = length turns - i

past_copy_fewer : {p turns s s₁ : List ℕ} {i m : ℕ} {h : Here} (r : Stretch) → PlaysPast p s turns i m h (Ok r) s₁ → i < length turns → turns_left turns r < length turns - i
past_copy_fewer (Through m) past more = omega (arith, more)
past_copy_fewer (AtCopy j n g) past more = let at = past.next j n g refl in omega (arith, at.0, at.1.more)

pub fewer_left : {p s₀ turns s s₁ : List ℕ} {i m : ℕ} {h : Here} {x r : Stretch} → PlaysFrom p s₀ turns 0 0 (Ok x) s → x ≡ AtCopy i m h → PlaysPast p s turns i m h (Ok r) s₁
    → turns_left turns r < turns_left turns x
fewer_left {turns = turns} {i = i} {m = m} {h = h} {r = r} plays is past =
    subst (λ (y : Stretch). turns_left turns r < turns_left turns y) (sym is) (past_copy_fewer r past (plays.next i m h (ap Ok is)).1.more)

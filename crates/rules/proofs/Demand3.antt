-- Demand 3: the stripped script matches the guarded one, since until a guard stops the guarded run each turn leaves the stripped run equal to it, erased.
use Prim.Native.Nat.{ℕ, zero, suc, ◌<◌}
use native.Mathlib.Nat.{le_refl, le_step, le_of_suc-le}
use mathlib.Core.Path.{◌≡◌, refl, sym, ap, ◌∙◌, subst⁻¹}
use mathlib.Core.Bool.{Bool, true, false, cond, false≢true}
use mathlib.Core.List.{List, [], ◌∷◌}
use mathlib.Core.Logic.{◌⊎◌, inl, inr}
use lib.ListN.{length, take, get_or}
use Rattle.rules.specs.declared.Mosts.{Mosts}
use Rattle.rules.specs.Numbers as No
use Rattle.rules.specs.Script.{Program}
use Rattle.rules.specs.State.{State, thread_at, start}
use Rattle.rules.specs.Turn.{Res, ok, wait, stop, turn}
use Rattle.rules.specs.Run.{Stop, none, stopped, Run, fresh, after, advance, run_from, run, finished, stuck, open_end, all_finished, waits, up_to, all_wait, end_of}
use Rattle.rules.specs.Tables.{state_words}
use Rattle.rules.specs.Stripped.{strip, erase, guarded, stripped, StopsAt, GuardStopsBy, Matches}
use Rattle.rules.proofs.ListLaws.{by_bool, all_weaker}
use Rattle.rules.proofs.Runs.{step, run_one_more}
use Rattle.rules.proofs.Simulation.{Follows, Unguarded, sim_turn}

-- ---- A run that has stopped

-- a run that has stopped stays as it stopped
stop_stays : (m : Mosts) (P : Program) (S : State) (n : ℕ) (k : Stop) (t : ℕ) → (k ≡ none) ⊎ ((advance m P S n k t).stop ≡ k)
unfolding advance
stop_stays m P S n none t = inl refl
stop_stays m P S n (stopped k i b l) t = inr refl

-- the stop is a guard's
by_guard : Stop → Bool
by_guard none = false
by_guard (stopped k t b l) = No.is_guard k

-- so where no guard has stopped it, none had stopped it a turn before
unguarded_before : (before then : Stop) → (before ≡ none) ⊎ (then ≡ before) → by_guard then ≡ false → by_guard before ≡ false
unfolding by_guard
unguarded_before before then (inl e) h = rw e refl
unguarded_before before then (inr e) h = rw e at h

-- ---- What a stripped run keeps, whatever the guarded one does: no guard has stopped it, and its state is an erased one

record Clean (s : Run) : Type 0 where
  unguarded : by_guard s.stop ≡ false
  origin : State
  erased : s.state ≡ erase origin

clean_after : (S : State) (n t : ℕ) (q : Res State) → Unguarded erase q → Clean (after (erase S) n t q)
unfolding by_guard after
clean_after S n t (ok S₁) h = record { unguarded = refl; origin = h.0; erased = h.1 }
clean_after S n t wait h = record { unguarded = refl; origin = S; erased = refl }
clean_after S n t (stop k) h = record { unguarded = h; origin = S; erased = refl }

clean_advance : (m : Mosts) (P : Program) (S : State) (n : ℕ) (k : Stop) (t : ℕ) → by_guard k ≡ false → Clean (advance m (strip P) (erase S) n k t)
unfolding by_guard advance
clean_advance m P S n none t h = clean_after S n t _ (sim_turn m P S t).unguarded
clean_advance m P S n (stopped k i b l) t h = record { unguarded = h; origin = S; erased = refl }

clean_step : (m : Mosts) (P : Program) (s : Run) (t : ℕ) → Clean s → Clean (step m (strip P) s t)
unfolding step
clean_step m P s t h =
    subst⁻¹ (λ (S : State). Clean (advance m (strip P) S s.moves s.stop t)) h.erased
    (clean_advance m P h.origin s.moves s.stop t h.unguarded)

-- ---- What both runs keep: the stripped run is the guarded one, erased, unless a guard has stopped that

erase_run : Run → Run
erase_run r = record { state = erase r.state; moves = r.moves; stop = r.stop }

record Tracks (g s : Run) : Type 0 where
  is_erased : by_guard g.stop ≡ false → s ≡ erase_run g
  clean : Clean s

erased_after : (S : State) (n t : ℕ) (r q : Res State) → Follows erase r q → by_guard (after S n t r).stop ≡ false
    → after (erase S) n t q ≡ erase_run (after S n t r)
unfolding by_guard after erase_run erase thread_at
erased_after S n t (ok S₁) q h e = rw h refl
erased_after S n t wait q h e = rw h refl
erased_after S n t (stop k) q h e = rw (h e) refl

erased_advance : (m : Mosts) (P : Program) (S : State) (n : ℕ) (k : Stop) (t : ℕ) → by_guard (advance m P S n k t).stop ≡ false
    → advance m (strip P) (erase S) n k t ≡ erase_run (advance m P S n k t)
unfolding advance erase_run
erased_advance m P S n none t e = erased_after S n t _ _ (sim_turn m P S t).follows e
erased_advance m P S n (stopped k i b l) t e = refl

tracks_step : (m : Mosts) (P : Program) (g s : Run) (t : ℕ) → Tracks g s → Tracks (step m P g t) (step m (strip P) s t)
unfolding step erase_run
tracks_step m P g s t h =
    record {
      is_erased =
          λ u.
          subst⁻¹ (λ (r : Run). step m (strip P) r t ≡ erase_run (step m P g t))
          (h.is_erased (unguarded_before _ _ (stop_stays m P _ _ g.stop t) u))
          (erased_advance m P g.state g.moves g.stop t u);
      clean = clean_step m P s t h.clean;
    }

tracks_from : (m : Mosts) (P : Program) (g s : Run) (ts : List ℕ) → Tracks g s → Tracks (run_from m P g ts) (run_from m (strip P) s ts)
unfolding run_from step
tracks_from m P g s [] h = h
tracks_from m P g s (t ∷ ts) h = tracks_from m P (step m P g t) (step m (strip P) s t) ts (tracks_step m P g s t h)

tracks_run : (m : Mosts) (P : Program) (ts : List ℕ) → Tracks (run m P ts) (run m (strip P) ts)
unfolding run start by_guard erase_run erase
tracks_run m P ts =
    tracks_from m P fresh fresh ts (record { is_erased = λ _. refl; clean = record { unguarded = refl; origin = start; erased = refl } })

-- ---- Stuck: where the guarded turn would wait, so would the stripped one

waits_too : (r q : Res State) → Follows erase r q → waits r ≡ true → waits q ≡ true
unfolding waits
waits_too (ok S) q h e = absurd (false≢true e)
waits_too wait q h e = rw h refl
waits_too (stop k) q h e = absurd (false≢true e)

all_wait_too : (m : Mosts) (P : Program) (S : State) → all_wait m P S ≡ true → all_wait m (strip P) (erase S) ≡ true
unfolding all_wait erase
all_wait_too m P S e =
    all_weaker _ _ (λ t. waits_too (turn m P S t) (turn m (strip P) (erase S) t) (sim_turn m P S t).follows) (up_to (length S.threads)) e

stuck_by : (done waits waits' : Bool) → (waits ≡ true → waits' ≡ true)
    → cond done finished (cond waits stuck open_end) ≡ stuck → cond done finished (cond waits' stuck open_end) ≡ stuck
stuck_by true w w' h e = e
stuck_by false true w' h e = rw (h refl) refl
stuck_by false false w' h e = cc

erased_stuck : (m : Mosts) (P : Program) (S : State) → end_of m P S ≡ stuck → end_of m (strip P) (erase S) ≡ stuck
unfolding end_of all_finished erase
erased_stuck m P S e = stuck_by (all_finished S) (all_wait m P S) (all_wait m (strip P) (erase S)) (all_wait_too m P S) e

-- ---- After i turns

module _ (m : Mosts) (P : Program) (ts : List ℕ) where
  tracks_at : (i : ℕ) → Tracks (guarded m P ts i) (stripped m P ts i)
  unfolding guarded stripped
  tracks_at i = tracks_run m P (take i ts)

  -- before the guarded run stops
  is_erased_at : (i : ℕ) → (guarded m P ts i).stop ≡ none → stripped m P ts i ≡ erase_run (guarded m P ts i)
  unfolding by_guard
  is_erased_at i e = (tracks_at i).is_erased (ap by_guard e)

  -- and after a stop that is not a guard's
  same_stop_at : (i : ℕ) → by_guard (guarded m P ts i).stop ≡ false → (stripped m P ts i).stop ≡ (guarded m P ts i).stop
  unfolding erase_run
  same_stop_at i u = ap (λ (r : Run). r.stop) ((tracks_at i).is_erased u)

  stop_stays_at : (i : ℕ) → i < length ts → ((guarded m P ts i).stop ≡ none) ⊎ ((guarded m P ts (suc i)).stop ≡ (guarded m P ts i).stop)
  unfolding guarded run step
  stop_stays_at i h = rw (run_one_more m P fresh ts i h) (stop_stays m P _ _ _ (get_or ts i 0))

  -- ---- At which turn a guard stopped the guarded run

  guard_stops : (i : ℕ) (then : Stop) → i < length ts → (guarded m P ts i).stop ≡ none → (guarded m P ts (suc i)).stop ≡ then
      → by_guard then ≡ true → GuardStopsBy m P ts i
  unfolding by_guard
  guard_stops i none h before e g = absurd (false≢true g)
  guard_stops i (stopped k t b l) h before e g =
      record {
        at = i;
        early = le_refl i;
        number = k;
        thread = t;
        block = b;
        line = l;
        stops = record { listed = h; before = before; then_stopped = e };
        guard = g;
      }

  a_turn_later : (i : ℕ) → GuardStopsBy m P ts i → GuardStopsBy m P ts (suc i)
  a_turn_later i h =
      record {
        at = h.at;
        early = le_step h.early;
        number = h.number;
        thread = h.thread;
        block = h.block;
        line = h.line;
        stops = h.stops;
        guard = h.guard;
      }

  -- the turn is found from the last one back: before it the run had not stopped, or it had stopped as it has now
  find_guard : (i : ℕ) → i < length ts → by_guard (guarded m P ts (suc i)).stop ≡ true → GuardStopsBy m P ts i
  unfolding by_guard guarded run run_from
  find_guard zero h g =
      elim (stop_stays_at zero h) [ inl before ↦ guard_stops zero _ h before refl g | inr stays ↦ absurd (false≢true (rw stays at g)) ]
  find_guard (suc i) h g =
      elim (stop_stays_at (suc i) h) [
        | inl before ↦ guard_stops (suc i) _ h before refl g
        | inr stays ↦ a_turn_later i (find_guard i (le_of_suc-le h) (rw stays at g))
      ]

  -- ---- The sentences of demand 3 on stops

  goes_on : (i : ℕ) → (guarded m P ts i).stop ≡ none → (stripped m P ts i).stop ≡ none
  unfolding by_guard
  goes_on i e = same_stop_at i (ap by_guard e) ∙ e

  stops_too : (i k t b l : ℕ) → StopsAt m P ts (guarded m P ts) i k t b l → No.is_guard k ≡ false → StopsAt m P ts (stripped m P ts) i k t b l
  unfolding by_guard
  stops_too i k t b l h u =
      record {
        listed = h.listed;
        before = goes_on i h.before;
        then_stopped = same_stop_at (suc i) (ap by_guard h.then_stopped ∙ u) ∙ h.then_stopped;
      }

  never_guard : (i k t b l : ℕ) → StopsAt m P ts (stripped m P ts) i k t b l → No.is_guard k ≡ false
  unfolding by_guard
  never_guard i k t b l h = sym (ap by_guard h.then_stopped) ∙ (tracks_at (suc i)).clean.unguarded

  same_cause : (i k t b l : ℕ) → StopsAt m P ts (stripped m P ts) i k t b l → by_guard (guarded m P ts (suc i)).stop ≡ false
      → StopsAt m P ts (guarded m P ts) i k t b l
  same_cause i k t b l h u =
      record {
        listed = h.listed;
        before = sym (same_stop_at i (unguarded_before _ _ (stop_stays_at i h.listed) u)) ∙ h.before;
        then_stopped = sym (same_stop_at (suc i) u) ∙ h.then_stopped;
      }

  has_cause : (i k t b l : ℕ) → StopsAt m P ts (stripped m P ts) i k t b l → StopsAt m P ts (guarded m P ts) i k t b l ⊎ GuardStopsBy m P ts i
  has_cause i k t b l h =
      by_bool (by_guard (guarded m P ts (suc i)).stop) (λ g. inr (find_guard i h.listed g)) (λ u. inl (same_cause i k t b l h u))

-- ---- Demand 3, for every program and every list of turns

pub stripped_matches : (m : Mosts) (P : Program) (ts : List ℕ) → Matches m P ts
unfolding erase_run all_finished erase
stripped_matches m P ts =
    record {
      same_tables = λ i h e. ap (λ (r : Run). state_words r.state) (sym (is_erased_at m P ts i e));
      same_moves = λ i h e. ap (λ (r : Run). r.moves) (sym (is_erased_at m P ts i e));
      both_finished = λ i h e. ap (λ (r : Run). all_finished r.state) (sym (is_erased_at m P ts i e));
      stuck_too = λ i h e k. rw (is_erased_at m P ts i e) (erased_stuck m P (guarded m P ts i).state k);
      goes_on = λ i h e. goes_on m P ts i e;
      stops_too = stops_too m P ts;
      never_guard = never_guard m P ts;
      has_cause = has_cause m P ts;
    }

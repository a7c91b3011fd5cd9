-- A turn performs the line where its thread stands, which the tables tell; a thread without a frame idles. A program's words are a table that is loaded.
use Prim.Native.Nat.{ℕ, suc, ◌≤◌}
use native.Mathlib.Omega.{arith}
use mathlib.Core.Path.{◌≡◌, refl, sym, ap, ◌∙◌, subst}
use mathlib.Core.List.{List, [], ◌∷◌, ◌++◌}
use lib.ListN.{length, get_or-eq_default}
use Rattle.rules.specs.Mosts.{mosts}
use Rattle.rules.specs.Script.{Program, line_at}
use Rattle.rules.specs.Valid.{Valid}
use Rattle.rules.specs.State.{Frame, Sender, Thread, no_thread, State, thread_at}
use Rattle.rules.specs.Turn as R
use Rattle.rules.specs.Turn.{Res, ok, wait, turn_of, turn}
use Rattle.rules.specs.Fits.{Fits}
use Rattle.rules.specs.Tables.{program_words}
use Rattle.rules.proofs.Accepted.{table_lines}
use Rattle.rules.proofs.Keeps.{here_fits}
use Rattle.table.specs.declared.standing.Here.{Here}
use Rattle.table.specs.StateTable.{Held, Sees, Any, OnLine, Stands}
use Rattle.table.proofs.ProgramTable.{program_words_by_lines}
use Rattle.table.proofs.ProgramLines.{blocks_of_lines}
use Rattle.checks.specs.Checked.{here_at, Stand}
use Rattle.checks.proofs.Standing.{frame_is}
use Rattle.turn.specs.Performed.{Loaded, Performed, PerformsHere, Taken, moved, waited, stopped, TakesTurn}
use Rattle.std.specs.Prelude.{Result, Err}
use Rattle.checks.specs.declared.form_checks.Halt.{Halt}
use Rattle.checks.specs.declared.form_checks.Halt.TheVariants.{Waits}
use Rattle.turn.specs.declared.Move.{Move}

-- ---- The program's table

-- the words of a valid program, and whatever stands past them
pub words_loaded : (P : Program) → Valid mosts P → {p : List ℕ} (rest : List ℕ) → p ≡ program_words P ++ rest → Loaded p P
words_loaded P valid rest words =
    record {
      counts = _;
      rest = rest;
      filled = record {
        words = words ∙ ap (λ (ws : List ℕ). ws ++ rest) (program_words_by_lines P);
        lines = table_lines P valid;
        blocks = rw (blocks_of_lines P) valid.few_blocks;
      };
    }

-- ---- No frame

-- the turn of thread t waits
pub record Idles (s : List ℕ) (t : ℕ) : Type 0 where
  pub idles : (P : Program) (n : ℕ) (S : State) (rest : List ℕ) → Held s S rest → Fits mosts P n S → R.turn mosts P S t ≡ wait

frameless : (P : Program) (S : State) (t : ℕ) (d : Sender) (fs : List Frame) → length fs ≡ 0 → turn_of mosts P S t d fs ≡ wait
unfolding turn_of
frameless P S t d [] none = refl
frameless P S t d (f ∷ fs) none = absurd (omega arith)

pub no_frame_waits : (P : Program) (S : State) (t : ℕ) → 0 ≡ length (thread_at S t).frames → turn mosts P S t ≡ wait
unfolding turn
no_frame_waits P S t none = frameless P S t (thread_at S t).sender (thread_at S t).frames (sym none)

-- there are 16 threads at most
pub no_frames : (S : State) (t : ℕ) → length S.threads ≤ 16 → 16 ≤ t → 0 ≡ length (thread_at S t).frames
unfolding thread_at
no_frames S t few past = sym (ap (λ (u : Thread). length u.frames) (get_or-eq_default S.threads no_thread (omega arith)))

pub past_idles : {s : List ℕ} {t : ℕ} → 16 ≤ t → Idles s t
past_idles {t = t} past = record { idles = λ P n S rest held fits. no_frame_waits P S t (no_frames S t fits.few_threads past) }

pub frameless_idles : {s : List ℕ} {t d : ℕ} → Sees s Any (λ S. length (thread_at S t).frames) d → d ≡ 0 → Idles s t
frameless_idles {t = t} seen none = record { idles = λ P n S rest held fits. no_frame_waits P S t (sym none ∙ seen.sees S rest held tt) }

-- ---- The frame where a thread stands

pub record Found (p s : List ℕ) (t : ℕ) (h : Here) (P : Program) (n : ℕ) (S : State) (rest : List ℕ) : Type 0 where
  pub frame : Frame
  pub callers : List Frame
  pub stand : Stand s h P n S frame callers rest
  pub on_line : OnLine p P frame.block frame.line h
  pub performs : R.turn mosts P S t ≡ R.perform mosts P (here_at S h.thread frame callers) (line_at P frame.block frame.line)

-- the code's place is that of thread t's innermost frame
pub record Finds (p s : List ℕ) (t : ℕ) (h : Here) : Type 0 where
  pub finds : (P : Program) (n : ℕ) (S : State) (rest : List ℕ) → Loaded p P → Held s S rest → Valid mosts P → Fits mosts P n S → Found p s t h P n S rest

pub turn_performs : (P : Program) (S : State) (t : ℕ) {f : Frame} {fs : List Frame} → (thread_at S t).frames ≡ f ∷ fs
    → R.turn mosts P S t ≡ R.perform mosts P (here_at S t f fs) (line_at P f.block f.line)
unfolding turn turn_of
turn_performs P S t frames = ap (turn_of mosts P S t (thread_at S t).sender) frames

module _ {p s : List ℕ} {d : ℕ} {h : Here} (stands : Stands p s d h) (some : d ≡ 0 → ⊥)
    {P : Program} {n : ℕ} {S : State} {rest : List ℕ} (loaded : Loaded p P) (held : Held s S rest) (valid : Valid mosts P) (fits : Fits mosts P n S)
    (count : d ≡ length (thread_at S h.thread).frames) where
  pub found : (gs : List Frame) → (thread_at S h.thread).frames ≡ gs → Found p s h.thread h P n S rest
  found [] frames = absurd (some (count ∙ ap length frames))
  found (f ∷ fs) frames =
      let here = here_fits mosts P n S h.thread f fs fits frames in
      let frame-count : d ≡ suc (length fs) = count ∙ ap length frames in
      let deep = stands.depth S rest held (sym count) (omega (arith, frame-count, here.few)) in
      let st : Stand s h P n S f fs rest = record { held = held; valid = valid; fits = fits; frames = frames; depth = omega (arith, frame-count, deep) } in
      let row = stands.row P S loaded.counts loaded.rest rest loaded.filled held in
      record {
        frame = f;
        callers = fs;
        stand = st;
        on_line = rw (frame_is st) at row here.frame.block here.frame.line;
        performs = turn_performs P S h.thread frames;
      }

pub locates : {p s : List ℕ} {t d : ℕ} {h : Here} → Sees s Any (λ S. length (thread_at S t).frames) d → (d ≡ 0 → ⊥) → h.thread ≡ t → Stands p s d h → Finds p s t h
locates {p} {s} {t} {d} {h} seen some same stands =
    record {
      finds = λ P n S rest loaded held valid fits.
          let count = seen.sees S rest held tt ∙ ap (λ u. length (thread_at S u).frames) (sym same) in
          subst (λ u. Found p s u h P n S rest) same (found stands some loaded held valid fits count (thread_at S h.thread).frames refl);
    }

-- ---- The turn

taken : {t : ℕ} {f : Frame} {fs : List Frame} {s rest s₁ : List ℕ} {r : Result Move Halt} {x : Res State} → Performed t f fs s rest r s₁ x → Taken s rest r s₁ x
taken (moved held went) = moved held
taken waited = waited
taken (stopped is) = stopped is

pub idle_takes : {p s : List ℕ} {t : ℕ} → Idles s t → TakesTurn p s t (Err Waits) s
idle_takes idle = record { takes = λ P n S rest loaded held valid fits few. rw (idle.idles P n S rest held fits) waited }

pub found_takes : {p s s₁ : List ℕ} {t : ℕ} {h : Here} {r : Result Move Halt} → Finds p s t h → PerformsHere p s h r s₁ → TakesTurn p s t r s₁
found_takes place does =
    record {
      takes = λ P n S rest loaded held valid fits few.
          let at = place.finds P n S rest loaded held valid fits in
          rw at.performs (taken (does.performs P n S at.frame at.callers rest loaded at.stand few at.on_line));
    }

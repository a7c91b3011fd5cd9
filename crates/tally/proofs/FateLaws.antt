-- What comes of one turn on the tables is what the rules say of it.
use Prim.Native.Nat.{ℕ, ◌≤◌, ◌<◌}
use native.Mathlib.Omega.{arith}
use mathlib.Core.Path.{◌≡◌, refl, sym, ◌∙◌, subst}
use mathlib.Core.Bool.{true, false}
use mathlib.Core.List.{List, [], ◌∷◌}
use lib.ListN.{length}
use Rattle.std.specs.Prelude.{Result, Ok, Err}
use Rattle.rules.specs.declared.faults.Fault.{Fault}
use Rattle.rules.specs.Mosts as Most
use Rattle.rules.specs.Mosts.{mosts}
use Rattle.rules.specs.Script.{Program}
use Rattle.rules.specs.Valid.{Valid}
use Rattle.rules.specs.State.{Frame, State, thread_at}
use Rattle.rules.specs.Turn.{Res, turn}
use Rattle.rules.specs.Run.{after, is_finished}
use Rattle.rules.specs.Fits.{Fits}
use Rattle.table.specs.StateTable.{Held, Sees, Any}
use Rattle.checks.specs.declared.form_checks.Halt.{Halt}
use Rattle.checks.specs.declared.form_checks.Halt.TheVariants.{Waits, Stops}
use Rattle.turn.specs.declared.Move.{Move}
use Rattle.turn.specs.Performed.{Loaded, Taken, moved, waited, stopped, TakesTurn}
use Rattle.turn.proofs.Located.{no_frames, no_frame_waits}
use Rattle.tally.specs.declared.Fate.{Fate}
use Rattle.tally.specs.declared.Fate.TheVariants.{Moved, Waited, Idled, Halted}
use Rattle.tally.specs.Fates.{fate_by}
use Rattle.tally.specs.Counted.{TakesOne}

-- a thread is finished, or has frames
no_frames_finished : (S : State) (t : ℕ) → 0 ≡ length (thread_at S t).frames → is_finished (thread_at S t) ≡ true
unfolding is_finished
no_frames_finished S t none = go (thread_at S t).frames none
  where
    go : (fs : List Frame) → 0 ≡ length fs → elim fs [ [] ↦ true | f ∷ gs ↦ false ] ≡ true
    go [] e = refl
    go (f ∷ fs) e = absurd (omega (arith, e))

frames_unfinished : (S : State) (t : ℕ) → (0 ≡ length (thread_at S t).frames → ⊥) → is_finished (thread_at S t) ≡ false
unfolding is_finished
frames_unfinished S t some = go (thread_at S t).frames some
  where
    go : (fs : List Frame) → (0 ≡ length fs → ⊥) → elim fs [ [] ↦ true | f ∷ gs ↦ false ] ≡ false
    go [] e = absurd (e refl)
    go (f ∷ fs) e = refl

-- ---- A thread without frames idles

idles : {p s : List ℕ} {t : ℕ} → ((P : Program) (n : ℕ) (S : State) (rest : List ℕ) → Held s S rest → Fits mosts P n S → 0 ≡ length (thread_at S t).frames) → TakesOne p s t Idled s
unfolding after
idles {t = t} none =
    record {
      fate = λ P n S rest loaded held valid fits few.
          let bare = none P n S rest held fits in
          rw (no_frame_waits P S t bare, no_frames_finished S t bare) refl;
      leaves = λ P n S rest loaded held valid fits few. rw (no_frame_waits P S t (none P n S rest held fits)) held;
    }

pub past_one : {p s : List ℕ} {t : ℕ} → 16 ≤ t → TakesOne p s t Idled s
past_one {t = t} past = idles λ P n S rest held fits. no_frames S t fits.few_threads past

pub idle_one : {p s : List ℕ} {t d : ℕ} → Sees s Any (λ S. length (thread_at S t).frames) d → d ≡ 0 → TakesOne p s t Idled s
idle_one seen none = idles λ P n S rest held fits. sym none ∙ seen.sees S rest held tt

-- ---- One with frames does what the rule says

module _ {s rest : List ℕ} (S : State) (n t : ℕ) where
  taken_moves : {m : Move} {s₁ : List ℕ} {x : Res State} → Taken s rest (Ok m) s₁ x → (Moved ≡ fate_by x false) × Held s₁ (after S n t x).state rest
  unfolding after
  taken_moves (moved held₁) = (refl, held₁)

  taken_waits : {s₁ : List ℕ} {x : Res State} → Held s S rest → Taken s rest (Err Waits) s₁ x → (Waited ≡ fate_by x false) × Held s₁ (after S n t x).state rest
  unfolding after
  taken_waits held waited = (refl, held)

  taken_stops : {e : Fault} {s₁ : List ℕ} {x : Res State} → Held s S rest → Taken s rest (Err (Stops e)) s₁ x → (Halted ≡ fate_by x false) × Held s₁ (after S n t x).state rest
  unfolding after
  taken_stops held (stopped is) = (refl, held)

module _ {p s s₁ : List ℕ} {t d : ℕ} {answer : Result Move Halt} (seen : Sees s Any (λ S. length (thread_at S t).frames) d) (some : d ≡ 0 → ⊥) (takes : TakesTurn p s t answer s₁) where
  unfinished : (S : State) (rest : List ℕ) → Held s S rest → is_finished (thread_at S t) ≡ false
  unfinished S rest held = frames_unfinished S t λ none. some (seen.sees S rest held tt ∙ sym none)

  -- the fate that the answer tells, whatever the rule's result is, and the state that is held
  by_result : (r : Fate) {told : Result Move Halt} → answer ≡ told
      → ((S : State) (rest : List ℕ) → Held s S rest → (n : ℕ) (x : Res State) → Taken s rest told s₁ x → (r ≡ fate_by x false) × Held s₁ (after S n t x).state rest)
      → TakesOne p s t r s₁
  by_result r is each =
      let by : (P : Program) (n : ℕ) (S : State) (rest : List ℕ) → Loaded p P → Held s S rest → Valid mosts P → Fits mosts P n S → n < Most.turns
      → (r ≡ fate_by (turn mosts P S t) false) × Held s₁ (after S n t (turn mosts P S t)).state rest
      = λ P n S rest loaded held valid fits few.
      each S rest held n (turn mosts P S t) (subst (λ (y : Result Move Halt). Taken s rest y s₁ (turn mosts P S t)) is (takes.takes P n S rest loaded held valid fits few)) in
      record {
        fate = λ P n S rest loaded held valid fits few. rw (unfinished S rest held) (by P n S rest loaded held valid fits few).0;
        leaves = λ P n S rest loaded held valid fits few. (by P n S rest loaded held valid fits few).1;
      }

  pub moves_one : {m : Move} → answer ≡ Ok m → TakesOne p s t Moved s₁
  moves_one is = by_result Moved is λ S rest held n x taken. taken_moves S n t taken

  pub waits_one : answer ≡ Err Waits → TakesOne p s t Waited s₁
  waits_one is = by_result Waited is λ S rest held n x taken. taken_waits S n t held taken

  pub halts_one : {e : Fault} → answer ≡ Err (Stops e) → TakesOne p s t Halted s₁
  halts_one is = by_result Halted is λ S rest held n x taken. taken_stops S n t held taken

-- The end is told right: the threads are asked one after the other; the first that is unfinished, or would not wait, decides.
use Prim.Native.Nat.{ℕ, zero, suc, ◌≤◌, ◌<◌}
use native.Mathlib.Nat.{not-suc-le-zero, zero-add}
use native.Mathlib.Omega.{arith}
use mathlib.Core.Path.{◌≡◌, refl, sym, ap, ◌∙◌, subst}
use mathlib.Core.Bool.{Bool, true, false, ◌&&◌, and-false}
use mathlib.Core.List.{List, [], ◌∷◌}
use lib.Dec.{eqb}
use lib.ListN.{length, get_or}
use Rattle.std.specs.Bool.{MatchBool}
use Rattle.std.specs.List.{AllWithin, HoldsAt, range_with_len}
use Rattle.std.proofs.lemmas.List.FromFn.{length-range_with_len, get_or-range_with_len}
use borrow.Author.Tests.{eq-eqb, ne_eqb, eqb-true, eqb-false}
use Rattle.rules.specs.Mosts.{mosts}
use Rattle.rules.specs.Lists.{all}
use Rattle.rules.specs.State.{Frame, Sender, no_thread, State, thread_at}
use Rattle.rules.specs.Turn.{turn}
use Rattle.rules.specs.Run.{is_finished, all_finished, waits, up_to, all_wait, end_of}
use Rattle.rules.proofs.ListLaws.{impossible, by_bool, all_snoc}
use Rattle.table.specs.StateTable.{Sees, Any}
use Rattle.turn.specs.Performed.{WouldWait}
use Rattle.run.specs.Played.{AllWait, Ends}
use Rattle.run.specs.declared.Outcome.TheVariants.{Finished, Stuck, Open}

-- ---- All of a list

module _ {A : Type 0} (f : A → Bool) where
  all_hold : (l : List A) (d : A) → ((k : ℕ) → k < length l → f (get_or l k d) ≡ true) → all f l ≡ true
  unfolding all
  all_hold [] d h = refl
  all_hold (x ∷ l) d h = rw (h 0 (omega arith)) (all_hold l d (λ k b. h (suc k) (omega arith)))

  -- one that fails, past the end or before it
  one_fails : (l : List A) (d : A) (k : ℕ) → f d ≡ true → f (get_or l k d) ≡ false → all f l ≡ false
  unfolding all
  one_fails [] d k past e = let both = sym past ∙ e in impossible cc
  one_fails (x ∷ l) d zero past e = rw e
  one_fails (x ∷ l) d (suc k) past e = rw (one_fails l d k past e) (and-false (f x))

-- the numbers below n, asked one after the other
all_below_lem : (Yes No : ℕ → Type 0) (n : ℕ) (r : Bool)
    → MatchBool r (AllWithin Yes (range_with_len 0 n) 0 (length (range_with_len 0 n))) ((k : ℕ) × (k < length (range_with_len 0 n)) × HoldsAt No (range_with_len 0 n) k)
    → MatchBool r ((k : ℕ) → k < n → Yes k) ((k : ℕ) × (k < n) × No k)
all_below_lem Yes No n true holds = λ k h. subst Yes (get_or-range_with_len 0 n k 0 h ∙ zero-add k) (holds k 0 (omega arith) (rw length-range_with_len h))
all_below_lem Yes No n false (k, within, fails) =
    let low : k < n = rw length-range_with_len at within in
    (k, low, subst No (get_or-range_with_len 0 n k 0 low ∙ zero-add k) (fails 0))

-- ---- All finished

finished_by_count : (fs : List Frame) (d : Sender) → is_finished (record { frames = fs; sender = d }) ≡ eqb (length fs) 0
unfolding is_finished
finished_by_count [] d = refl
finished_by_count (f ∷ fs) d = sym (ne_eqb (suc (length fs)) 0 (λ e. omega arith))

none_finished : is_finished no_thread ≡ true
unfolding is_finished
none_finished = refl

-- how many frames the table says that thread t has
abbrev pub FrameCount : List ℕ → ℕ → ℕ → Type 0
FrameCount s t r = Sees s Any (λ S. length (thread_at S t).frames) r

-- a thread without frames is finished, and one with frames is not
abbrev pub NoFrames : List ℕ → ℕ → Type 0
NoFrames s t = (r : ℕ) × FrameCount s t r × (r ≡ 0)

abbrev pub SomeFrames : List ℕ → ℕ → Type 0
SomeFrames s t = (r : ℕ) × FrameCount s t r × (r ≡ 0 → ⊥)

pub finished_asked : (s : List ℕ) (r : Bool)
    → MatchBool r (AllWithin (NoFrames s) (range_with_len 0 16) 0 (length (range_with_len 0 16))) ((k : ℕ) × (k < length (range_with_len 0 16)) × HoldsAt (SomeFrames s) (range_with_len 0 16) k)
    → Sees s (λ S. length S.threads ≤ 16) all_finished r
unfolding thread_at all_finished
finished_asked s r m = go r (all_below_lem (NoFrames s) (SomeFrames s) 16 r m)
  where
    by_count : (S : State) (k n : ℕ) → n ≡ length (thread_at S k).frames → is_finished (thread_at S k) ≡ eqb n 0
    by_count S k n e = finished_by_count (thread_at S k).frames (thread_at S k).sender ∙ ap (λ n. eqb n 0) (sym e)

    go : (r : Bool) → MatchBool r ((k : ℕ) → k < 16 → NoFrames s k) ((k : ℕ) × (k < 16) × SomeFrames s k) → Sees s (λ S. length S.threads ≤ 16) all_finished r
    go true none = record {
      sees = λ S rest h few.
          sym (all_hold is_finished S.threads no_thread λ k b. let (n, count, empty) = none k (omega arith) in by_count S k n (count.sees S rest h tt) ∙ eq-eqb n 0 empty);
    }
    go false (k, low, frames) = let (n, count, some) = frames in record {
      sees = λ S rest h few. sym (one_fails is_finished S.threads no_thread k none_finished (by_count S k n (count.sees S rest h tt) ∙ ne_eqb n 0 some));
    }

-- ---- All would wait

module _ (f : ℕ → Bool) where
  all_next : (n : ℕ) → all f (up_to (suc n)) ≡ (all f (up_to n) && f n)
  unfolding up_to
  all_next n = all_snoc f (up_to n) n

  all_up_to : (n : ℕ) → ((t : ℕ) → t < n → f t ≡ true) → all f (up_to n) ≡ true
  unfolding up_to all
  all_up_to zero h = refl
  all_up_to (suc n) h = all_next n ∙ rw (all_up_to n (λ t b. h t (omega arith)), h n (omega arith))

  one_below_fails : (n t : ℕ) → t < n → f t ≡ false → all f (up_to n) ≡ false
  one_below_fails zero t h e = absurd (not-suc-le-zero h)
  one_below_fails (suc n) t h e = all_next n ∙ by_bool (eqb t n)
      (λ same. ap (all f (up_to n) &&◌) (ap f (sym (eqb-true t n same)) ∙ e) ∙ and-false (all f (up_to n)))
      (λ other. let apart = eqb-false t n other in rw (one_below_fails n t (omega arith) e))

pub wait_asked : (p s : List ℕ) (n : ℕ) (r : Bool) → Sees s Any (λ S. length S.threads) n
    → MatchBool r (AllWithin (λ t. WouldWait p s t true) (range_with_len 0 n) 0 (length (range_with_len 0 n)))
    ((k : ℕ) × (k < length (range_with_len 0 n)) × HoldsAt (λ t. WouldWait p s t false) (range_with_len 0 n) k)
    → AllWait p s r
unfolding all_wait
wait_asked p s n r count m = go r (all_below_lem (λ t. WouldWait p s t true) (λ t. WouldWait p s t false) n r m)
  where
    go : (r : Bool) → MatchBool r ((k : ℕ) → k < n → WouldWait p s k true) ((k : ℕ) × (k < n) × WouldWait p s k false) → AllWait p s r
    go true wait = record {
      is = λ P m S rest l h v f.
          sym (all_up_to (λ t. waits (turn mosts P S t)) (length S.threads) λ t b. sym ((wait t (rw (count.sees S rest h tt) b)).is P m S rest l h v f));
    }
    go false (k, low, goes) = record {
      is = λ P m S rest l h v f.
          sym (one_below_fails (λ t. waits (turn mosts P S t)) (length S.threads) k (rw (← count.sees S rest h tt) low) (sym (goes.is P m S rest l h v f)));
    }

-- ---- The end

module _ (p s : List ℕ) {a : Bool} (finished : Sees s (λ S. length S.threads ≤ 16) all_finished a) (moves : ℕ) where
  pub ends_finished : a ≡ true → Ends p s moves (Finished moves)
  unfolding end_of
  ends_finished e = record { is = λ P n S rest l h v f. rw (sym (finished.sees S rest h f.few_threads) ∙ e) }

  module _ {b : Bool} (waiting : AllWait p s b) (left : a ≡ false) where
    pub ends_stuck : b ≡ true → Ends p s moves (Stuck moves)
    unfolding end_of
    ends_stuck e = record { is = λ P n S rest l h v f. rw (sym (finished.sees S rest h f.few_threads) ∙ left, sym (waiting.is P n S rest l h v f) ∙ e) }

    pub ends_open : b ≡ false → Ends p s moves (Open moves)
    unfolding end_of
    ends_open e = record { is = λ P n S rest l h v f. rw (sym (finished.sees S rest h f.few_threads) ∙ left, sym (waiting.is P n S rest l h v f) ∙ e) }

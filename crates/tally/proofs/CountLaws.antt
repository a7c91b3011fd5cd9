-- What the loop over the turns keeps: the counts so far, and that the rules' own tally goes on from them.
use Prim.Native.Nat.{ℕ, suc, min, ◌-◌, ◌*◌, ◌+◌, ◌≤◌, ◌<◌}
use native.Mathlib.Nat.{add-zero, min-eq_left, min-eq_right}
use native.Mathlib.Numerals.{add-one}
use native.Mathlib.Omega.{arith}
use mathlib.Core.Path.{◌≡◌, refl, sym, ap, ap₂, ◌∙◌}
use mathlib.Core.Bool.{Bool, true, false}
use mathlib.Core.List.{List, [], ◌∷◌}
use lib.ListN.{length, get_or, take, drop, length-drop, length-set, drop_of_length-le}
use lib.Seq.{drop-cons, take_all, take-nil}
use lib.Dec.{ltb, leb}
use borrow.Author.Tests.{ltb-true, ltb-false, leb-true, leb-false}
use Rattle.rules.specs.Mosts as Most
use Rattle.rules.specs.Mosts.{mosts}
use Rattle.rules.specs.Script.{Program}
use Rattle.rules.specs.Valid.{Valid}
use Rattle.rules.specs.State.{State, thread_at, start}
use Rattle.rules.specs.Turn.{Res, ok, wait, stop, turn}
use Rattle.rules.specs.Run.{stopped, run, run_from, after, advance, is_finished, block_of, line_now}
use Rattle.rules.specs.Fits.{Fits}
use Rattle.rules.proofs.ListLaws.{impossible, by_bool, every_get, every_set, every_replicate}
use Rattle.rules.proofs.Keeps.{keeps_turn, keeps_run}
use Rattle.table.specs.StateTable.{Held, Starts}
use Rattle.turn.specs.Performed.{Loaded}
use Rattle.run.specs.Reached.{going}
use Rattle.tally.specs.declared.Fate.{Fate}
use Rattle.tally.specs.contracts.Fate as F
use Rattle.tally.specs.declared.Fate.TheVariants.{Moved, Waited, Idled, Halted, Unplayed}
use Rattle.tally.specs.Fates.{fate_by, fate_number, row_of, count_at, raise, none_counted, tally_from, tally, goes_on, played_from, played}
use Rattle.tally.specs.Counted.{TakesOne, stops, Low, unplayed_from, CountsPlayed, Tallies}

-- ---- Places

-- a derived `==`, by the five cases
pub equals_halted : (f : Fate) → denote.Enum.Bare.sameb F.the_type f Halted ≡ stops f
equals_halted Moved = refl
equals_halted Waited = refl
equals_halted Idled = refl
equals_halted Halted = refl
equals_halted Unplayed = refl

-- the fates stand in the order of their counts
tag_is : (f : Fate) → denote.Enum.Declared.tag_of F.the_type f ≡ fate_number f
tag_is Moved = refl
tag_is Waited = refl
tag_is Idled = refl
tag_is Halted = refl
tag_is Unplayed = refl

row_is : (t : ℕ) → min t 16 ≡ row_of t
row_is t = by_bool (ltb t 16)
    (λ b. rw b (min-eq_left (let low = ltb-true t 16 b in omega arith)))
    (λ b. rw b (min-eq_right (ltb-false t 16 b)))

pub place_is : (t : ℕ) (f : Fate) → min t 16 * 5 + denote.Enum.Declared.tag_of F.the_type f ≡ count_at t f
place_is t f = ap₂ (λ (r n : ℕ). r * 5 + n) (row_is t) (tag_is f)

-- ---- Counts

low_up : (n m : ℕ) (counts : List ℕ) → n ≤ m → Low n counts → Low m counts
low_up n m [] h low = tt
low_up n m (x ∷ xs) h low = (omega (arith, low.0), low_up n m xs h low.1)

pub low_most : (n : ℕ) (counts : List ℕ) → n ≤ 32768 → Low n counts → Low 32768 counts
low_most n counts h low = low_up n 32768 counts h low

module _ (counts : List ℕ) (at : ℕ) where
  pub raise_low : (n : ℕ) → Low n counts → Low (n + 1) (raise counts at)
  unfolding raise
  raise_low n low =
      let here = every_get (λ (x : ℕ). x ≤ n) counts at 0 (omega arith) low in
      every_set (λ (x : ℕ). x ≤ n + 1) counts at (get_or counts at 0 + 1) (omega (arith, here)) (low_up n (n + 1) counts (omega arith) low)

  pub raise_length : length (raise counts at) ≡ length counts
  unfolding raise
  raise_length = length-set counts at (get_or counts at 0 + 1)

-- ---- A stopped run

after_stop : (P : Program) (S : State) (n k t b l : ℕ) (counts ts : List ℕ)
    → tally_from mosts P (record { state = S; moves = n; stop = stopped k t b l }) counts ts ≡ unplayed_from counts ts
unfolding tally_from unplayed_from advance
after_stop P S n k t b l counts [] = refl
after_stop P S n k t b l counts (u ∷ ts) = after_stop P S n k t b l (raise counts (count_at u Unplayed)) ts

-- ---- After i of the turns

pub record Sofar (turns : List ℕ) (P : Program) (s rest counts : List ℕ) (i : ℕ) : Type 0 where
  pub state : State
  pub moves : ℕ
  pub few : moves ≤ i
  pub held : Held s state rest
  pub fits : Fits mosts P moves state
  pub counts_on : tally mosts P turns ≡ tally_from mosts P (going state moves) counts (drop i turns)
  pub played_on : played mosts P turns ≡ i + played_from mosts P (going state moves) (drop i turns)

pub record Counting (p s₀ turns s counts : List ℕ) (i : ℕ) : Type 0 where
  pub low : Low i counts
  pub wide : length counts ≡ 85
  pub same_length : length s ≡ length s₀
  pub within : i ≤ length turns
  pub sofar : (P : Program) (rest : List ℕ) → Loaded p P → Valid mosts P → Held s₀ start rest → Sofar turns P s rest counts i

pub none_counted_lem : (p s turns counts : List ℕ) → counts ≡ none_counted → Counting p s turns s counts 0
unfolding tally none_counted played run run_from
none_counted_lem p s turns counts fresh =
    rw fresh (record {
      low = every_replicate (λ (x : ℕ). x ≤ 0) 85 0 (omega arith);
      wide = refl;
      same_length = refl;
      within = omega arith;
      sofar = λ P rest loaded valid held.
          record { state = start; moves = 0; few = omega arith; held = held; fits = keeps_run mosts P [] valid (omega arith); counts_on = refl; played_on = omega arith };
    })

-- what the turn of thread t adds, by its result
module _ (P : Program) (S : State) (n i t : ℕ) (turns counts : List ℕ) (more : i < length turns) (is : t ≡ get_or turns i 0) {x : Res State} (e : turn mosts P S t ≡ x) where
  abbrev fate : Fate
  fate = fate_by x (is_finished (thread_at S t))

  rest_is : drop i turns ≡ t ∷ drop (i + 1) turns
  rest_is = drop-cons turns i 0 more ∙ ap (◌∷ drop (suc i) turns) (sym is) ∙ ap (λ (j : ℕ). t ∷ drop j turns) (sym (add-one i))

  counts_next : tally_from mosts P (going S n) counts (drop i turns) ≡ tally_from mosts P (after S n t x) (raise counts (count_at t fate)) (drop (i + 1) turns)
  unfolding tally_from advance
  counts_next =
      ap (tally_from mosts P (going S n) counts) rest_is
      ∙ ap (λ (y : Res State). tally_from mosts P (after S n t y) (raise counts (count_at t (fate_by y (is_finished (thread_at S t))))) (drop (i + 1) turns)) e

  played_next : played_from mosts P (going S n) (drop i turns) ≡ goes_on fate (played_from mosts P (after S n t x) (drop (i + 1) turns))
  unfolding played_from advance
  played_next =
      ap (played_from mosts P (going S n)) rest_is
      ∙ ap (λ (y : Res State). goes_on (fate_by y (is_finished (thread_at S t))) (played_from mosts P (after S n t y) (drop (i + 1) turns))) e

wait_goes_on : (finished : Bool) (n : ℕ) → goes_on (fate_by wait finished) n ≡ suc n
wait_goes_on true n = refl
wait_goes_on false n = refl

-- what the turn found and left in one program's run, by its result
record Found (s₁ rest : List ℕ) (P : Program) (S : State) (n t : ℕ) (r : Fate) (x : Res State) : Type 0 where
  pub is : turn mosts P S t ≡ x
  pub fated : r ≡ fate_by x (is_finished (thread_at S t))
  pub held : Held s₁ (after S n t x).state rest

module _ {p s₀ turns s counts s₁ : List ℕ} {i t : ℕ} {r : Fate} (counting : Counting p s₀ turns s counts i) (more : i < length turns) (few : length turns ≤ Most.turns)
    (is : t ≡ get_or turns i 0) (takes : TakesOne p s t r s₁) where
  finds : (P : Program) (rest : List ℕ) → Loaded p P → Valid mosts P → (so : Sofar turns P s rest counts i) → Found s₁ rest P so.state so.moves t r (turn mosts P so.state t)
  finds P rest loaded valid so =
      let below : so.moves < Most.turns = omega (arith, so.few, more, few) in
      record {
        is = refl;
        fated = takes.fate P so.moves so.state rest loaded so.held valid so.fits below;
        held = takes.leaves P so.moves so.state rest loaded so.held valid so.fits below;
      }

  module _ {P : Program} {rest : List ℕ} (so : Sofar turns P s rest counts i) {x : Res State} (found : Found s₁ rest P so.state so.moves t r x) where
    tally_on : tally mosts P turns ≡ tally_from mosts P (after so.state so.moves t x) (raise counts (count_at t r)) (drop (i + 1) turns)
    tally_on =
        so.counts_on ∙ counts_next P so.state so.moves i t turns counts more is found.is
        ∙ ap (λ (f : Fate). tally_from mosts P (after so.state so.moves t x) (raise counts (count_at t f)) (drop (i + 1) turns)) (sym found.fated)

    gone_on : played mosts P turns ≡ i + goes_on (fate_by x (is_finished (thread_at so.state t))) (played_from mosts P (after so.state so.moves t x) (drop (i + 1) turns))
    gone_on = so.played_on ∙ ap (λ (k : ℕ). i + k) (played_next P so.state so.moves i t turns counts more is found.is)

  -- one turn more
  pub counts_one : length s₁ ≡ length s → stops r ≡ false → Counting p s₀ turns s₁ (raise counts (count_at t r)) (i + 1)
  unfolding after
  counts_one same goes =
      record {
        low = raise_low counts (count_at t r) i counting.low;
        wide = raise_length counts (count_at t r) ∙ counting.wide;
        same_length = same ∙ counting.same_length;
        within = omega (arith, more);
        sofar = λ P rest loaded valid held. (
            let so = counting.sofar P rest loaded valid held in
            next P rest valid so (turn mosts P so.state t) (finds P rest loaded valid so)
            );
      }
    where
      next : (P : Program) (rest : List ℕ) → Valid mosts P → (so : Sofar turns P s rest counts i) → (x : Res State) → Found s₁ rest P so.state so.moves t r x
          → Sofar turns P s₁ rest (raise counts (count_at t r)) (i + 1)
      next P rest valid so (ok S₁) found =
          record {
            state = S₁;
            moves = so.moves + 1;
            few = omega (arith, so.few);
            held = found.held;
            fits = rw (add-one so.moves) (keeps_turn mosts P so.moves so.state S₁ t valid so.fits found.is);
            counts_on = tally_on so found;
            played_on = gone_on so found ∙ omega arith;
          }
      next P rest valid so wait found =
          record {
            state = so.state;
            moves = so.moves;
            few = omega (arith, so.few);
            held = found.held;
            fits = so.fits;
            counts_on = tally_on so found;
            played_on = gone_on so found ∙ ap (λ (k : ℕ). i + k) (wait_goes_on (is_finished (thread_at so.state t)) (played_from mosts P (going so.state so.moves) (drop (i + 1) turns))) ∙ omega arith;
          }
      next P rest valid so (stop k) found = impossible (let both = sym goes ∙ ap stops found.fated in cc)

  -- the turn that stops the run
  pub counts_stop : stops r ≡ true → CountsPlayed p s₀ turns i (raise counts (count_at t r))
  unfolding after
  counts_stop halts =
      record {
        low = raise_low counts (count_at t r) i counting.low;
        wide = raise_length counts (count_at t r) ∙ counting.wide;
        within = counting.within;
        counts = λ P rest loaded valid held. (
            let so = counting.sofar P rest loaded valid held in
            stop_counts P rest so (turn mosts P so.state t) (finds P rest loaded valid so)
            );
        before = λ P rest loaded valid held. (
            let so = counting.sofar P rest loaded valid held in
            stop_played P rest so (turn mosts P so.state t) (finds P rest loaded valid so)
            );
      }
    where
      stop_counts : (P : Program) (rest : List ℕ) (so : Sofar turns P s rest counts i) → (x : Res State) → Found s₁ rest P so.state so.moves t r x
          → tally mosts P turns ≡ unplayed_from (raise counts (count_at t r)) (drop (i + 1) turns)
      stop_counts P rest so (ok S₁) found = impossible (let both = sym halts ∙ ap stops found.fated in cc)
      stop_counts P rest so wait found = impossible (no_wait (is_finished (thread_at so.state t)) (sym halts ∙ ap stops found.fated))
        where
          no_wait : (finished : Bool) → true ≡ stops (fate_by wait finished) → ◌≡◌ {A = ℕ} 0 1
          no_wait true e = cc
          no_wait false e = cc
      stop_counts P rest so (stop k) found =
          let S = so.state in
          tally_on so found ∙ after_stop P S so.moves k t (block_of (thread_at S t).frames) (line_now (thread_at S t).frames) (raise counts (count_at t r)) (drop (i + 1) turns)

      stop_played : (P : Program) (rest : List ℕ) (so : Sofar turns P s rest counts i) → (x : Res State) → Found s₁ rest P so.state so.moves t r x → played mosts P turns ≡ i
      stop_played P rest so (ok S₁) found = impossible (let both = sym halts ∙ ap stops found.fated in cc)
      stop_played P rest so wait found = impossible (no_wait (is_finished (thread_at so.state t)) (sym halts ∙ ap stops found.fated))
        where
          no_wait : (finished : Bool) → true ≡ stops (fate_by wait finished) → ◌≡◌ {A = ℕ} 0 1
          no_wait true e = cc
          no_wait false e = cc
      stop_played P rest so (stop k) found = gone_on so found ∙ add-zero i

-- all are played
pub all_counted : {p s₀ turns s counts : List ℕ} {i r : ℕ} → Counting p s₀ turns s counts i → length turns ≤ i → r ≡ i → CountsPlayed p s₀ turns r counts
unfolding tally_from played_from unplayed_from
all_counted {turns = turns} {counts = counts} {i = i} counting all same =
    rw same
    (record {
      low = low_up i (i + 1) counts (omega arith) counting.low;
      wide = counting.wide;
      within = counting.within;
      counts = λ P rest loaded valid held. (
          let so = counting.sofar P rest loaded valid held in
          so.counts_on ∙ ap (tally_from mosts P (going so.state so.moves) counts) (drop_of_length-le turns all) ∙ sym (ap (unplayed_from counts) (drop_of_length-le turns {i = i + 1} (omega (arith, all))))
          );
      before = λ P rest loaded valid held. (
          let so = counting.sofar P rest loaded valid held in
          so.played_on ∙ ap (λ (ts : List ℕ). i + played_from mosts P (going so.state so.moves) ts) (drop_of_length-le turns all) ∙ add-zero i
          );
    })

-- ---- The turns after the stop

-- those from a place on, or none
pub turns_behind : (turns : List ℕ) (n m : ℕ) → m ≡ min n (length turns) → take (length turns - m) (drop m turns) ≡ drop n turns
turns_behind turns n m is = by_bool (leb n (length turns))
    (λ b.
    let low = leb-true n (length turns) b in
    let same : m ≡ n = is ∙ min-eq_left low in
    rw same (take_all (length turns - n) (drop n turns) (simp length-drop (omega arith))))
    (λ b.
    let past = leb-false n (length turns) b in
    let same : m ≡ length turns = is ∙ min-eq_right (omega arith) in
    rw (same, drop_of_length-le turns {i = length turns} (omega arith), drop_of_length-le turns {i = n} (omega arith)) (take-nil (length turns - length turns)))

pub unplayed_one : (turns counts : List ℕ) (i t : ℕ) → i < length turns → t ≡ get_or turns i 0
    → unplayed_from counts (drop i turns) ≡ unplayed_from (raise counts (count_at t Unplayed)) (drop (i + 1) turns)
unfolding unplayed_from
unplayed_one turns counts i t more is =
    ap (unplayed_from counts) (drop-cons turns i 0 more ∙ ap (◌∷ drop (suc i) turns) (sym is) ∙ ap (λ (j : ℕ). t ∷ drop j turns) (sym (add-one i)))

pub unplayed_none : (turns counts : List ℕ) (i : ℕ) → length turns ≤ i → unplayed_from counts (drop i turns) ≡ counts
unfolding unplayed_from
unplayed_none turns counts i all = ap (unplayed_from counts) (drop_of_length-le turns all)

-- ---- All turns

pub tallied : {p s s₁ turns counts counts₁ : List ℕ} {r : ℕ} → Starts s s₁ → CountsPlayed p s₁ turns r counts → counts₁ ≡ unplayed_from counts (drop (r + 1) turns)
    → Tallies p s turns r counts₁
tallied starts played rest =
    record {
      within = played.within;
      counts = λ P loaded valid fresh. rest ∙ sym (played.counts P [] loaded valid (starts.starts fresh));
      before = λ P loaded valid fresh. sym (played.before P [] loaded valid (starts.starts fresh));
    }

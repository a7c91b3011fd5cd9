-- Condition 4 on one script and one list: the turns that the guarded run plays before one stops it, if one does, leave the state that it ends with;
-- and by demand 3 the stripped run has the same table after them, capabilities aside. What is compared on the tables is that.
use Prim.Native.Nat.{ℕ, ◌+◌, ◌≤◌}
use native.Mathlib.Nat.{le_refl}
use native.Mathlib.Omega.{arith}
use mathlib.Core.Path.{◌≡◌, refl, sym, ap, ap₂, ◌∙◌}
use mathlib.Core.Bool.{Bool, true}
use mathlib.Core.List.{List, [], ◌∷◌, append-nil}
use lib.ListN.{length, take}
use lib.Seq.{take_all}
use Rattle.rules.specs.declared.Mosts.{Mosts}
use Rattle.rules.specs.Mosts as Most
use Rattle.rules.specs.Mosts.{mosts}
use Rattle.rules.specs.Script.{Program}
use Rattle.rules.specs.State.{State, thread_at, start}
use Rattle.rules.specs.Turn.{Res, ok, wait, stop, turn}
use Rattle.rules.specs.Run.{none, stopped, Run, after, advance, run_from, run, is_finished}
use Rattle.rules.specs.Stripped.{strip, erase, guarded, stripped}
use Rattle.rules.specs.Tables.{state_words}
use Rattle.rules.specs.Holders.{holders}
use Rattle.rules.proofs.ListLaws.{by_bool}
use Rattle.rules.proofs.Demand3.{stripped_matches}
use Rattle.rules.proofs.HolderLaws.{erased_holders}
use Rattle.rules.proofs.TableWords.{state_words_length}
use Rattle.table.specs.ProgramTable.{Same, same_words}
use Rattle.table.specs.StateTable.{Held, Becomes}
use Rattle.table.proofs.ProgramTable.{same_words_same, same_is}
use Rattle.table.proofs.StateTable.{recounted}
use Rattle.std.specs.Prelude.{Result}
use Rattle.rules.specs.declared.faults.Refusal.{Refusal}
use Rattle.run.specs.declared.Outcome.{Outcome}
use Rattle.run.specs.Made.{Holds}
use Rattle.run.specs.Reached.{going}
use Rattle.tally.specs.Fates.{played_from, played}
use Rattle.stripping.specs.StrippedRuns.{guards_change_nothing}

-- ---- Where the guarded run was not stopped

pub same_tables : (P : Program) (turns : List ℕ) → (run mosts P turns).stop ≡ none
    → state_words (erase (run mosts P turns).state) ≡ state_words (run mosts (strip P) turns).state
unfolding guarded stripped
same_tables P turns goes_on =
    let all : take (length turns) turns ≡ turns = take_all (length turns) turns (le_refl (length turns)) in
    rw all at ((stripped_matches mosts P turns).same_tables (length turns) (le_refl (length turns)) (rw all goes_on))

-- ---- The turns played before a stop

-- "A stop ends the whole run"
stays : (m : Mosts) (P : Program) (S : State) (n k t b l : ℕ) (ts : List ℕ) → (run_from m P (record { state = S; moves = n; stop = stopped k t b l }) ts).state ≡ S
unfolding run_from advance
stays m P S n k t b l [] = refl
stays m P S n k t b l (u ∷ ts) = stays m P S n k t b l ts

-- of a run that goes on from a state: none of them stops it, and they leave the state that all leave
record PlayedOn (m : Mosts) (P : Program) (S : State) (n : ℕ) (ts : List ℕ) : Type 0 where
  goes_on : (run_from m P (going S n) (take (played_from m P (going S n) ts) ts)).stop ≡ none
  leaves : (run_from m P (going S n) ts).state ≡ (run_from m P (going S n) (take (played_from m P (going S n) ts) ts)).state

-- a turn that goes on, before them
goes_before : {m : Mosts} {P : Program} {S S₁ : State} {n n₁ t : ℕ} {ts : List ℕ} → run_from m P (going S n) (t ∷ ts) ≡ run_from m P (going S₁ n₁) ts
    → run_from m P (going S n) (take (played_from m P (going S n) (t ∷ ts)) (t ∷ ts)) ≡ run_from m P (going S₁ n₁) (take (played_from m P (going S₁ n₁) ts) ts)
    → PlayedOn m P S₁ n₁ ts → PlayedOn m P S n (t ∷ ts)
goes_before all front on =
    record {
      goes_on = ap (λ (r : Run). r.stop) front ∙ on.goes_on;
      leaves = ap (λ (r : Run). r.state) all ∙ on.leaves ∙ sym (ap (λ (r : Run). r.state) front);
    }

one_before : (m : Mosts) (P : Program) (S : State) (n t : ℕ) (ts : List ℕ) → ((S₁ : State) (n₁ : ℕ) → PlayedOn m P S₁ n₁ ts) → (x : Res State) → turn m P S t ≡ x
    → PlayedOn m P S n (t ∷ ts)
unfolding played_from run_from advance after
one_before m P S n t ts on (ok S₁) e = goes_before (ap (λ (x : Res State). run_from m P (after S n t x) ts) e) (rw (e, e) refl) (on S₁ (n + 1))
one_before m P S n t ts on wait e =
    let all = ap (λ (x : Res State). run_from m P (after S n t x) ts) e in
    by_bool (is_finished (thread_at S t)) (λ f. goes_before all (rw (e, f, e) refl) (on S n)) (λ f. goes_before all (rw (e, f, e) refl) (on S n))
one_before m P S n t ts on (stop k) e =
    record {
      goes_on = rw e refl;
      leaves = ap (λ (x : Res State). (run_from m P (after S n t x) ts).state) e ∙ stays m P S n k t _ _ ts ∙ rw e refl;
    }

played_on : (m : Mosts) (P : Program) (ts : List ℕ) (S : State) (n : ℕ) → PlayedOn m P S n ts
unfolding played_from run_from
played_on m P [] S n = record { goes_on = refl; leaves = refl }
played_on m P (t ∷ ts) S n = one_before m P S n t ts (played_on m P ts) (turn m P S t) refl

-- ---- The condition

pub same_tables_played : (P : Program) (turns : List ℕ)
    → state_words (erase (run mosts P turns).state) ≡ state_words (run mosts (strip P) (take (played mosts P turns) turns)).state
unfolding run played
same_tables_played P turns =
    let on = played_on mosts P turns start 0 in
    ap (λ (S : State). state_words (erase S)) on.leaves ∙ same_tables P (take (played mosts P turns) turns) on.goes_on

-- it holds of every script and every list
pub condition_holds : (P : Program) (turns : List ℕ) → guards_change_nothing P turns ≡ true
unfolding guards_change_nothing
condition_holds P turns = rw (same_tables_played P turns) (same_words_same (state_words (run mosts (strip P) (take (played mosts P turns) turns)).state))

-- on the tables of both runs: erased and compared, they tell it
pub condition_told : {P : Program} {turns p s p₁ s₁ erased : List ℕ} {a b : Result Outcome Refusal} {r : Bool} → Holds P turns a p s
    → Holds (strip P) (take (played mosts P turns) turns) b p₁ s₁
    → Becomes s (λ S. length S.objects ≤ mosts.objects) erase erased → Same erased s₁ r → r ≡ guards_change_nothing P turns
unfolding guards_change_nothing
condition_told {P} {turns} {erased = erased} first second becomes same =
    let S = (run mosts P turns).state in
    let held : Held erased (erase S) [] = recounted (becomes.becomes S [] first.held first.fits.few_objects) (holders (erase S)) λ n. sym (erased_holders S n) in
    let words : erased ≡ state_words (erase S) = held.words ∙ append-nil (state_words (erase S)) in
    let long : length erased ≤ Most.words = omega (arith, ap length words, state_words_length (erase S)) in
    same_is same ∙ ap₂ same_words (take_all Most.words erased long ∙ words) second.state_words_are

-- What a run comes to: 1 for its turns, the reader's refusal, or the turns played from the fresh start; then the same in lent tables.
use Prim.Native.Nat.{ℕ, ◌≤◌, ◌<◌}
use native.Mathlib.Omega.{arith}
use mathlib.Core.Path.{◌≡◌, refl, sym, ap, ◌∙◌}
use mathlib.Core.Bool.{Bool, false, ◌||◌}
use mathlib.Core.List.{List, [], ◌++◌, append-nil}
use mathlib.Core.Logic.{◌⊎◌, inl, inr}
use lib.Dec.{ltb}
use lib.ListN.{length, take, drop, replicate, length-append}
use lib.Seq.{take_at}
use borrow.Author.Tests.{lt-ltb, le-ltb, ltb-false}
use Rattle.std.specs.Prelude.{Result, Ok, Err}
use Rattle.rules.specs.declared.faults.Fault.TheVariants as F
use Rattle.rules.specs.declared.faults.Refusal.{Refusal}
use Rattle.rules.specs.Mosts as Most
use Rattle.rules.specs.Mosts.{mosts}
use Rattle.rules.specs.Script.{Program}
use Rattle.rules.specs.Reading.{Reading, accepted, reading}
use Rattle.rules.specs.Valid.{Valid}
use Rattle.rules.specs.Fits.{Fits}
use Rattle.rules.specs.Run as R
use Rattle.rules.specs.Run.{run, answer}
use Rattle.rules.specs.Tables.{program_words, state_words}
use Rattle.rules.specs.Calls.{long_text, long_turns, short_table, inputs, lent_inputs, program_after, state_after}
use Rattle.rules.proofs.ListLaws.{by_bool, or_false}
use Rattle.rules.proofs.Accepted.{accepted_valid, reading_accepted}
use Rattle.rules.proofs.Keeps.{fits_run}
use Rattle.rules.proofs.Demand3.{stripped_matches}
use Rattle.rules.proofs.TableWords.{program_words_length, state_words_length}
use Rattle.table.specs.ProgramTable.{fresh_table}
use Rattle.table.specs.StateTable.{Held, Starts}
use Rattle.table.proofs.ProgramTable.{fresh_length}
use Rattle.reader.specs.ReadAnswers as ReadAnswers
use Rattle.reader.proofs.Outcome as Read
use Rattle.turn.specs.Performed.{Loaded}
use Rattle.turn.proofs.Located.{words_loaded}
use Rattle.run.specs.declared.Outcome.{Outcome}
use Rattle.run.specs.declared.Outcome.TheVariants as A
use Rattle.run.specs.declared.Stop.{Stop}
use Rattle.run.specs.RunAnswers.{told, Guarded, Ran}
use Rattle.run.specs.Played.{Plays, Ends, RunsProgram}
use Rattle.run.specs.Made.{Made, Makes}
use Rattle.run.proofs.AnswerTells.{IsMade, made_is, refused_is, accepted_is}

-- ---- The turns played, from the fresh start

module _ {p turns s s₁ s₂ : List ℕ} {x : Result ℕ Stop} (begun : Starts s s₁) (plays : Plays p s₁ turns x s₂) where
  pub runs_stopped : {e : Stop} → x ≡ Err e → RunsProgram p turns s (A.Stopped e) s₂
  unfolding answer R.answer_of
  runs_stopped is =
      record {
        answers = λ P loaded valid fresh.
            let tells = rw is at (plays.answers P [] loaded valid (begun.starts fresh)) in
            rw (← tells.stop_is, ← tells.moves_are) refl;
        leaves = λ P loaded valid fresh. plays.leaves P [] loaded valid (begun.starts fresh);
      }

  pub runs_through : {m : ℕ} {r : Outcome} → length turns ≤ Most.turns → x ≡ Ok m → Ends p s₂ m r → RunsProgram p turns s r s₂
  unfolding answer R.answer_of
  runs_through few is ends =
      record {
        answers = λ P loaded valid fresh.
            let tells = rw is at (plays.answers P [] loaded valid (begun.starts fresh)) in
            rw (← tells.stop_is, ← tells.moves_are)
            (ends.is P _ (run mosts P turns).state [] loaded (plays.leaves P [] loaded valid (begun.starts fresh)) valid (fits_run P turns valid few));
        leaves = λ P loaded valid fresh. plays.leaves P [] loaded valid (begun.starts fresh);
      }

-- ---- In fresh tables

-- few turns: what is left is the reader's
pub as_read : (text turns : List ℕ) (short : Bool) → length turns ≤ Most.turns → inputs mosts text turns short ≡ reading mosts (long_text text) short text
unfolding inputs long_turns
as_read text turns short few = rw (le-ltb _ _ few) (by_bool (long_text text) (λ t. rw t) (λ t. rw t))

module _ (text turns : List ℕ) (short : Bool) {p s p₁ s₁ : List ℕ} where
  pub makes_long : {e : Refusal} → Most.turns < length turns → e.fault ≡ F.Overlong → e.line ≡ 0 → Makes text turns short p s (Err e) p₁ s₁
  unfolding inputs reading long_turns
  makes_long {e} h fault_is line_is =
      let away = Read.refuses_by e fault_is line_is in
      record { makes = λ p-fresh s-fresh. rw (lt-ltb _ _ h) (by_bool (long_text text) (λ t. rw t away) (λ t. rw t away)) }

  -- a fresh table has its length
  pub makes_unfit : {x : Result Outcome Refusal} → (length p < Most.words) ⊎ ((Most.words ≤ length p) × (length s < Most.words)) → Makes text turns short p s x p₁ s₁
  makes_unfit (inl h) = record { makes = λ p-fresh s-fresh. absurd (omega (arith, ap length p-fresh, fresh_length)) }
  makes_unfit (inr h) = record { makes = λ p-fresh s-fresh. absurd (omega (arith, h.1, ap length s-fresh, fresh_length)) }

  module _ (few : length turns ≤ Most.turns) {x : Result Unit Refusal} (read : ReadAnswers.Makes text short p x p₁) where
    pub makes_away : {e : Refusal} → x ≡ Err e → Makes text turns short p s (Err e) p₁ s₁
    makes_away {e} is = record {
      makes = λ p-fresh s-fresh. rw (as_read text turns short few, Read.refused_is (reading mosts (long_text text) short text) p₁ (read.makes p-fresh) is) (Read.refuses e);
    }

    pub makes_run : {r : Outcome} {u : Unit {0}} → x ≡ Ok u → RunsProgram p₁ turns s r s₁ → Makes text turns short p s (Ok r) p₁ s₁
    makes_run is runs = record {
      makes = λ p-fresh s-fresh.
          let of = Read.read_is (reading mosts (long_text text) short text) (read.makes p-fresh) is in
          let P = of.program in
          let valid = accepted_valid mosts text P (reading_accepted mosts (long_text text) short text P of.is).2 in
          let loaded = words_loaded P valid [] (of.words ∙ sym (append-nil (program_words P))) in
          let held = runs.leaves P loaded valid s-fresh in
          rw (as_read text turns short few, of.is)
          (record {
            answers = runs.answers P loaded valid s-fresh;
            program_words_are = of.words;
            state_words_are = held.words ∙ append-nil (state_words (run mosts P turns).state);
            valid = valid;
            loaded = loaded;
            held = held;
            fits = fits_run P turns valid few;
          });
    }

-- ---- In lent tables

-- demand 3, said of what the code answers and leaves
guarded : (P : Program) (turns rest : List ℕ) {r : Result Outcome Refusal} {state : List ℕ} → told r ≡ answer mosts P (run mosts P turns)
    → state ≡ state_words (run mosts P turns).state ++ rest → Guarded P turns r state
guarded P turns rest answers words =
    let S = (run mosts P turns).state in
    record { answers = answers; leaves = ap (take Most.words) words ∙ take_at (state_words S) rest Most.words (state_words_length S); matches = stripped_matches mosts P turns }

module _ (text turns program state : List ℕ) (short : Bool) {r : Result Outcome Refusal} {p s : List ℕ}
    (made : Makes text turns (ltb (length program) Most.words || (ltb (length state) Most.words || short)) (replicate 8192 0) (replicate 8192 0) r p s) where
  by_lent : Made (lent_inputs mosts text turns program state short) turns r p s
  unfolding lent_inputs short_table fresh_table
  by_lent = made.makes refl refl

  pub ran_away : {e : Refusal} → r ≡ Err e → Ran (lent_inputs mosts text turns program state short) turns program state (Err e) program state
  ran_away is =
      rw (refused_is turns p s (lent_inputs mosts text turns program state short) by_lent is) (record { answers = refl; program_is = refl; state_is = refl; demand_3 = tt })

  module _ {x : Outcome} (e : r ≡ Ok x) where
    one : IsMade (lent_inputs mosts text turns program state short) turns r p s
    one = made_is turns p s (lent_inputs mosts text turns program state short) by_lent e

    none_short : (short_table program || (short_table state || short)) ≡ false
    unfolding lent_inputs inputs
    none_short = (reading_accepted mosts _ _ text one.program one.is).1

    pub room : (Most.words ≤ length program) × (Most.words ≤ length state) × (length p ≡ Most.words) × (length s ≡ Most.words)
    unfolding short_table
    room =
        let others = or_false _ _ none_short in
        let P = one.program in (
          ltb-false _ _ others.0,
          ltb-false _ _ (or_false _ _ others.1).0,
          ap length one.holds.program_words_are ∙ program_words_length P,
          ap length one.holds.state_words_are ∙ state_words_length (run mosts P turns).state,
        )

    pub ran_on : {program₁ state₁ : List ℕ} → program₁ ≡ p ++ drop Most.words program → state₁ ≡ s ++ drop Most.words state
        → Ran (lent_inputs mosts text turns program state short) turns program state (Ok x) program₁ state₁
    ran_on program-copied state-copied =
        let answers : told (Ok x) ≡ answer mosts one.program (run mosts one.program turns) = ap told (sym e) ∙ one.holds.answers in
        let holds = one.holds in
        let state-there = state-copied ∙ ap (λ (ws : List ℕ). ws ++ drop Most.words state) holds.state_words_are in
        rw one.is
        (record {
          answers = answers;
          program_is = program-copied ∙ ap (λ (ws : List ℕ). ws ++ drop Most.words program) holds.program_words_are;
          state_is = state-there;
          demand_3 = guarded one.program turns (drop Most.words state) answers state-there;
        })

-- ---- What stands in lent tables where the run was made

pub record Stands (C : Reading) (turns state p s : List ℕ) : Type 0 where
  pub program : Program
  pub is : C ≡ accepted program
  pub valid : Valid mosts program
  pub loaded : Loaded p program
  pub held : Held s (run mosts program turns).state (drop Most.words state)
  pub fits : Fits mosts program Most.turns (run mosts program turns).state
  pub long : (Most.words ≤ length p) × (Most.words ≤ length s)

pub ran_stands : (text turns program state : List ℕ) (short : Bool) {r : Result Outcome Refusal} {x : Outcome} {p s : List ℕ}
    → Ran (lent_inputs mosts text turns program state short) turns program state r p s → r ≡ Ok x
    → Stands (lent_inputs mosts text turns program state short) turns state p s
unfolding lent_inputs inputs long_turns
ran_stands text turns program state short {r} {p} {s} ran e =
    let of = accepted_is (lent_inputs mosts text turns program state short) turns ran.answers e in
    let P = of.program in
    let so = reading_accepted mosts _ _ text P of.is in
    let valid = accepted_valid mosts text P so.2 in
    let program-there : p ≡ program_words P ++ drop Most.words program = ran.program_is ∙ ap (λ (C : Reading). program_after C program) of.is in
    let state-there : s ≡ state_words (run mosts P turns).state ++ drop Most.words state = ran.state_is ∙ ap (λ (C : Reading). state_after mosts turns C state) of.is in
    record {
      program = P;
      is = of.is;
      valid = valid;
      loaded = words_loaded P valid (drop Most.words program) program-there;
      held = record { words = state-there };
      fits = fits_run P turns valid (ltb-false Most.turns (length turns) (or_false (long_text text) _ so.0).1);
      long = (
        omega (arith, ap length program-there, length-append (program_words P) (drop Most.words program), program_words_length P),
        omega (arith, ap length state-there, length-append (state_words (run mosts P turns).state) (drop Most.words state), state_words_length (run mosts P turns).state),
      );
    }

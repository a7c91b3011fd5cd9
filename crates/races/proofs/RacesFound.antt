-- The verdict of a program in a table, and then of a run's inputs as lent: at most 1,024 turns are a run's turns, and more are refused first.
use Rattle.std.proofs.Common.{ℕ, ◌≤◌, ◌<◌, arith, ◌≡◌, refl, sym, ap, ◌∙◌, subst, Bool, true, false, ◌||◌, List, ltb, length, replicate, lt-ltb, le-ltb, Option, Result, Ok, Err}
use lib.ListN.{length-replicate}
use Rattle.rules.specs.Mosts as Most
use Rattle.rules.specs.Mosts.{mosts}
use Rattle.rules.specs.Numbers as No
use Rattle.rules.specs.Numbers.{number}
use Rattle.rules.specs.Refusals.{Refuses}
use Rattle.rules.specs.declared.faults.Refusal.{Refusal}
use Rattle.rules.specs.Reading.{Reading, turned_away, reading}
use Rattle.rules.specs.Calls.{long_text, long_turns, short_table, inputs, lent_inputs}
use Rattle.rules.specs.Races.{race_call, judged_of}
use Rattle.rules.proofs.ListLaws.{every_get, every_replicate}
use Rattle.table.specs.StateTable.{Starts}
use Rattle.table.specs.ProgramTable.{fresh_table}
use Rattle.run.specs.declared.Outcome.{Outcome}
use Rattle.run.specs.RunAnswers.{told, Ran}
use Rattle.run.proofs.AnswerTells.{refusal_is}
use Rattle.run.proofs.Answering.{ran_stands}
use Rattle.races.specs.declared.Race.{Race}
use Rattle.races.specs.Judged.{Answers, Unmarked, JudgesTurns, Judges, HasJudged}

-- ---- Of a table

pub none_marked : (n : ℕ) → Unmarked n (replicate n 0)
none_marked n = record { wide = length-replicate n 0; none = λ i. every_get (λ (x : ℕ). x ≡ 0) (replicate n 0) i 0 refl (every_replicate (λ (x : ℕ). x ≡ 0) n 0 refl) }

pub judges_none : {p turns : List ℕ} {r : Result (Option Race) Refusal} → Most.race_turns < length turns → Refuses r No.overlong 0 → Judges p turns r
judges_none long is =
    record {
      judges = λ few wide P loaded valid. absurd (omega arith);
      overlong = λ many. is;
      short = λ few narrow. absurd (omega arith);
    }

pub judges_no_table : {p turns : List ℕ} {r : Result (Option Race) Refusal} → length turns ≤ Most.race_turns → length p < Most.words
    → Refuses r No.short_table 0 → Judges p turns r
judges_no_table few narrow is =
    record {
      judges = λ _ wide P loaded valid. absurd (omega arith);
      overlong = λ many. absurd (many few);
      short = λ _ _. is;
    }

pub judges_all : {p turns s : List ℕ} {r : Option Race} → length turns ≤ Most.race_turns → Most.words ≤ length p → Starts fresh_table s → JudgesTurns p turns s r
    → Judges p turns (Ok r)
judges_all few wide starts judged =
    record {
      judges = λ _ _ P loaded valid. ap Ok (judged.judges P _ loaded valid (starts.starts refl));
      overlong = λ many. absurd (many few);
      short = λ _ narrow. absurd (narrow wide);
    }

-- ---- Of a run

or_true : (b : Bool) → (b || true) ≡ true
or_true true = refl
or_true false = refl

or_none : (b : Bool) → (b || false) ≡ b
or_none true = refl
or_none false = refl

module _ (text turns program state : List ℕ) where
  -- more turns are refused before all else
  pub overlong_found : {r : Result (Option Race) Refusal} → Most.race_turns < length turns → Refuses r No.overlong 0
      → HasJudged (race_call mosts text turns program state) turns program state r program state
  unfolding race_call reading
  overlong_found long is =
      let long-is : (long_text text || ltb Most.race_turns (length turns)) ≡ true = rw (lt-ltb Most.race_turns (length turns) long) (or_true (long_text text)) in
      record {
        answers = rw long-is is;
        program_is = rw long-is refl;
        state_is = rw long-is refl;
      }

  -- others are a run's
  same_call : length turns ≤ Most.race_turns → lent_inputs mosts text turns program state false ≡ race_call mosts text turns program state
  unfolding race_call lent_inputs inputs long_turns
  same_call few = rw (le-ltb Most.turns (length turns) (omega arith), le-ltb Most.race_turns (length turns) few, or_none (short_table state)) refl

  module _ (few : length turns ≤ Most.race_turns) {a : Result Outcome Refusal} {p s : List ℕ}
      (ran : Ran (lent_inputs mosts text turns program state false) turns program state a p s) where
    pub away_found : {e : Refusal} → a ≡ Err e → HasJudged (race_call mosts text turns program state) turns program state (Err e) p s
    away_found {e} is =
        let C = lent_inputs mosts text turns program state false in
        let away : C ≡ turned_away (number e.fault) e.line = refusal_is turns C (sym (ap told is) ∙ ran.answers) in
        subst (λ (D : Reading). HasJudged D turns program state (Err e) p s) (same_call few)
        (record {
          answers = rw away (record { refusal = e; is = refl; number_is = refl; line_is = refl });
          program_is = ran.program_is;
          state_is = ran.state_is;
        })

    pub made_found : {x : Outcome} {r : Result (Option Race) Refusal} → a ≡ Ok x → Judges p turns r
        → HasJudged (race_call mosts text turns program state) turns program state r p s
    made_found {r = r} e judged =
        let stands = ran_stands text turns program state false ran e in
        let P = stands.program in
        subst (λ (D : Reading). HasJudged D turns program state r p s) (same_call few)
        (record {
          answers = subst (λ (D : Reading). Answers (judged_of mosts turns D) r) (sym stands.is) (judged.judges few stands.long.0 P stands.loaded stands.valid);
          program_is = ran.program_is;
          state_is = ran.state_is;
        })

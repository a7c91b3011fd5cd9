-- What the search for races answers and leaves, as the numbers and bytes that cross.
use Rattle.std.proofs.Common.{ℕ, ◌≤◌, ◌<◌, arith, ◌≡◌, refl, sym, ap, subst, Bool, true, false, ◌||◌, List, ltb, length, lt-ltb, le-ltb, Option, Result, Ok, Err}
use Rattle.rules.specs.Mosts as Most
use Rattle.rules.specs.Mosts.{mosts}
use Rattle.rules.specs.Numbers as No
use Rattle.rules.specs.Reading.{Reading, reading}
use Rattle.rules.specs.Calls.{long_text, long_turns, inputs}
use Rattle.rules.specs.Races.{judged_of}
use Rattle.rules.proofs.TableWords.{program_words_length}
use Rattle.rules.specs.declared.faults.Refusal.{Refusal}
use Rattle.rules.specs.Numbers.{number}
use Rattle.rules.specs.Refusals.{Refuses}
use Rattle.run.specs.declared.Outcome.{Outcome}
use Rattle.run.proofs.AnswerTells.{made_is, refused_is}
use Rattle.races.specs.declared.Race.{Race}
use Rattle.races.specs.Judged.{Answers, Judges}
use Rattle.host.specs.ByteCalls.{short_bytes, lent_bytes, Stores, race_bytes, HasFound, TellsFound, HasRaced}

or_true : (b : Bool) → (b || true) ≡ true
or_true true = refl
or_true false = refl

or_none : (b : Bool) → (b || false) ≡ b
or_none true = refl
or_none false = refl

-- ---- What is found

module _ (text turns program state : List ℕ) where
  -- more turns are refused before all else
  pub race_overlong : {x : Result (Option Race) Refusal} → Most.race_turns < length turns → Refuses x No.overlong 0
      → HasFound (race_bytes text turns program state) turns program state x program state
  unfolding race_bytes reading
  race_overlong long is =
      let long-is : (long_text text || ltb Most.race_turns (length turns)) ≡ true = rw (lt-ltb Most.race_turns (length turns) long) (or_true (long_text text)) in
      record { answers = rw long-is is; program_is = rw long-is refl; state_is = rw long-is refl }

  module _ (few : length turns ≤ Most.race_turns) {r : Result Outcome Refusal} {p s program₁ state₁ : List ℕ}
      (stores : Stores (lent_bytes text turns program state false) turns program state r p s program₁ state₁) where
    -- others are a run's
    same_inputs : lent_bytes text turns program state false ≡ race_bytes text turns program state
    unfolding lent_bytes inputs long_turns race_bytes
    same_inputs = rw (le-ltb Most.turns (length turns) (omega arith), le-ltb Most.race_turns (length turns) few, or_none (short_bytes Most.words state)) refl

    by_race : Stores (race_bytes text turns program state) turns program state r p s program₁ state₁
    by_race = subst (λ (C : Reading). Stores C turns program state r p s program₁ state₁) same_inputs stores

    -- the run was turned away
    pub race_away : {e : Refusal} → r ≡ Err e → HasFound (race_bytes text turns program state) turns program state (Err e) program₁ state₁
    race_away {e} is =
        let away = refused_is turns p s (race_bytes text turns program state) by_race.made is in
        record {
          answers = rw away (record { refusal = e; is = refl; number_is = refl; line_is = refl });
          program_is = by_race.program_is;
          state_is = by_race.state_is;
        }

    -- the run was made
    pub race_judged : {x : Outcome} {y : Result (Option Race) Refusal} → r ≡ Ok x → Judges p turns y
        → HasFound (race_bytes text turns program state) turns program state y program₁ state₁
    race_judged {y = y} e judges =
        let one = made_is turns p s (race_bytes text turns program state) by_race.made e in
        let P = one.program in
        let holds = one.holds in
        record {
          answers = subst (λ (C : Reading). Answers (judged_of mosts turns C) y) (sym one.is)
              (judges.judges few (omega (arith, ap length holds.program_words_are, program_words_length P)) P holds.loaded holds.valid);
          program_is = by_race.program_is;
          state_is = by_race.state_is;
        }

-- ---- What is found, told in numbers

pub has_raced : (text turns program state : List ℕ) {r : Result (Option Race) Refusal} {program₁ state₁ : List ℕ} {number found first second object field line : ℕ}
    → HasFound (race_bytes text turns program state) turns program state r program₁ state₁ → TellsFound r number found first second object field line
    → HasRaced (race_bytes text turns program state) turns program state number found first second object field line program₁ state₁
has_raced text turns program state has told = record {
  told = told.tells (judged_of mosts turns (race_bytes text turns program state)) has.answers;
  program_is = has.program_is;
  state_is = has.state_is;
}

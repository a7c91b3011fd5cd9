-- The drawing in the buffer: of a table that holds a run, and then of a run's inputs as lent.
use Rattle.std.proofs.Common.{ℕ, ◌≤◌, ◌<◌, arith, ◌≡◌, refl, sym, ap, ◌∙◌, subst, List, ltb, length, drop, ltb-false, inl, inr, ◌⊎◌, Result, Ok, Err}
use Rattle.rules.specs.declared.faults.Fault.TheVariants.{ShortTable}
use Rattle.rules.specs.declared.faults.Refusal.{Refusal}
use Rattle.rules.specs.Mosts as Most
use Rattle.rules.specs.Mosts.{mosts}
use Rattle.rules.specs.Numbers.{number}
use Rattle.rules.specs.Reading.{Reading, turned_away}
use Rattle.rules.specs.Run.{run}
use Rattle.rules.specs.Calls.{short_table, inputs, lent_inputs}
use Rattle.rules.specs.Drawing.{drawing, draw_call, drawn, drawn_of}
use Rattle.rules.proofs.ListLaws.{or_false}
use Rattle.rules.proofs.Accepted.{reading_accepted}
use Rattle.table.specs.StateTable.{Any}
use Rattle.buffer.specs.declared.Output.{Output}
use Rattle.buffer.specs.Writing.{Wrote as WroteAt}
use Rattle.buffer.proofs.Appends.{front_is}
use Rattle.buffer.proofs.Outputs.{at_front}
use Rattle.listing.specs.StateWriting.{Writes}
use Rattle.run.specs.declared.Outcome.{Outcome}
use Rattle.run.specs.RunAnswers.{told, Ran}
use Rattle.run.proofs.AnswerTells.{refusal_is}
use Rattle.run.proofs.Answering.{Stands, ran_stands}
use Rattle.drawing.specs.Drawings.{Drew, DrawsState, HasDrawn}

-- ---- Of a table

-- what is too short is refused
pub too_short : {s buffer : List ℕ} {f : Refusal} → f.fault ≡ ShortTable → f.line ≡ 0
    → (length s < Most.words) ⊎ ((Most.words ≤ length s) × (length buffer < Most.drawing))
    → DrawsState s buffer (Err f) buffer
too_short {f = f} fault line short =
    record {
      draws = λ s-long long P n S rest held fits. absurd (elim short [ inl a ↦ omega (arith, a, s-long) | inr b ↦ omega (arith, b.1, long) ]);
      refuses = λ some. (record { refusal = f; is = refl; number_is = ap number fault; line_is = line }, refl);
    }

drew : {k r : ℕ} {buffer buffer₁ : List ℕ} (text : List ℕ) → WroteAt k buffer buffer₁ 0 r text → Drew (drawn text) buffer (Ok r) buffer₁
drew text w = let front = front_is w in record { answers = ap Ok front.1; leaves = front.0 }

pub drawn_there : {k : ℕ} {o o₁ : Output} {s buffer buffer₁ : List ℕ} → Most.words ≤ length s → Most.drawing ≤ length buffer
    → o.at ≡ 0 → o.buf.now ≡ buffer → buffer₁ ≡ o₁.buf.now → Writes k s o o₁ Any drawing → DrawsState s buffer (Ok o₁.at) buffer₁
drawn_there s-fits fits-there start content left w =
    record {
      draws = λ s-long long P n S rest held fits. drew (drawing S) (at_front start content left (w.writes P n S rest held fits tt));
      refuses = λ some. absurd (some s-fits fits-there);
    }

-- ---- Of a run

module _ (text turns program state buffer : List ℕ) {a : Result Outcome Refusal} {p s : List ℕ}
    (ran : Ran (lent_inputs mosts text turns program state (ltb (length buffer) Most.drawing)) turns program state a p s) where
  -- the run was turned away
  pub draw_away : {f : Refusal} → a ≡ Err f → HasDrawn (draw_call mosts text turns program state buffer) turns program state buffer (Err f) p s buffer
  unfolding draw_call
  draw_away {f} is =
      let C = lent_inputs mosts text turns program state (ltb (length buffer) Most.drawing) in
      let away : C ≡ turned_away (number f.fault) f.line = refusal_is turns C (sym (ap told is) ∙ ran.answers) in
      record {
        drew = rw away (record { answers = record { refusal = f; is = refl; number_is = refl; line_is = refl }; leaves = refl });
        program_is = ran.program_is;
        state_is = ran.state_is;
      }

  -- the run was made
  module _ {x : Outcome} (e : a ≡ Ok x) where
    stands : Stands (lent_inputs mosts text turns program state (ltb (length buffer) Most.drawing)) turns state p s
    stands = ran_stands text turns program state (ltb (length buffer) Most.drawing) ran e

    pub draw_told : {buffer₁ : List ℕ} {r : Result ℕ Refusal} → DrawsState s buffer r buffer₁
        → HasDrawn (draw_call mosts text turns program state buffer) turns program state buffer r p s buffer₁
    unfolding draw_call lent_inputs inputs
    draw_told {buffer₁} {r} draws =
        let P = stands.program in
        let S = (run mosts P turns).state in
        let full = (or_false (short_table state) _ (or_false (short_table program) _ (reading_accepted mosts _ _ text P stands.is).1).1).1 in
        record {
          drew = subst (λ (C : Reading). Drew (drawn_of mosts turns C) buffer r buffer₁) (sym stands.is)
              (draws.draws stands.long.1 (ltb-false _ _ full) P Most.turns S (drop Most.words state) stands.held stands.fits);
          program_is = ran.program_is;
          state_is = ran.state_is;
        }

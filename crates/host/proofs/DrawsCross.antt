-- What the drawing answers and leaves, as the numbers and bytes that cross.
use Rattle.std.proofs.Common.{ℕ, ◌≤◌, arith, ◌≡◌, refl, sym, ap, ◌∙◌, subst, List, [], ltb, length, ltb-false, Result, Ok, Err}
use Rattle.rules.specs.Mosts as Most
use Rattle.rules.specs.Mosts.{mosts}
use Rattle.rules.specs.Reading.{Reading}
use Rattle.rules.specs.Run.{run}
use Rattle.rules.specs.Calls.{inputs}
use Rattle.rules.specs.Drawing.{Drawn, undrawn, drawn, drawn_of}
use Rattle.rules.proofs.ListLaws.{or_false}
use Rattle.rules.proofs.Accepted.{reading_accepted}
use Rattle.rules.proofs.TableWords.{state_words_length}
use Rattle.rules.specs.declared.faults.Refusal.{Refusal}
use Rattle.run.specs.declared.Outcome.{Outcome}
use Rattle.run.proofs.AnswerTells.{made_is, refused_is}
use Rattle.drawing.specs.Drawings.{Answers, Drew, DrawsState}
use Rattle.host.specs.ByteCalls.{short_bytes, lent_bytes, Stores, CountInNumbers, draw_bytes, drawn_number, drawn_line, drawn_length, HasPictured, HasDrawn}

-- what is drawn, told in numbers
drawn_as : (D : Drawn) (y : Result ℕ Refusal) {k n l : ℕ} → Answers D y → CountInNumbers y k n l → (k ≡ drawn_number D) × (n ≡ drawn_length D) × (l ≡ drawn_line D)
drawn_as (undrawn i j) y {k = k} {n = n} {l = l} away told =
    let so = subst (λ (y : Result ℕ Refusal). CountInNumbers y k n l) away.is told in
    (so.0 ∙ away.number_is, so.1, so.2 ∙ away.line_is)
drawn_as (drawn text) y {k = k} {n = n} {l = l} is told = subst (λ (y : Result ℕ Refusal). CountInNumbers y k n l) is told

pub has_drawn : {C : Reading} {turns program state buffer : List ℕ} {y : Result ℕ Refusal} {program₁ state₁ buffer₁ : List ℕ} {k n l : ℕ}
    → HasPictured C turns program state buffer y program₁ state₁ buffer₁ → CountInNumbers y k n l
    → HasDrawn C turns program state buffer k n l program₁ state₁ buffer₁
has_drawn {C} {turns} {y = y} pictured told =
    let so = drawn_as (drawn_of mosts turns C) y pictured.drew.answers told in
    record {
      drew = record { number_is = so.0; written_is = so.1; line_is = so.2; buffer_is = pictured.drew.leaves };
      program_is = pictured.program_is;
      state_is = pictured.state_is;
    }

module _ (text turns program state buffer : List ℕ) {r : Result Outcome Refusal} {p s program₁ state₁ : List ℕ}
    (stores : Stores (lent_bytes text turns program state (ltb (length buffer) Most.drawing)) turns program state r p s program₁ state₁) where
  by_draw : Stores (draw_bytes text turns program state buffer) turns program state r p s program₁ state₁
  unfolding draw_bytes
  by_draw = stores

  -- the run was turned away
  pub drawing_away : {e : Refusal} → r ≡ Err e → HasPictured (draw_bytes text turns program state buffer) turns program state buffer (Err e) program₁ state₁ buffer
  drawing_away {e} is =
      let away = refused_is turns p s (draw_bytes text turns program state buffer) by_draw.made is in
      record {
        drew = rw away (record { answers = record { refusal = e; is = refl; number_is = refl; line_is = refl }; leaves = refl });
        program_is = by_draw.program_is;
        state_is = by_draw.state_is;
      }

  -- the run was made, and the buffer is long enough, so that it is drawn
  pub drawing_done : {x : Outcome} {y : Result ℕ Refusal} {buffer₁ : List ℕ} → r ≡ Ok x → DrawsState s buffer y buffer₁
      → HasPictured (draw_bytes text turns program state buffer) turns program state buffer y program₁ state₁ buffer₁
  unfolding draw_bytes lent_bytes inputs
  drawing_done {y = y} {buffer₁ = buffer₁} e draws =
      let one = made_is turns p s (draw_bytes text turns program state buffer) by_draw.made e in
      let P = one.program in
      let S = (run mosts P turns).state in
      let holds = one.holds in
      let none_short = (reading_accepted mosts _ _ text P one.is).1 in
      let room : Most.drawing ≤ length buffer = ltb-false _ _ (or_false (short_bytes Most.words state) _ (or_false (short_bytes Most.words program) _ none_short).1).1 in
      let drew = draws.draws (omega (arith, ap length holds.state_words_are, state_words_length S)) room P Most.turns S [] holds.held holds.fits in
      record {
        drew = subst (λ (C : Reading). Drew (drawn_of mosts turns C) buffer y buffer₁) (sym one.is) drew;
        program_is = by_draw.program_is;
        state_is = by_draw.state_is;
      }

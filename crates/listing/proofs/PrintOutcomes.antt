-- The run's text: the answer's line and, where the run was made, the lines of the state that it left. A long output holds it.
use Rattle.std.proofs.Common.{ℕ, ◌≤◌, ◌<◌, arith, ◌≡◌, refl, sym, ap, ◌∙◌, true, false, ◌||◌, List, [], ltb, length, drop, length-append, lt-ltb, le-ltb, Result, Ok, Err}
use Rattle.rules.specs.Mosts as Most
use Rattle.rules.specs.Mosts.{mosts}
use Rattle.rules.specs.Reading.{Reading, reading}
use Rattle.rules.specs.Run.{run}
use Rattle.rules.specs.Calls.{long_text, long_turns, inputs}
use Rattle.rules.specs.Listing.{answer_line, state_lines, listing}
use Rattle.rules.specs.Input.{ran_on, printed}
use Rattle.rules.proofs.ListLaws.{impossible, by_bool}
use Rattle.table.specs.ProgramTable.{fresh_table}
use Rattle.table.specs.StateTable.{Any}
use Rattle.run.specs.declared.Outcome.{Outcome}
use Rattle.run.specs.Made.{Made, Makes}
use Rattle.run.specs.RunAnswers.{told}
use Rattle.run.proofs.AnswerTells.{made_is, refused_is}
use Rattle.std.specs.Result.{is_ok}
use Rattle.rules.specs.declared.faults.Fault.TheVariants.{ShortTable}
use Rattle.rules.specs.declared.faults.Refusal.{Refusal}
use Rattle.buffer.specs.declared.Output.{Output}
use Rattle.buffer.specs.Writing.{Wrote as WroteAt}
use Rattle.buffer.specs.Outputs.{Wrote}
use Rattle.listing.specs.StateWriting.{Writes}
use Rattle.listing.specs.Outputs.{run_text, output_bytes, short_refusal, printed_in, output_in, printed_of, output_after}
use Rattle.buffer.proofs.Appends.{front_is}
use Rattle.buffer.proofs.Outputs.{◌▹◌, same_text, at_front}

-- ---- The run's text, of what the inputs come to

module _ (turns p s : List ℕ) {a : Result Outcome Refusal} where
  refused_text : (C : Reading) {e : Refusal} → Made C turns a p s → a ≡ Err e → answer_line (told a) ≡ printed (ran_on mosts turns C)
  refused_text C made is = ap (λ x. answer_line (told x)) is ∙ sym (ap (λ (x : Reading). printed (ran_on mosts turns x)) (refused_is turns p s C made is))

  made_text : {o o₁ o₂ : Output} (C : Reading) {x : Outcome} → Made C turns a p s → a ≡ Ok x → Wrote 40 o o₁ (answer_line (told a))
      → Writes 26368 s o₁ o₂ Any state_lines → Wrote 26408 o o₂ (printed (ran_on mosts turns C))
  unfolding listing
  made_text C made e w ws =
      let one = made_is turns p s C made e in
      let P = one.program in
      let S = (run mosts P turns).state in
      rw one.is (same_text 40 (ap answer_line one.holds.answers) (omega arith) w ▹ ws.writes P Most.turns S [] one.holds.held one.holds.fits tt)

-- ---- What the printing answers and leaves

pub record Prints (text l : List ℕ) (r : ℕ) (l₁ : List ℕ) : Type 0 where
  pub answers : Ok r ≡ printed_of text l
  pub leaves : l₁ ≡ output_after text l

pub in_output : {k r : ℕ} {l l₁ : List ℕ} (text : List ℕ) → output_bytes ≤ length l → WroteAt k l l₁ 0 r text → Prints text l r l₁
unfolding printed_of output_after
in_output {l = l} text long w =
    let front = front_is w in
    let fits = le-ltb (length l) output_bytes long in
    record { answers = rw fits (ap Ok front.1); leaves = rw fits front.0 }

-- what is written fits in the output
pub written_fits : (text l : List ℕ) {r : Result ℕ Refusal} {l₁ : List ℕ} {m : ℕ} → r ≡ printed_of text l → l₁ ≡ output_after text l → r ≡ Ok m → m ≤ length l₁
unfolding printed_of output_after
written_fits text l {l₁ = l₁} {m = m} answers leaves written = by_bool (ltb (length l) output_bytes)
    (λ short. let refused = rw short at answers in impossible cc)
    (λ long.
    let after = rw long at leaves in
    let count : m ≡ length text = let all = rw long at answers in cc in
    omega (arith, count, ap length after, length-append text (drop (length text) l)))

-- a refusal made of its fault and line 0
pub short_is : {r : Refusal} → r.fault ≡ ShortTable → r.line ≡ 0 → r ≡ short_refusal
short_is fault line = λ i. record { fault = fault i; line = line i }

-- in an output that must have more room: it is short; or what was printed as a run is printed there
pub short_in : (room : ℕ) (text l : List ℕ) → length l < room → (Err short_refusal ≡ printed_in room text l) × (l ≡ output_in room text l)
short_in room text l short = rw (lt-ltb (length l) room short) (refl, refl)

pub long_in : (room : ℕ) (text l : List ℕ) {r : Result ℕ Refusal} {l₁ : List ℕ} → output_bytes ≤ room → room ≤ length l
    → (r ≡ printed_of text l) × (l₁ ≡ output_after text l) → (r ≡ printed_in room text l) × (l₁ ≡ output_in room text l)
unfolding printed_of output_after
long_in room text l wide long told = rw (le-ltb (length l) room long) (rw (le-ltb (length l) output_bytes (omega arith)) at told)

pub short_output : (text l : List ℕ) → length l < output_bytes → (Err short_refusal ≡ printed_of text l) × (l ≡ output_after text l)
unfolding printed_of output_after
short_output text l short = short_in output_bytes text l short

module _ (text turns : List ℕ) {program state p s : List ℕ} (program-fresh : program ≡ fresh_table) (state-fresh : state ≡ fresh_table) where
  by_inputs : {a : Result Outcome Refusal} → Makes text turns false program state a p s → Made (reading mosts (long_text text || long_turns turns) false text) turns a p s
  unfolding inputs
  by_inputs made = made.makes program-fresh state-fresh

  module _ {l : List ℕ} {o o₁ : Output} (long : output_bytes ≤ length l) (start : o.at ≡ 0) (content : o.buf.now ≡ l) where
    pub prints_refusal : (a : Result Outcome Refusal) {l₁ : List ℕ} → Makes text turns false program state a p s → Wrote 40 o o₁ (answer_line (told a))
        → l₁ ≡ o₁.buf.now → is_ok a ≡ false → Prints (run_text text turns) l o₁.at l₁
    unfolding run_text
    prints_refusal (Ok x) made w left e = impossible cc
    prints_refusal (Err e) made w left is =
        in_output (run_text text turns) long
        (at_front start content left (same_text 40 (refused_text turns p s (reading mosts (long_text text || long_turns turns) false text) (by_inputs made) refl) (omega arith) w))

    pub prints_run : (a : Result Outcome Refusal) {l₁ : List ℕ} {o₂ : Output} → Makes text turns false program state a p s → Wrote 40 o o₁ (answer_line (told a))
        → l₁ ≡ o₂.buf.now → is_ok a ≡ true → Writes 26368 s o₁ o₂ Any state_lines → Prints (run_text text turns) l o₂.at l₁
    unfolding run_text
    prints_run (Err e) made w left is ws = impossible cc
    prints_run (Ok x) made w left is ws =
        in_output (run_text text turns) long
        (at_front start content left (made_text turns p s (reading mosts (long_text text || long_turns turns) false text) (by_inputs made) refl w ws))

-- What a search for races answers is printed as it stands: a refusal by its line, the race by its two turns, its object and its field.
use Prim.Native.Nat.{ℕ}
use native.Mathlib.Omega.{arith}
use mathlib.Core.Path.{◌≡◌, refl, sym, ap, ◌∙◌}
use mathlib.Core.List.{List, [], ◌∷◌, ◌++◌, map, append_assoc}
use lib.ListN.{length}
use borrow.Author.Tests.{le-ltb}
use Rattle.rules.specs.Mosts as Most
use Rattle.rules.specs.Mosts.{mosts}
use Rattle.rules.specs.Text.{bytes, space}
use Rattle.rules.specs.Templates.{decimal, print_many}
use Rattle.rules.specs.Run.{refused}
use Rattle.rules.specs.Calls.{short_table}
use Rattle.rules.specs.Races.{Verdict, norace, race, race_call, Judged, unjudged, judged, judged_of}
use Rattle.rules.specs.Listing.{bracket, a_line, answer_line}
use Rattle.buffer.specs.Writing.{number_part}
use Rattle.std.specs.Prelude.{Option, Result, Ok, Err}
use Rattle.rules.specs.Numbers.{number}
use Rattle.rules.specs.declared.faults.Refusal.{Refusal}
use Rattle.buffer.specs.Writing.{Wrote}
use Rattle.buffer.proofs.Appends.{front_is}
use Rattle.rules.proofs.ListLaws.{impossible}
use Rattle.races.specs.declared.Race.{Race}
use Rattle.races.specs.Judged.{race_of, Answers, HasJudged}
use Rattle.printing.specs.Printing.{Tells}
use Rattle.reports.specs.RaceTexts.{race_line, norace_line, found_line, verdict_line, judged_as, race_inputs, verdict_text}

-- ---- The lines

numbers_then : (x : ℕ) (xs rest : List ℕ) → number_part x ++ (print_many (λ p. p) (map decimal xs) ++ rest) ≡ print_many (λ p. p) (map decimal (x ∷ xs)) ++ rest
unfolding print_many
numbers_then x xs rest = ap (space ∷◌) (sym (append_assoc (decimal x) (print_many (λ p. p) (map decimal xs)) rest))

pub race_line_lem : (i j n f : ℕ) → bytes "(race" ++ (number_part i ++ (number_part j ++ (number_part n ++ (number_part f ++ bytes ")\n")))) ≡ race_line i j n f
unfolding race_line a_line bracket print_many
race_line_lem i j n f =
    let end : List ℕ = bytes ")\n" in
    let four : List ℕ = print_many (λ p. p) (map decimal (i ∷ j ∷ n ∷ f ∷ [])) in
    ap (bytes "(race" ++◌) (
    ap (number_part i ++◌) (ap (number_part j ++◌) (ap (number_part n ++◌) (numbers_then f [] end) ∙ numbers_then n (f ∷ []) end) ∙ numbers_then j (n ∷ f ∷ []) end)
    ∙ numbers_then i (j ∷ n ∷ f ∷ []) end ∙ sym (append_assoc four (bytes ")") (bytes "\n"))
    )

pub norace_line_lem : bytes "(norace)\n" ≡ norace_line
unfolding norace_line a_line bracket print_many
norace_line_lem = refl

-- ---- What is told of an answer

refused_judged : (J : Judged) {r : Result (Option Race) Refusal} {e : Refusal} → Answers J r → r ≡ Err e → judged_as J ≡ answer_line (refused (number e.fault) e.line)
refused_judged (unjudged k n) {e = e} told is =
    let both = sym told.is ∙ is in
    let same : told.refusal ≡ e = cc in
    rw (← told.number_is, ← told.line_is, same)
refused_judged (judged v) told is = let both = sym told ∙ is in impossible cc

line_of_verdict : (v : Verdict) → found_line (race_of v) ≡ verdict_line v
line_of_verdict norace = refl
line_of_verdict (race i j n f) = refl

found_judged : (J : Judged) {r : Result (Option Race) Refusal} {x : Option Race} → Answers J r → r ≡ Ok x → judged_as J ≡ found_line x
found_judged (unjudged k n) told is = let both = sym told.is ∙ is in impossible cc
found_judged (judged v) {x = x} told is =
    let both = sym told ∙ is in
    let same : race_of v ≡ x = cc in
    sym (line_of_verdict v) ∙ ap found_line same

-- the tables are long enough
race_inputs_lem : (text turns program state : List ℕ) → length program ≡ Most.words → length state ≡ Most.words → race_call mosts text turns program state ≡ race_inputs text turns
unfolding race_call race_inputs short_table
race_inputs_lem text turns program state program-long state-long =
    rw (le-ltb (length program) Most.words (omega arith), le-ltb (length state) Most.words (omega arith)) refl

module _ (text turns : List ℕ) {program state program₁ state₁ : List ℕ} {r : Result (Option Race) Refusal}
    (told : HasJudged (race_call mosts text turns program state) turns program state r program₁ state₁)
    (program-long : length program ≡ Most.words) (state-long : length state ≡ Most.words) where
  answers_here : Answers (judged_of mosts turns (race_inputs text turns)) r
  answers_here = rw (race_inputs_lem text turns program state program-long state-long) at told.answers

  pub refusal_told : {e : Refusal} {output : List ℕ} → r ≡ Err e → Tells (verdict_text text turns) output (Err e) output
  unfolding verdict_text
  refusal_told is = (refused_judged (judged_of mosts turns (race_inputs text turns)) answers_here is, refl)

  pub verdict_told : {x : Option Race} {k m : ℕ} {output left : List ℕ} → r ≡ Ok x → Wrote k output left 0 m (found_line x) → Tells (verdict_text text turns) output (Ok m) left
  unfolding verdict_text
  verdict_told is w = rw (found_judged (judged_of mosts turns (race_inputs text turns)) answers_here is) (let front = front_is w in (front.1, front.0))

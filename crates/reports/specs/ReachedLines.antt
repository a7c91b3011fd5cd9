-- What is printed of a reach report: one line with the objects, by rising number, or the line of its refusal.
use Rattle.std.specs.Prelude.{ℕ, false, List, map}
use Rattle.rules.specs.Mosts.{mosts}
use Rattle.rules.specs.Templates.{decimal, print_many}
use Rattle.rules.specs.Run.{refused}
use Rattle.rules.specs.Calls.{Report, unreported, reached, inputs, reach_report}
use Rattle.rules.specs.Listing.{a_line, answer_line}
use Rattle.replay.specs.Given.{Given, away, faulty, given, given_of}

-- numbers, each after a space
unfoldable pub numbers_text : List ℕ → List ℕ
numbers_text ns = print_many (λ p. p) (map decimal ns)

unfoldable pub reached_line : List ℕ → List ℕ
reached_line objects = a_line "reached" (map decimal objects)

abbrev pub reported : Report → List ℕ
reported (unreported k n) = answer_line (refused k n)
reported (reached objects) = reached_line objects

-- of a script and a list of turns; the tables and the list that are lent for it are never short
unfoldable pub report_text : (text turns : List ℕ) → (thread : ℕ) → List ℕ
report_text text turns t = reported (reach_report mosts turns t (inputs mosts text turns false))

-- of an input of boxrun, with its refusals
abbrev pub reached_given : (thread : ℕ) → Given → List ℕ
reached_given t (away k) = answer_line (refused k 0)
reached_given t (faulty text k n) = answer_line (refused k n)
reached_given t (given text ts) = report_text text ts t

unfoldable pub reached_text : (input : List ℕ) → (thread : ℕ) → List ℕ
reached_text input t = reached_given t (given_of input)

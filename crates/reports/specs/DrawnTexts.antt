-- What is printed of a drawing: its text, or the line of its refusal.
use Rattle.std.specs.Prelude.{ℕ, false, List}
use Rattle.rules.specs.Mosts.{mosts}
use Rattle.rules.specs.Run.{refused}
use Rattle.rules.specs.Calls.{inputs}
use Rattle.rules.specs.Drawing.{Drawn, undrawn, drawn, drawn_of}
use Rattle.rules.specs.Listing.{answer_line}
use Rattle.replay.specs.Given.{Given, away, faulty, given, given_of}

abbrev pub drawn_as : Drawn → List ℕ
drawn_as (undrawn k n) = answer_line (refused k n)
drawn_as (drawn text) = text

-- of a script and a list of turns; the tables and the buffer that are lent for it are never short
unfoldable pub graph_text : (text turns : List ℕ) → List ℕ
graph_text text turns = drawn_as (drawn_of mosts turns (inputs mosts text turns false))

-- of an input of boxrun, with its refusals
abbrev pub drawn_given : Given → List ℕ
drawn_given (away k) = answer_line (refused k 0)
drawn_given (faulty text k n) = answer_line (refused k n)
drawn_given (given text ts) = graph_text text ts

unfoldable pub drawn_text : (input : List ℕ) → List ℕ
drawn_text input = drawn_given (given_of input)

-- What box save prints of an input: "Every text that the reader accepts comes back byte for byte from its table", and its line of turns after
-- it; what boxrun turns away, as boxrun does.
use Rattle.std.specs.Prelude.{ℕ, false, List, ◌++◌, Result}
use Rattle.rules.specs.Mosts as Most
use Rattle.rules.specs.Mosts.{mosts}
use Rattle.rules.specs.Reading.{Reading, turned_away, accepted, reading}
use Rattle.rules.specs.Run.{refused}
use Rattle.rules.specs.Calls.{long_text}
use Rattle.rules.specs.Listing.{answer_line}
use Rattle.rules.specs.Input.{Outcome, turns_away, ran, outcome}
use Rattle.rules.specs.declared.faults.Refusal.{Refusal}
use Rattle.listing.specs.Outputs.{printed_in, output_in}

abbrev pub saved_as : List ℕ → Outcome → List ℕ
saved_as input (turns_away k n) = answer_line (refused k n)
saved_as input (ran a S) = input

unfoldable pub saved : List ℕ → List ℕ
saved input = saved_as input (outcome mosts input)

-- the same of a script and what follows it
abbrev pub script_saved_as : (text rest : List ℕ) → Reading → List ℕ
script_saved_as text rest (turned_away k n) = answer_line (refused k n)
script_saved_as text rest (accepted P) = text ++ rest

unfoldable pub script_saved : (text rest : List ℕ) → List ℕ
script_saved text rest = script_saved_as text rest (reading mosts (long_text text) false text)

-- how many bytes a lent output needs: every input fits
abbrev pub saved_bytes : ℕ
saved_bytes = Most.input

-- as a printed run stands in a lent output, which is longer here
unfoldable pub saved_in : (text output : List ℕ) → Result ℕ Refusal
saved_in text output = printed_in saved_bytes text output

unfoldable pub saved_after : (text output : List ℕ) → List ℕ
saved_after text output = output_in saved_bytes text output

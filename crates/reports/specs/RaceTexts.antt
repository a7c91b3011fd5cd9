-- What is printed of a search for races: one line, with the race that is named, if there is one; or the line of its refusal.
use Rattle.std.specs.Prelude.{ℕ, false, ◌||◌, List, [], ◌∷◌, ltb, length, Option, None, Some}
use Rattle.rules.specs.Mosts as Most
use Rattle.rules.specs.Mosts.{mosts}
use Rattle.rules.specs.Templates.{decimal}
use Rattle.rules.specs.Reading.{Reading, reading}
use Rattle.rules.specs.Run.{refused}
use Rattle.rules.specs.Calls.{long_text}
use Rattle.rules.specs.Races.{Verdict, norace, race, Judged, unjudged, judged, judged_of}
use Rattle.rules.specs.Listing.{a_line, answer_line}
use Rattle.races.specs.declared.Race.{Race}
use Rattle.replay.specs.Given.{Given, away, faulty, given, given_of}

-- the places of the two turns in the list, the object and the field
unfoldable pub race_line : (first second object field : ℕ) → List ℕ
race_line i j n f = a_line "race" (decimal i ∷ decimal j ∷ decimal n ∷ decimal f ∷ [])

unfoldable pub norace_line : List ℕ
norace_line = a_line "norace" []

-- the race that is found, if there is one
abbrev pub found_line : Option Race → List ℕ
found_line None = norace_line
found_line (Some r) = race_line r.first r.second r.object r.field

abbrev pub verdict_line : Verdict → List ℕ
verdict_line norace = norace_line
verdict_line (race i j n f) = race_line i j n f

abbrev pub judged_as : Judged → List ℕ
judged_as (unjudged k n) = answer_line (refused k n)
judged_as (judged v) = verdict_line v

-- of a script and a list of turns; the tables that are lent for it are never short
unfoldable pub race_inputs : (text turns : List ℕ) → Reading
race_inputs text turns = reading mosts (long_text text || ltb Most.race_turns (length turns)) false text

unfoldable pub verdict_text : (text turns : List ℕ) → List ℕ
verdict_text text turns = judged_as (judged_of mosts turns (race_inputs text turns))

-- of an input of boxrun, with its refusals
abbrev pub race_given : Given → List ℕ
race_given (away k) = answer_line (refused k 0)
race_given (faulty text k n) = answer_line (refused k n)
race_given (given text ts) = verdict_text text ts

unfoldable pub race_text : (input : List ℕ) → List ℕ
race_text input = race_given (given_of input)

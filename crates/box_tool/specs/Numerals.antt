-- A word that is a number, as a script has numbers: "decimal, one to three digits, no needless leading zero".
use Rattle.std.specs.Prelude.{ℕ, List, Option, Some, None}
use Rattle.rules.specs.Templates.{Taken, took, unfit, number, whole}

abbrev pub number_by : Taken ℕ → Option ℕ
number_by (took n l) = Some n
number_by unfit = None

unfoldable pub number_of : List ℕ → Option ℕ
number_of word = number_by (whole (number word))

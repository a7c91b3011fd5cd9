-- What a word is as a number, by what stands at its front.
use Prim.Native.Nat.{ℕ, ◌≤◌, ◌<◌}
use mathlib.Core.Path.{◌≡◌}
use mathlib.Core.List.{List}
use lib.ListN.{length, drop, drop_of_length-le}
use lib.Seq.{drop-cons}
use Rattle.std.specs.Prelude.{Option, Some, None}
use Rattle.rules.specs.Templates.{number}
use Rattle.grammar.specs.declared.parts.Part.{Part}
use Rattle.grammar.specs.Parts.{told}
use Rattle.box_tool.specs.Numerals.{number_of}

module _ (word : List ℕ) {r : Option Part} (fits : number (drop 0 word) ≡ told (λ n. n) word r) where
  pub no_number : r ≡ None → None ≡ number_of word
  unfolding number_of
  no_number is = rw (fits, is)

  module _ {p : Part} (is : r ≡ Some p) where
    -- something after the number
    pub more_than_number : p.end < length word → None ≡ number_of word
    unfolding number_of
    more_than_number more = rw (fits, is, drop-cons word p.end 0 more)

    -- a number and nothing else
    pub a_number : length word ≤ p.end → Some p.word ≡ number_of word
    unfolding number_of
    a_number all = rw (fits, is, drop_of_length-le word {i = p.end} all)

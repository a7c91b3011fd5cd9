-- The bytes passed, from the last one down, make the number of the rest of the word.
use Rattle.std.proofs.Common.{◌≤◌, ◌≡◌, length, drop}
use Rattle.rules.specs.Lists.{Every}
use Rattle.grammar.specs.Words.{Byte, word_of}
use Rattle.grammar.proofs.words.word.Given as goal

abbrev pub invariant-loop-i : goal.invariant-loop-i
invariant-loop-i l = (l.i ≤ length l.w) × (l.x ≡ word_of (drop l.i l.w)) × Every Byte l.w

-- The low bytes of the eight at the place are as many as the word has: they are its number where it stands there.
use Rattle.std.proofs.Common.{arith, length, drop}
use Rattle.std.proofs.Math.Nat.{one-le-pow}
use Rattle.grammar.proofs.WordLaws.{begins_word}
use Rattle.grammar.proofs.words.begins_at.Goals as goal

pub nonzero_rem-result : goal.nonzero_rem-result
nonzero_rem-result c = omega (arith, one-le-pow (length c.args.w.now) 256 (omega arith))

pub returns : goal.returns
returns c =
    let a = c.args in
    rw (c.eight.ensures.0, c.span.ensures, c.word.ensures.0) (begins_word a.w.now (drop a.at a.s.now) c.requires.2 c.requires.3 c.word.ensures.1 c.eight.ensures.1)

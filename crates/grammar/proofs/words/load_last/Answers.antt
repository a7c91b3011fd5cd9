-- The last eight bytes of the text end in those that are left: a shift takes the others away.
use Rattle.std.proofs.Common.{refl, arith, drop_of_length-le}
use Rattle.grammar.specs.Words.{word_of}
use Rattle.grammar.proofs.WordLaws.{word_last}
use Rattle.grammar.proofs.words.load_last.Goals as goal

pub returns-then-s-at : goal.returns-then-s-at
unfolding word_of
returns-then-s-at c =
    let a = c.args in
    rw (drop_of_length-le a.s.now c.if-s-at.true) (refl, tt)

pub returns : goal.returns
returns c =
    let a = c.args in
    rw c.load-last.ensures.0 (word_last a.s.now a.at c.requires.0 c.requires.1 (omega arith) c.load-last.ensures.1)

-- Each read is one byte of the text: so the sum is the number that the eight bytes make, low byte first.
use Rattle.std.proofs.Common.{drop}
use Rattle.rules.proofs.ListLaws.{every_take, every_drop}
use Rattle.grammar.specs.Words.{Byte}
use Rattle.grammar.proofs.WordLaws.{word_eight, every_byte}
use Rattle.grammar.proofs.words.load.Goals as goal

pub returns : goal.returns
returns c = (
  word_eight c.args.s.now c.args.at c.requires
      c.from.ensures c.from-2.ensures c.from-3.ensures c.from-4.ensures
      c.from-5.ensures c.from-6.ensures c.from-7.ensures c.from-8.ensures,
  every_take Byte 8 (drop c.args.at c.args.s.now) (every_drop Byte c.args.at c.args.s.now (every_byte c.args.s.now (λ i. (c.type_inv.s i).fits))),
)

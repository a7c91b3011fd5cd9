-- The second word stands where the first one ends, so that both stand there as one.
use Rattle.grammar.proofs.WordLaws.{not_first, both_after}
use Rattle.grammar.proofs.words.words_at.Goals as goal

pub returns-in_err-next : goal.returns-in_err-next
returns-in_err-next c = rw c.from_residual.ensures (not_first c.args.v.now c.args.w.now c.args.text.bytes.now c.args.at c.in_err-next.ensures)

pub returns : goal.returns
returns c = both_after c.args.v.now c.args.w.now c.args.text.bytes.now c.args.at _ _ c.in_ok-next.ensures c.word_at-2.ensures

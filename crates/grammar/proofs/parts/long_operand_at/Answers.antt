-- An operand is one of two words, a number and a closing bracket; the words exclude each other.
use Rattle.std.proofs.Common.{refl, ◌∙◌}
use Rattle.grammar.proofs.PartLaws.{operand_none, operand_begins, taken_word}
use Rattle.grammar.proofs.parts.long_operand_at.Goals as goal

pub returns-in_err-slot-clause-s_value : goal.returns-in_err-slot-clause-s_value
returns-in_err-slot-clause-s_value c = rw c.from_residual.ensures (operand_none c.args.text.bytes.now c.args.at c.in_err-slot.ensures.s_value)

pub returns-then-not-both-clause-s_value : goal.returns-then-not-both-clause-s_value
returns-then-not-both-clause-s_value c =
    operand_begins c.args.text.bytes.now c.args.at _ _ c.in_ok-slot.ensures.s_value _ _ _ c.begins_at-reads.ensures c.begins_at-takes.ensures refl
    ∙ rw (← c.begins_at-closed.ensures, ← c.either.ensures, ← c.both.ensures, c.if-not-both.true)

pub returns-clause-s_value : goal.returns-clause-s_value
returns-clause-s_value c =
    operand_begins c.args.text.bytes.now c.args.at _ _ c.in_ok-slot.ensures.s_value _ _ _ c.begins_at-reads.ensures c.begins_at-takes.ensures (taken_word _ c.from.ensures)
    ∙ rw (← c.begins_at-closed.ensures, ← c.either.ensures, ← c.both.ensures, c.if-not-both.false)

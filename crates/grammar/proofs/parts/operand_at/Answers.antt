-- Where a digit and a closing bracket stand at their places, the operand is one of two words before them; else it is read part by part.
use Rattle.std.proofs.Common.{refl, ◌∙◌}
use Rattle.grammar.proofs.PartLaws.{operand_short, taken_word}
use Rattle.grammar.proofs.parts.operand_at.Goals as goal

pub returns-then-not-either-clause-s_value : goal.returns-then-not-either-clause-s_value
returns-then-not-either-clause-s_value c =
    let a = c.args in
    operand_short a.text.bytes.now a.at c.byte.result c.byte-closed.result c.in-Some.slot c.byte.ensures c.byte-closed.ensures c.in-Some.ensures.0 c.if-not-closed.false c.in-Some.ensures.1
    _ _ _ c.begins_at-reads.ensures c.begins_at-takes.ensures refl ∙ rw (← c.either.ensures, c.if-not-either.true)

pub returns-clause-s_value : goal.returns-clause-s_value
returns-clause-s_value c =
    let a = c.args in
    operand_short a.text.bytes.now a.at c.byte.result c.byte-closed.result c.in-Some.slot c.byte.ensures c.byte-closed.ensures c.in-Some.ensures.0 c.if-not-closed.false c.in-Some.ensures.1
    _ _ _ c.begins_at-reads.ensures c.begins_at-takes.ensures (taken_word _ c.from.ensures) ∙ rw (← c.either.ensures, c.if-not-either.false)

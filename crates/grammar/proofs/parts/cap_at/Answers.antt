-- The four words are tried in turn, as the rule tries them.
use Rattle.std.proofs.Common.{sym, ◌∙◌}
use Rattle.grammar.proofs.PartLaws.{capability_begins}
use Rattle.grammar.proofs.parts.cap_at.Goals as goal

pub returns-then-begins_at-clause-s_value : goal.returns-then-begins_at-clause-s_value
returns-then-begins_at-clause-s_value c =
    let a = c.args in capability_begins a.text.bytes.now a.at ∙ rw (sym c.begins_at.ensures ∙ c.if-begins_at.true)

pub returns-then-begins_at-2-clause-s_value : goal.returns-then-begins_at-2-clause-s_value
returns-then-begins_at-2-clause-s_value c =
    let a = c.args in capability_begins a.text.bytes.now a.at ∙ rw (sym c.begins_at.ensures ∙ c.if-begins_at.false, sym c.begins_at-2.ensures ∙ c.if-begins_at-2.true)

pub returns-then-begins_at-3-clause-s_value : goal.returns-then-begins_at-3-clause-s_value
returns-then-begins_at-3-clause-s_value c =
    let a = c.args in capability_begins a.text.bytes.now a.at ∙ rw (sym c.begins_at.ensures ∙ c.if-begins_at.false, sym c.begins_at-2.ensures ∙ c.if-begins_at-2.false, sym c.begins_at-3.ensures ∙ c.if-begins_at-3.true)

pub returns-then-begins_at-4-clause-s_value : goal.returns-then-begins_at-4-clause-s_value
returns-then-begins_at-4-clause-s_value c =
    let a = c.args in capability_begins a.text.bytes.now a.at ∙ rw (sym c.begins_at.ensures ∙ c.if-begins_at.false, sym c.begins_at-2.ensures ∙ c.if-begins_at-2.false, sym c.begins_at-3.ensures ∙ c.if-begins_at-3.false, sym c.begins_at-4.ensures ∙ c.if-begins_at-4.true)

pub returns-clause-s_value : goal.returns-clause-s_value
returns-clause-s_value c =
    let a = c.args in capability_begins a.text.bytes.now a.at ∙ rw (sym c.begins_at.ensures ∙ c.if-begins_at.false, sym c.begins_at-2.ensures ∙ c.if-begins_at-2.false, sym c.begins_at-3.ensures ∙ c.if-begins_at-3.false, sym c.begins_at-4.ensures ∙ c.if-begins_at-4.false)

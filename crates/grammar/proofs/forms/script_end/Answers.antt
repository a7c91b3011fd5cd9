-- The line is two fixed words, and a text that is shorter than it cannot begin with it.
use Rattle.grammar.proofs.Fronts.{script_short, script_told}
use Rattle.grammar.proofs.forms.script_end.Goals as goal

pub returns-then-s-lt11-clause-s_value : goal.returns-then-s-lt11-clause-s_value
returns-then-s-lt11-clause-s_value c = script_short _ c.if-s-lt11.true

pub returns : goal.returns
returns c = let t = script_told c.args.s.now c.if-s-lt11.false c.words_at.result c.words_at.ensures in record { s_value = t.0; upper_bound = t.1 }

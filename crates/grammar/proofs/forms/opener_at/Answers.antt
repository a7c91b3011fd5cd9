-- Two words, and nothing that a table holds but the number of the form.
use Rattle.rules.specs.Text.{bytes}
use Rattle.rules.specs.Templates.{template}
use Rattle.grammar.proofs.Told.{begins_not, begins_then, begins_past, done, word, no_word}
use Rattle.grammar.proofs.Telling.{short_row}
use Rattle.grammar.proofs.forms.opener_at.Goals as goal

pub returns-in_err-first : goal.returns-in_err-first
returns-in_err-first c = rw c.from_residual.ensures (begins_not c.args.w.now (template ")\n") c.args.text.bytes.now c.args.at c.in_err-first.ensures)

pub returns-in_err-end : goal.returns-in_err-end
returns-in_err-end c = rw c.from_residual-in_err-end.ensures (begins_past c.args.w.now (template ")\n") c.args.text.bytes.now c.args.at c.in_ok-first.ensures (no_word (bytes ")\n") _ c.in_err-end.ensures))

pub returns : goal.returns
returns c = record {
  fits = begins_then c.args.w.now (template ")\n") c.args.text.bytes.now c.args.at c.in_ok-first.ensures (word (bytes ")\n") c.in_ok-end.ensures done) c.short_line.ensures.rest.3;
  words = short_row c.short_line.result c.short_line.ensures.words;
  over = c.short_line.ensures.rest.0;
  need = c.short_line.ensures.rest.1;
  own = c.short_line.ensures.rest.2;
}

-- Each part is read where the one before it ends; where one does not fit, the form does not. The list tells its own words and what is over.
use Rattle.rules.specs.Text.{bytes}
use Rattle.grammar.proofs.Told.{no_line, fits_at, done, word, no_word, past, a_number, past_number, no_number, some_numbers, past_numbers, no_numbers}
use Rattle.grammar.proofs.Telling.{kind_tells}
use Rattle.grammar.proofs.forms.kind_at.Goals as goal

pub returns-in_err-first : goal.returns-in_err-first
returns-in_err-first c = no_line 0 c.args.at _ c.from_residual.ensures (no_word (bytes "(kind (fields ") _ c.in_err-first.ensures)

pub returns-in_err-fields : goal.returns-in_err-fields
returns-in_err-fields c = no_line 0 c.args.at _ c.from_residual-in_err-fields.ensures (past (bytes "(kind (fields ") c.in_ok-first.ensures (no_number c.in_err-fields.ensures.s_value))

pub returns-in_err-next : goal.returns-in_err-next
returns-in_err-next c = no_line 0 c.args.at _ c.from_residual-in_err-next.ensures (past (bytes "(kind (fields ") c.in_ok-first.ensures (past_number c.in_ok-fields.ensures.s_value (no_word (bytes ") (does") _ c.in_err-next.ensures)))

pub returns-in_err-methods : goal.returns-in_err-methods
returns-in_err-methods c = no_line 0 c.args.at _ c.from_residual-in_err-methods.ensures (past (bytes "(kind (fields ") c.in_ok-first.ensures (past_number c.in_ok-fields.ensures.s_value (past (bytes ") (does") c.in_ok-next.ensures (no_numbers c.in_err-methods.ensures.numbers_at))))

pub returns-in_err-end : goal.returns-in_err-end
returns-in_err-end c = no_line 0 c.args.at _ c.from_residual-in_err-end.ensures (past (bytes "(kind (fields ") c.in_ok-first.ensures (past_number c.in_ok-fields.ensures.s_value (past (bytes ") (does") c.in_ok-next.ensures (past_numbers c.in_ok-methods.ensures.numbers_at.fits (no_word (bytes "))\n") _ c.in_err-end.ensures)))))

pub returns : goal.returns
returns c = record {
  parts = (c.in_ok-fields.fields.word, (c.in_ok-methods.ensures.numbers_at.items, tt));
  fits = fits_at _ (word (bytes "(kind (fields ") c.in_ok-first.ensures (a_number c.in_ok-fields.ensures.s_value (word (bytes ") (does") c.in_ok-next.ensures (some_numbers c.in_ok-methods.ensures.numbers_at.fits (word (bytes "))\n") c.in_ok-end.ensures done))))) c.short_line-l.ensures.rest.3;
  tells = kind_tells c.in_ok-fields.fields.word c.in_ok-methods.ensures.numbers_at.items c.in_ok-methods.ensures.numbers_at.listed
      (let w = c.short_line-l.ensures.words in rw (w.0, w.1, w.2, w.3, w.6)) c.either.ensures c.short_line-l.ensures.rest.1 c.short_line-l.ensures.rest.2;
}

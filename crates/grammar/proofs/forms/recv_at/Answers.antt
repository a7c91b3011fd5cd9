-- Each part is read where the one before it ends; where one does not fit, the form does not.
use Rattle.std.proofs.Common.{refl}
use Rattle.rules.specs.Text.{bytes}
use Rattle.grammar.proofs.Told.{no_line, fits_at, done, word, no_word, past, a_number, past_number, no_number}
use Rattle.grammar.proofs.Telling.{short_row, recv_tells}
use Rattle.grammar.proofs.forms.recv_at.Goals as goal

pub returns-in_err-first : goal.returns-in_err-first
returns-in_err-first c = no_line 12 c.args.at _ c.from_residual.ensures (no_word (bytes "(let (recv ") _ c.in_err-first.ensures)

pub returns-in_err-target : goal.returns-in_err-target
returns-in_err-target c = no_line 12 c.args.at _ c.from_residual-in_err-target.ensures (past (bytes "(let (recv ") c.in_ok-first.ensures (no_number c.in_err-target.ensures.s_value))

pub returns-in_err-end : goal.returns-in_err-end
returns-in_err-end c = no_line 12 c.args.at _ c.from_residual-in_err-end.ensures (past (bytes "(let (recv ") c.in_ok-first.ensures (past_number c.in_ok-target.ensures.s_value (no_word (bytes "))\n") _ c.in_err-end.ensures)))

pub returns : goal.returns
returns c = record {
  parts = (c.in_ok-target.target.word, tt);
  fits = fits_at _ (word (bytes "(let (recv ") c.in_ok-first.ensures (a_number c.in_ok-target.ensures.s_value (word (bytes "))\n") c.in_ok-end.ensures done))) c.short_line-l.ensures.rest.3;
  tells = recv_tells c.in_ok-target.target.word (short_row c.short_line-l.result c.short_line-l.ensures.words) c.over.ensures refl c.short_line-l.ensures.rest.2;
}

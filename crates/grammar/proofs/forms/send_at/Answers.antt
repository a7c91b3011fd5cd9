-- Each part is read where the one before it ends; where one does not fit, the form does not.
use Rattle.std.proofs.Common.{refl}
use Rattle.rules.specs.Text.{bytes}
use Rattle.rules.specs.Tables.{operand_of}
use Rattle.grammar.proofs.Told.{no_line, fits_at, done, word, no_word, past, a_number, past_number, no_number, an_operand, past_operand, no_operand}
use Rattle.grammar.proofs.Telling.{short_row, send_tells}
use Rattle.grammar.proofs.forms.send_at.Goals as goal

pub returns-in_err-first : goal.returns-in_err-first
returns-in_err-first c = no_line 11 c.args.at _ c.from_residual.ensures (no_word (bytes "(let (send ") _ c.in_err-first.ensures)

pub returns-in_err-target : goal.returns-in_err-target
returns-in_err-target c = no_line 11 c.args.at _ c.from_residual-in_err-target.ensures (past (bytes "(let (send ") c.in_ok-first.ensures (no_number c.in_err-target.ensures.s_value))

pub returns-in_err-next : goal.returns-in_err-next
returns-in_err-next c = no_line 11 c.args.at _ c.from_residual-in_err-next.ensures (past (bytes "(let (send ") c.in_ok-first.ensures (past_number c.in_ok-target.ensures.s_value (no_word (bytes " ") _ c.in_err-next.ensures)))

pub returns-in_err-given : goal.returns-in_err-given
returns-in_err-given c = no_line 11 c.args.at _ c.from_residual-in_err-given.ensures (past (bytes "(let (send ") c.in_ok-first.ensures (past_number c.in_ok-target.ensures.s_value (past (bytes " ") c.in_ok-next.ensures (no_operand c.in_err-given.ensures.s_value))))

pub returns-in_err-end : goal.returns-in_err-end
returns-in_err-end c = no_line 11 c.args.at _ c.from_residual-in_err-end.ensures (past (bytes "(let (send ") c.in_ok-first.ensures (past_number c.in_ok-target.ensures.s_value (past (bytes " ") c.in_ok-next.ensures (past_operand c.in_ok-given.ensures.s_value (no_word (bytes "))\n") _ c.in_err-end.ensures)))))

pub returns : goal.returns
returns c = record {
  parts = (c.in_ok-target.target.word, (operand_of c.in_ok-given.given.word, tt));
  fits = fits_at _ (word (bytes "(let (send ") c.in_ok-first.ensures (a_number c.in_ok-target.ensures.s_value (word (bytes " ") c.in_ok-next.ensures (an_operand c.in_ok-given.ensures.s_value (word (bytes "))\n") c.in_ok-end.ensures done))))) c.short_line-l.ensures.rest.3;
  tells = send_tells c.in_ok-given.given.word refl c.in_ok-target.target.word (short_row c.short_line-l.result c.short_line-l.ensures.words) (rw (c.either.ensures, c.over-2.ensures, c.over.ensures)) c.max.ensures;
}

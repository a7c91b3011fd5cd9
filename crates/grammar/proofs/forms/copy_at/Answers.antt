-- Each part is read where the one before it ends; where one does not fit, the form does not.
use Rattle.std.proofs.Common.{refl}
use Rattle.rules.specs.Text.{bytes}
use Rattle.rules.specs.Tables.{cap_of}
use Rattle.grammar.proofs.Told.{no_line, fits_at, done, word, no_word, past, a_number, past_number, no_number, a_cap, past_cap, no_cap}
use Rattle.grammar.proofs.Telling.{short_row, copy_tells}
use Rattle.grammar.proofs.forms.copy_at.Goals as goal

pub returns-in_err-first : goal.returns-in_err-first
returns-in_err-first c = no_line 13 c.args.at _ c.from_residual.ensures (no_word (bytes "(let (copy ") _ c.in_err-first.ensures)

pub returns-in_err-cap : goal.returns-in_err-cap
returns-in_err-cap c = no_line 13 c.args.at _ c.from_residual-in_err-cap.ensures (past (bytes "(let (copy ") c.in_ok-first.ensures (no_cap c.in_err-cap.ensures.s_value))

pub returns-in_err-next : goal.returns-in_err-next
returns-in_err-next c = no_line 13 c.args.at _ c.from_residual-in_err-next.ensures (past (bytes "(let (copy ") c.in_ok-first.ensures (past_cap c.in_ok-cap.ensures.s_value (no_word (bytes " ") _ c.in_err-next.ensures)))

pub returns-in_err-slot : goal.returns-in_err-slot
returns-in_err-slot c = no_line 13 c.args.at _ c.from_residual-in_err-slot.ensures (past (bytes "(let (copy ") c.in_ok-first.ensures (past_cap c.in_ok-cap.ensures.s_value (past (bytes " ") c.in_ok-next.ensures (no_number c.in_err-slot.ensures.s_value))))

pub returns-in_err-end : goal.returns-in_err-end
returns-in_err-end c = no_line 13 c.args.at _ c.from_residual-in_err-end.ensures (past (bytes "(let (copy ") c.in_ok-first.ensures (past_cap c.in_ok-cap.ensures.s_value (past (bytes " ") c.in_ok-next.ensures (past_number c.in_ok-slot.ensures.s_value (no_word (bytes "))\n") _ c.in_err-end.ensures)))))

pub returns : goal.returns
returns c = record {
  parts = (cap_of c.in_ok-cap.cap.word, (c.in_ok-slot.slot.word, tt));
  fits = fits_at _ (word (bytes "(let (copy ") c.in_ok-first.ensures (a_cap c.in_ok-cap.ensures.s_value (word (bytes " ") c.in_ok-next.ensures (a_number c.in_ok-slot.ensures.s_value (word (bytes "))\n") c.in_ok-end.ensures done))))) c.short_line-l.ensures.rest.3;
  tells = copy_tells c.in_ok-cap.cap.word c.in_ok-cap.ensures.word_bound.0 c.in_ok-slot.slot.word (short_row c.short_line-l.result c.short_line-l.ensures.words) c.over.ensures refl c.short_line-l.ensures.rest.2;
}

-- Each part is read where the one before it ends; where one does not fit, the form does not. The list tells its own words, its highest slot and what is over.
use Rattle.rules.specs.Text.{bytes}
use Rattle.rules.specs.Tables.{cap_of}
use Rattle.grammar.proofs.Told.{no_line, fits_at, done, word, no_word, past, a_number, past_number, no_number, a_cap, past_cap, no_cap, some_operands, past_operands, no_operands}
use Rattle.grammar.proofs.Telling.{new_tells}
use Rattle.grammar.proofs.forms.new_at.Goals as goal

pub returns-in_err-first : goal.returns-in_err-first
returns-in_err-first c = no_line 8 c.args.at _ c.from_residual.ensures (no_word (bytes "(let (new ") _ c.in_err-first.ensures)

pub returns-in_err-cap : goal.returns-in_err-cap
returns-in_err-cap c = no_line 8 c.args.at _ c.from_residual-in_err-cap.ensures (past (bytes "(let (new ") c.in_ok-first.ensures (no_cap c.in_err-cap.ensures.s_value))

pub returns-in_err-next : goal.returns-in_err-next
returns-in_err-next c = no_line 8 c.args.at _ c.from_residual-in_err-next.ensures (past (bytes "(let (new ") c.in_ok-first.ensures (past_cap c.in_ok-cap.ensures.s_value (no_word (bytes " ") _ c.in_err-next.ensures)))

pub returns-in_err-kind : goal.returns-in_err-kind
returns-in_err-kind c = no_line 8 c.args.at _ c.from_residual-in_err-kind.ensures (past (bytes "(let (new ") c.in_ok-first.ensures (past_cap c.in_ok-cap.ensures.s_value (past (bytes " ") c.in_ok-next.ensures (no_number c.in_err-kind.ensures.s_value))))

pub returns-in_err-given : goal.returns-in_err-given
returns-in_err-given c = no_line 8 c.args.at _ c.from_residual-in_err-given.ensures (past (bytes "(let (new ") c.in_ok-first.ensures (past_cap c.in_ok-cap.ensures.s_value (past (bytes " ") c.in_ok-next.ensures (past_number c.in_ok-kind.ensures.s_value (no_operands c.in_err-given.ensures.operands_at)))))

pub returns-in_err-end : goal.returns-in_err-end
returns-in_err-end c = no_line 8 c.args.at _ c.from_residual-in_err-end.ensures (past (bytes "(let (new ") c.in_ok-first.ensures (past_cap c.in_ok-cap.ensures.s_value (past (bytes " ") c.in_ok-next.ensures (past_number c.in_ok-kind.ensures.s_value (past_operands c.in_ok-given.ensures.operands_at.fits (no_word (bytes "))\n") _ c.in_err-end.ensures))))))

pub returns : goal.returns
returns c = record {
  parts = (cap_of c.in_ok-cap.cap.word, (c.in_ok-kind.kind.word, (c.in_ok-given.ensures.operands_at.items, tt)));
  fits = fits_at _ (word (bytes "(let (new ") c.in_ok-first.ensures (a_cap c.in_ok-cap.ensures.s_value (word (bytes " ") c.in_ok-next.ensures (a_number c.in_ok-kind.ensures.s_value (some_operands c.in_ok-given.ensures.operands_at.fits (word (bytes "))\n") c.in_ok-end.ensures done)))))) c.short_line-l.ensures.rest.3;
  tells = new_tells c.in_ok-cap.cap.word c.in_ok-cap.ensures.word_bound.0 c.in_ok-kind.kind.word c.in_ok-given.ensures.operands_at.items c.in_ok-given.ensures.operands_at.listed
      (let w = c.short_line-l.ensures.words in rw (w.0, w.1, w.2, w.3)) (rw (c.either.ensures, c.over.ensures)) c.in_ok-given.ensures.operands_at.need c.in_ok-given.ensures.operands_at.own;
}

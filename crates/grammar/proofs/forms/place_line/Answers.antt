-- Each part is read where the one before it ends; the operand's word tells its slot and whether it takes slot 0.
use Rattle.std.proofs.Common.{sym, ◌++◌}
use Rattle.rules.specs.Text.{bytes}
use Rattle.rules.specs.Tables.{operand_of}
use Rattle.rules.proofs.TableWords.{slot_of_word}
use Rattle.grammar.specs.Decoded.{place_rest}
use Rattle.grammar.proofs.OperandWords.{operand_word_lem, operand_first}
use Rattle.grammar.proofs.Told.{begins_not, begins_then, begins_past, done, word, no_word, past, a_number, past_number, no_number, an_operand, past_operand, no_operand}
use Rattle.grammar.proofs.Telling.{short_row}
use Rattle.grammar.proofs.forms.place_line.Goals as goal

pub returns-in_err-first : goal.returns-in_err-first
returns-in_err-first c = rw c.from_residual.ensures (begins_not (bytes "(let (" ++ c.args.w.now) place_rest c.args.text.bytes.now c.args.at c.in_err-first.ensures)

pub returns-in_err-target : goal.returns-in_err-target
returns-in_err-target c = rw c.from_residual-in_err-target.ensures (begins_past (bytes "(let (" ++ c.args.w.now) place_rest c.args.text.bytes.now c.args.at c.in_ok-first.ensures (no_number c.in_err-target.ensures.s_value))

pub returns-in_err-next : goal.returns-in_err-next
returns-in_err-next c = rw c.from_residual-in_err-next.ensures (begins_past (bytes "(let (" ++ c.args.w.now) place_rest c.args.text.bytes.now c.args.at c.in_ok-first.ensures (past_number c.in_ok-target.ensures.s_value (no_word (bytes " ") _ c.in_err-next.ensures)))

pub returns-in_err-number : goal.returns-in_err-number
returns-in_err-number c = rw c.from_residual-in_err-number.ensures (begins_past (bytes "(let (" ++ c.args.w.now) place_rest c.args.text.bytes.now c.args.at c.in_ok-first.ensures (past_number c.in_ok-target.ensures.s_value (past (bytes " ") c.in_ok-next.ensures (no_number c.in_err-number.ensures.s_value))))

pub returns-in_err-last : goal.returns-in_err-last
returns-in_err-last c = rw c.from_residual-in_err-last.ensures (begins_past (bytes "(let (" ++ c.args.w.now) place_rest c.args.text.bytes.now c.args.at c.in_ok-first.ensures (past_number c.in_ok-target.ensures.s_value (past (bytes " ") c.in_ok-next.ensures (past_number c.in_ok-number.ensures.s_value (no_word (bytes " ") _ c.in_err-last.ensures)))))

pub returns-in_err-given : goal.returns-in_err-given
returns-in_err-given c = rw c.from_residual-in_err-given.ensures (begins_past (bytes "(let (" ++ c.args.w.now) place_rest c.args.text.bytes.now c.args.at c.in_ok-first.ensures (past_number c.in_ok-target.ensures.s_value (past (bytes " ") c.in_ok-next.ensures (past_number c.in_ok-number.ensures.s_value (past (bytes " ") c.in_ok-last.ensures (no_operand c.in_err-given.ensures.s_value))))))

pub returns-in_err-end : goal.returns-in_err-end
returns-in_err-end c = rw c.from_residual-in_err-end.ensures (begins_past (bytes "(let (" ++ c.args.w.now) place_rest c.args.text.bytes.now c.args.at c.in_ok-first.ensures (past_number c.in_ok-target.ensures.s_value (past (bytes " ") c.in_ok-next.ensures (past_number c.in_ok-number.ensures.s_value (past (bytes " ") c.in_ok-last.ensures (past_operand c.in_ok-given.ensures.s_value (no_word (bytes "))\n") _ c.in_err-end.ensures)))))))

pub returns : goal.returns
returns c = record {
  target = c.in_ok-target.target.word;
  number = c.in_ok-number.number.word;
  operand = operand_of c.in_ok-given.given.word;
  fits = begins_then (bytes "(let (" ++ c.args.w.now) place_rest c.args.text.bytes.now c.args.at c.in_ok-first.ensures (a_number c.in_ok-target.ensures.s_value (word (bytes " ") c.in_ok-next.ensures (a_number c.in_ok-number.ensures.s_value (word (bytes " ") c.in_ok-last.ensures (an_operand c.in_ok-given.ensures.s_value (word (bytes "))\n") c.in_ok-end.ensures done)))))) c.short_line-l.ensures.rest.3;
  words = rw (operand_word_lem c.in_ok-given.given.word) (short_row c.short_line-l.result c.short_line-l.ensures.words);
  over = rw (c.either-2.ensures, c.over-3.ensures, c.either.ensures, c.over-2.ensures, c.over.ensures, slot_of_word c.in_ok-given.given.word);
  need = rw (slot_of_word c.in_ok-given.given.word) c.max.ensures;
  own = sym (operand_first c.in_ok-given.given.word);
}

-- After the word an operand, whose word tells its slot and whether it takes slot 0.
use Rattle.std.proofs.Common.{sym}
use Rattle.rules.specs.Text.{bytes}
use Rattle.rules.specs.Tables.{operand_of}
use Rattle.rules.proofs.TableWords.{slot_of_word}
use Rattle.grammar.specs.Decoded.{operand_rest}
use Rattle.grammar.proofs.OperandWords.{operand_word_lem, operand_first}
use Rattle.grammar.proofs.Told.{begins_not, begins_then, begins_past, done, word, no_word, an_operand, past_operand, no_operand}
use Rattle.grammar.proofs.Telling.{short_row}
use Rattle.grammar.proofs.forms.operand_line.Goals as goal

pub returns-in_err-first : goal.returns-in_err-first
returns-in_err-first c = rw c.from_residual.ensures (begins_not c.args.w.now operand_rest c.args.text.bytes.now c.args.at c.in_err-first.ensures)

pub returns-in_err-given : goal.returns-in_err-given
returns-in_err-given c = rw c.from_residual-in_err-given.ensures (begins_past c.args.w.now operand_rest c.args.text.bytes.now c.args.at c.in_ok-first.ensures (no_operand c.in_err-given.ensures.s_value))

pub returns-in_err-end : goal.returns-in_err-end
returns-in_err-end c = rw c.from_residual-in_err-end.ensures (begins_past c.args.w.now operand_rest c.args.text.bytes.now c.args.at c.in_ok-first.ensures (past_operand c.in_ok-given.ensures.s_value (no_word (bytes ")\n") _ c.in_err-end.ensures)))

pub returns : goal.returns
returns c = record {
  operand = operand_of c.in_ok-given.given.word;
  fits = begins_then c.args.w.now operand_rest c.args.text.bytes.now c.args.at c.in_ok-first.ensures (an_operand c.in_ok-given.ensures.s_value (word (bytes ")\n") c.in_ok-end.ensures done)) c.short_line-l.ensures.rest.3;
  words = rw (operand_word_lem c.in_ok-given.given.word) (short_row c.short_line-l.result c.short_line-l.ensures.words);
  over = rw (slot_of_word c.in_ok-given.given.word) c.over.ensures;
  need = rw (slot_of_word c.in_ok-given.given.word);
  own = sym (operand_first c.in_ok-given.given.word);
}

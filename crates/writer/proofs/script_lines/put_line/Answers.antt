-- `writer::script_lines::put_line` meets its contract: the words of a line tell its form.
use Rattle.writer.proofs.Rows.{line_written}
use Rattle.writer.proofs.script_lines.put_line.Goals as goal

pub returns : goal.returns
returns c =
    line_written c.line_word.ensures.line_word c.line_word-a.ensures.line_word c.line_word-b.ensures.line_word c.line_word-c.ensures.line_word
    c.line_word-d.ensures.line_word c.line_word-e.ensures.line_word c.line_word-f.ensures.line_word (rw c.from-form.ensures at c.put_form.ensures)

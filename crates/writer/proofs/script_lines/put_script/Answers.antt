-- `writer::script_lines::put_script` meets its contract: what the edition's word says, and the lines after it.
use Rattle.std.proofs.Common.{rules}
use Rattle.writer.proofs.Rows.{script_written}
use Rattle.writer.proofs.script_lines.put_script.Goals as goal

pub returns : goal.returns
returns c =
    script_written c.new-out.ensures.start c.new-out.ensures.content (search (rules, c.put_lines.ensures.writes.buffer_same)) c.edition.ensures.edition_is
    c.put_head.ensures c.put_lines.ensures

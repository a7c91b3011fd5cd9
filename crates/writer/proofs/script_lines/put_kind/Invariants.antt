-- Its blocks are numbers, of five digits at most.
use Rattle.rules.specs.Templates.{decimal}
use Rattle.writer.proofs.script_lines.put_kind.Given as goal

abbrev pub ghost-put_items : goal.ghost-put_items
ghost-put_items a = (decimal, 6)

-- Its operands are operands' words.
use Rattle.rules.specs.Tables.{operand_of}
use Rattle.rules.specs.Templates.{print_operand}
use Rattle.writer.proofs.script_lines.put_new.Given as goal

abbrev pub ghost-put_items : goal.ghost-put_items
ghost-put_items a = ((λ i. print_operand (operand_of i)), 13)

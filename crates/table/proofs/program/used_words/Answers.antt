-- `table::program::used_words` meets its contract: behind the counts and the blocks' first lines, each line of the text has its eight words.
use Rattle.std.proofs.Common.{refl, arith, le-ltb, lt-ltb}
use Rattle.table.proofs.ProgramTable.{too_many_lines, used_by_lines}
use Rattle.table.proofs.program.used_words.Goals as goal

pub returns-then-n-gt672-clause-value : goal.returns-then-n-gt672-clause-value
returns-then-n-gt672-clause-value c = (rw (← c.line_count-n.ensures.value.0, lt-ltb _ _ c.if-n-gt672.true) refl, omega arith)

pub returns-then-n-gt672-clause-used_words : goal.returns-then-n-gt672-clause-used_words
returns-then-n-gt672-clause-used_words c = too_many_lines c.line_count-n.ensures.line_count c.if-n-gt672.true

pub returns-clause-value : goal.returns-clause-value
returns-clause-value c = (rw (← c.line_count-n.ensures.value.0, le-ltb _ _ c.if-n-gt672.false) refl, omega arith)

pub returns-clause-used_words : goal.returns-clause-used_words
returns-clause-used_words c = used_by_lines c.line_count-n.ensures.line_count

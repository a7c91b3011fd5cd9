-- `table::stripped::strip_program` meets its contract: before turn n the first n lines are stripped, and a table has no more than 672.
use Rattle.table.proofs.StrippedWords.{StripsFirst}
use Rattle.table.proofs.stripped.strip_program.Given as goal

abbrev pub invariant-loop-n : goal.invariant-loop-n
invariant-loop-n l = StripsFirst l.n l.initial.t l.t

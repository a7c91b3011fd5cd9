-- `table::stripped::erase_state` meets its contract: before turn o the first o objects are unsafe, and a run makes no more than 256.
use Rattle.table.proofs.StrippedWords.{ErasesFirst}
use Rattle.table.proofs.stripped.erase_state.Given as goal

abbrev pub invariant-loop-o : goal.invariant-loop-o
invariant-loop-o l = ErasesFirst l.o l.initial.s l.s

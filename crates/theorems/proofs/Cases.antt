-- Every starred case comes out as stated: the definitions are computed on its text.
use mathlib.Core.Path.{refl}
use Rattle.theorems.specs.Cases.{read_for, reading_of, output_for, found, answers, stated, AllHold, case_d, cases}
use Rattle.theorems.proofs.Computing.{reads_texts, runs_programs, prints_runs}

-- `unfolding computed` opens all that a case takes
unfoldable pub computed : Unit {0}
unfolding reads_texts runs_programs prints_runs read_for reading_of output_for found answers stated
computed = tt

-- the one fact
every_case : AllHold cases
unfolding case_d cases computed
every_case = refl

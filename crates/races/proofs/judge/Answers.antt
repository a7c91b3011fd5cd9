-- `races::judge` meets its contract: what is too long or too short is refused, and the marks are none before the first turn.
use Rattle.std.proofs.Common.{arith, refl, ap}
use Rattle.rules.specs.Numbers.{number}
use Rattle.table.specs.ProgramTable.{fresh_table}
use Rattle.races.proofs.RacesFound.{none_marked, judges_none, judges_no_table, judges_all}
use Rattle.races.proofs.judge.Goals as goal

pub returns-then-turns-gt1024 : goal.returns-then-turns-gt1024
returns-then-turns-gt1024 c = judges_none c.if-turns-gt1024.true
    (record { refusal = c.at.result; is = refl; number_is = ap number c.at.ensures.fault; line_is = c.at.ensures.line })

pub returns-then-p-lt8192 : goal.returns-then-p-lt8192
returns-then-p-lt8192 c =
    judges_no_table (omega (arith, c.if-turns-gt1024.false)) c.if-p-lt8192.true
    (record { refusal = c.at-then-p-lt8192.result; is = refl; number_is = ap number c.at-then-p-lt8192.ensures.fault; line_is = c.at-then-p-lt8192.ensures.line })

pub judge_turns-requires-clause-unmarked : goal.judge_turns-requires-clause-unmarked
judge_turns-requires-clause-unmarked c =
    record {
      receives = none_marked 4096;
      reads = none_marked 16384;
      read_puts = none_marked 16384;
      swaps = none_marked 16384;
      swap_puts = none_marked 16384;
    }

pub returns : goal.returns
unfolding fresh_table
returns c =
    judges_all (omega (arith, c.if-turns-gt1024.false)) (omega (arith, c.if-p-lt8192.false)) c.start_state.ensures.starts c.judge_turns.ensures

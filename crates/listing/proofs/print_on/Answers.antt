-- `listing::print_on` meets its contract: a short output stays; otherwise the answer is printed, and the state of a run that was made.
use Rattle.std.proofs.Common.{arith, sym, ap, ◌∙◌, length, rules}
use Rattle.table.proofs.ProgramTable.{fresh_length}
use Rattle.listing.specs.Outputs.{run_text}
use Rattle.listing.proofs.PrintOutcomes.{short_is, short_output, prints_refusal, prints_run}
use Rattle.listing.proofs.print_on.Goals as goal
use Rattle.listing.proofs.print_on.Goals.{then-is_ok, else-is_ok}

pub returns-then-output-lt32768 : goal.returns-then-output-lt32768
returns-then-output-lt32768 c =
    let a = c.args in
    let short = short_output (run_text a.text.now a.turns.now) a.output.now c.if-output-lt32768.true in
    rw (short_is c.at.ensures.fault c.at.ensures.line) (record { value = short.0; output_after = short.1 })

pub put_state-requires : goal.put_state-requires
put_state-requires c = (search rules, omega (arith, ap length c.requires.1, fresh_length))

pub returns : goal.returns
returns c =
    let a = c.args in
    let new = c.new-out.ensures in
    let long = c.if-output-lt32768.false in
    elim c.if-is_ok.branch [
      | then-is_ok w ↦
          let same = rw (← w.out-is) at w.put_state.ensures.buffer_same in
          let x = prints_run a.text.now a.turns.now c.requires.0 c.requires.1 long new.start new.content _ c.make-answer.ensures (rw c.from.ensures at c.put_answer.ensures)
          (rw (← w.out-is) (search (rules, same))) (sym c.is_ok.ensures.value ∙ w.if-is_ok.true) w.put_state.ensures in
          rw w.out-is (record { value = x.answers; output_after = x.leaves })
      | else-is_ok w ↦
          let same = rw (← w.out-is) at c.put_answer.ensures.buffer_same in
          let x = prints_refusal a.text.now a.turns.now c.requires.0 c.requires.1 long new.start new.content _ c.make-answer.ensures (rw c.from.ensures at c.put_answer.ensures)
          (rw (← w.out-is) (search (rules, same))) (sym c.is_ok.ensures.value ∙ w.if-is_ok.false) in
          rw w.out-is (record { value = x.answers; output_after = x.leaves })
    ]

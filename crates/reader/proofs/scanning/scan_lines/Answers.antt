-- The loop keeps what was read in the table and the lines from here on still to scan; each turn takes one line.
use native.Mathlib.Omega.{arith}
use Prim.Native.Nat.{ℕ, ◌+◌}
use mathlib.Core.Path.{ap, ◌∙◌}
use Rattle.rules.specs.Numbers.{number}
use Rattle.reader.proofs.Scan.{at_start, at_end, unfit_line, refused_line, passes, few_lines, few_counts, small, room, further, next_line}
use Rattle.reader.proofs.scanning.scan_lines.Goals as goal

pub loop-at-init : goal.loop-at-init
loop-at-init c =
    let a = c.args in
    at_start a.second a.text.now a.words.now (record { kinds = c.requires.0; blocks = c.requires.1; lets = c.requires.2 })

pub overflow_add-line : goal.overflow_add-line
overflow_add-line c = omega (arith, few_lines c.loop-at.invariant)

pub returns-in_default : goal.returns-in_default
returns-in_default c =
    unfit_line c.loop-at.invariant c.loop-at-test.true c.in_default.ensures (ap number c.at.ensures.fault ∙ c.unfit_fault.ensures)
    (c.at.ensures.line ∙ ap (λ (b : ℕ). c.loop-at.n + b) c.lines_before-before.ensures.value)

pub returns-in-Err : goal.returns-in-Err
returns-in-Err c = refused_line c.loop-at.invariant c.in-Some.ensures c.in-Err.ensures c.at-in-Err.ensures.fault (c.at-in-Err.ensures.line ∙ ap (λ (b : ℕ). c.loop-at.n + b) c.lines_before-before.ensures.value)

pub put_line-requires : goal.put_line-requires
put_line-requires c =
    (omega (arith, c.loop-at.invariant.same_length), room c.loop-at.invariant (passes c.loop-at.invariant c.in-Some.ensures c.in_default-fault.ensures))

pub after_line-r-requires : goal.after_line-r-requires
after_line-r-requires c = small c.loop-at.invariant

pub overflow_add-n : goal.overflow_add-n
overflow_add-n c = omega (arith, few_lines c.loop-at.invariant)

pub loop-at-smaller : goal.loop-at-smaller
loop-at-smaller c =
    further c.loop-at.invariant (passes c.loop-at.invariant c.in-Some.ensures c.in_default-fault.ensures) c.loop-at-test.true

pub loop-at-preserved : goal.loop-at-preserved
loop-at-preserved c =
    next_line c.loop-at.invariant (passes c.loop-at.invariant c.in-Some.ensures c.in_default-fault.ensures) c.put_line.ensures c.after_line-r.ensures c.put_line.auto.words

pub overflow_add-n-2 : goal.overflow_add-n-2
overflow_add-n-2 c = omega (arith, few_lines c.loop-at.invariant)

pub finish-requires : goal.finish-requires
finish-requires c = few_counts c.loop-at.invariant

pub returns : goal.returns
returns c = at_end c.loop-at.invariant c.loop-at-test.false (rw c.lines_before-before.ensures.value at c.finish.ensures)

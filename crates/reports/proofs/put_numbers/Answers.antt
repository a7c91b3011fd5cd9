-- Before turn i the first i numbers are written.
use native.Mathlib.Omega.{arith}
use lib.Seq.{take_all}
use mathlib.Core.Path.{ap}
use Rattle.buffer.proofs.Outputs.{same_text}
use Rattle.reports.specs.ReachedLines.{numbers_text}
use Rattle.reports.proofs.ReachedTexts.{no_number_yet, number_next}
use Rattle.reports.proofs.put_numbers.Goals as goal

pub loop-number-init : goal.loop-number-init
loop-number-init c = no_number_yet c.args.numbers.now (omega arith)

pub put_number-requires : goal.put_number-requires
put_number-requires c = omega (arith, c.loop-number.invariant.most, c.loop-number.invariant.length_same, c.loop-number-test.true)

pub loop-number-preserved : goal.loop-number-preserved
loop-number-preserved c = number_next c.args.numbers.now c.loop-number.number-index c.loop-number-test.true c.loop-number.invariant c.put_number.ensures

pub returns : goal.returns
returns c =
    same_text 1536 (ap numbers_text (take_all c.loop-number.number-index c.args.numbers.now (omega (arith, c.loop-number-test.false)))) (omega (arith, c.loop-number.auto)) c.loop-number.invariant

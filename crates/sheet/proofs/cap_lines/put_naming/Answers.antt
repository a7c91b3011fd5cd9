-- Before turn n the numbers of the lines before n are written.
use Rattle.std.proofs.Common.{arith}
use Rattle.sheet.proofs.CapLaws.{named_start, named_on, named_all}
use Rattle.sheet.proofs.cap_lines.put_naming.Goals as goal

pub loop-n-init : goal.loop-n-init
loop-n-init c = named_start c.args.p.now c.args.first c.args.out.now (omega (arith, c.requires.0))

pub put_name-requires : goal.put_name-requires
put_name-requires c =
    (omega (arith, c.requires.0, c.loop-n.invariant.most, c.loop-n.invariant.length_same, c.loop-n-test.true, c.min-n-end.ensures), c.requires.1, c.requires.2, omega (arith, c.loop-n-test.true, c.min-n-end.ensures))

pub loop-n-preserved : goal.loop-n-preserved
loop-n-preserved c = named_on c.loop-n.invariant c.put_name.ensures

pub returns : goal.returns
returns c = named_all c.loop-n.invariant c.line_count.ensures.line_count (omega (arith, c.loop-n.auto.n-end, c.loop-n-test.false, c.min-n-end.ensures))

-- The bytes between the starts of two lines are the lines between them.
use native.Mathlib.Omega.{arith}
use mathlib.Core.Path.{ap}
use lib.ListN.{length}
use Rattle.buffer.proofs.Outputs.{same_text}
use Rattle.explain.proofs.LinesBetween.{starts_rise, part_between}
use Rattle.explain.proofs.put_lines.Goals as goal

pub slice_bounds-put_text-count : goal.slice_bounds-put_text-count
slice_bounds-put_text-count c =
    let rises = starts_rise c.args.text.now c.args.from c.args.to c.requires.1 in
    omega (arith, rises, c.line_start-start.ensures.2, c.line_start-end.ensures.2)

pub slice_bounds-put_text-start : goal.slice_bounds-put_text-start
slice_bounds-put_text-start c =
    let rises = starts_rise c.args.text.now c.args.from c.args.to c.requires.1 in
    omega (arith, rises, c.line_start-start.ensures.2, c.line_start-end.ensures.2)

pub returns : goal.returns
returns c =
    let same = part_between c.args.text.now c.args.from c.args.to c.requires.1 c.line_start-start.ensures.2 c.line_start-end.ensures.2 in
    same_text 32768 same (omega (arith, ap length same)) c.put_text.ensures

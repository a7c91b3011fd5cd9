-- The script stands at the front of its own buffer; it and the line are written only where both fit in an input.
use native.Mathlib.Omega.{arith}
use mathlib.Core.Path.{refl, sym}
use Rattle.std.proofs.Common.{rules}
use Rattle.buffer.proofs.Outputs.{◌▹◌, at_front}
use Rattle.stripping.proofs.StrippedPrints.{called, script_fits, says_no_script, says_too_long, says_again}
use Rattle.stripping.proofs.write_table.Goals as goal

pub overflow_sub-n : goal.overflow_sub-n
overflow_sub-n c =
    let told = called c.args.table.now _ _ c.write.result c.write.ensures (search rules) (search rules) in
    omega (arith, (script_fits told c.in-Ok.is).0)

pub slice_bounds-text-end : goal.slice_bounds-text-end
slice_bounds-text-end c =
    let told = called c.args.table.now _ _ c.write.result c.write.ensures (search rules) (search rules) in
    omega (arith, (script_fits told c.in-Ok.is).0, c.write.auto.buffer)

pub slice_bounds-put_text-end : goal.slice_bounds-put_text-end
slice_bounds-put_text-end c =
    let told = called c.args.table.now _ _ c.write.result c.write.ensures (search rules) (search rules) in
    sym (script_fits told c.in-Ok.is).1

pub returns-in-Err : goal.returns-in-Err
returns-in-Err c =
    let told = called c.args.table.now _ _ c.write.result c.write.ensures (search rules) (search rules) in
    says_no_script told c.args.last.now c.in-Err.is c.at.ensures.fault c.at.ensures.line refl

pub returns-then-n-last : goal.returns-then-n-last
returns-then-n-last c =
    let told = called c.args.table.now _ _ c.write.result c.write.ensures (search rules) (search rules) in
    says_too_long told c.args.last.now c.in-Ok.is c.if-n-last.true c.at-then-n-last.ensures.fault c.at-then-n-last.ensures.line refl

pub returns : goal.returns
returns c =
    let told = called c.args.table.now _ _ c.write.result c.write.ensures (search rules) (search rules) in
    says_again told c.args.last.now c.in-Ok.is c.if-n-last.false
    (at_front c.new-out.ensures.start c.new-out.ensures.content (search (rules, c.put_text.ensures.buffer_same, c.put_text-2.ensures.buffer_same)) (c.put_text.ensures ▹ c.put_text-2.ensures))

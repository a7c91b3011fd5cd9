-- The bytes passed, from the last one down, make the number of the rest of the word.
use Rattle.std.proofs.Common.{arith, ◌≡◌, ap, ◌∙◌, drop}
use Rattle.std.proofs.Math.Seq.{drop-length}
use Rattle.grammar.specs.Words.{word_of}
use Rattle.grammar.proofs.WordLaws.{every_byte, six_bytes, word_earlier}
use Rattle.grammar.proofs.words.word.Goals as goal

pub loop-i-init : goal.loop-i-init
unfolding word_of
loop-i-init c =
    (omega arith, rw (drop-length c.args.w.now), every_byte c.args.w.now (λ i. (c.type_inv.w i).fits))

pub overflow_mul-x : goal.overflow_mul-x
overflow_mul-x c = omega (arith, six_bytes c.args.w.now c.loop-i.i c.loop-i.invariant.2 c.loop-i-test.true c.requires)

pub overflow_add-x : goal.overflow_add-x
overflow_add-x c = omega (arith, six_bytes c.args.w.now c.loop-i.i c.loop-i.invariant.2 c.loop-i-test.true c.requires)

pub loop-i-preserved : goal.loop-i-preserved
loop-i-preserved c =
    (omega arith, word_earlier c.args.w.now c.loop-i.i c.loop-i-test.true c.loop-i.invariant.0 c.loop-i.invariant.1 c.from.ensures, c.loop-i.invariant.2)

pub returns : goal.returns
returns c =
    let e : c.loop-i.i ≡ 0 = omega arith in
    (c.loop-i.invariant.1 ∙ ap (λ i. word_of (drop i c.args.w.now)) e, c.loop-i.invariant.2)

-- Before turn i the first bytes of the line stand there, each as it is shown.
use Rattle.std.proofs.Common.{◌≡◌, length, get_or, refl, ◌∙◌, arith, rules}
use Rattle.buffer.proofs.Outputs.{nothing}
use Rattle.sheet.proofs.RefusalLaws.{one_more_as, all_as}
use Rattle.sheet.proofs.refusals.put_line.Goals as goal

pub loop-b-init : goal.loop-b-init
loop-b-init g c = record { text = λ h fits. nothing 0 (omega (arith, c.requires.0)); most = omega arith; length_same = refl; buffer_same = refl }

pub put_byte-requires : goal.put_byte-requires
put_byte-requires g c = omega (arith, c.requires.0, c.loop-b.invariant.most, c.loop-b.invariant.length_same, c.loop-b-test.true)

pub loop-b-preserved : goal.loop-b-preserved
loop-b-preserved g c =
    let so = c.loop-b.invariant in
    let put = c.put_byte.ensures in
    record {
      text = λ h fits. one_more_as h c.args.line.now c.loop-b.b-index c.loop-b-test.true (so.text h fits) put (fits (get_or c.args.line.now c.loop-b.b-index 0) c.byte.result (search rules) c.byte.ensures);
      most = omega (arith, so.most, put.most);
      length_same = put.length_same ∙ so.length_same;
      buffer_same = put.buffer_same ∙ so.buffer_same;
    }

pub returns : goal.returns
returns g c =
    let so = c.loop-b.invariant in
    let all : c.loop-b.b-index ≡ length c.args.line.now = omega (arith, c.loop-b.auto.b-index-end, c.loop-b-test.false) in
    record {
      text = λ h fits. all_as h c.args.line.now c.loop-b.b-index all (so.text h fits);
      same_length = so.length_same;
      same_buffer = so.buffer_same;
      end = omega (arith, so.most, all);
    }

-- A refusal of the input is answered; else the job is called, on parts that are lent in full.
use native.Mathlib.Omega.{arith}
use mathlib.Core.Path.{refl}
use lib.Seq.{length-take-le}
use Rattle.std.proofs.Common.{rules}
use Rattle.replay.proofs.GivenLaws.{parts_fit, input_fits, whole_again}
use Rattle.printing.proofs.JobLaws.{does_job, does_misfit}
use Rattle.printing.proofs.do_job.Goals as goal

pub returns-in_err-parts : goal.returns-in_err-parts
returns-in_err-parts g c =
    does_misfit c.args.input.now c.args.output.now c.split.ensures (omega arith) c.in_err-parts.was (search rules) refl

pub job-requires : goal.job-requires
job-requires g c =
    let fit = parts_fit c.split.ensures c.in_ok-parts.was in
    c.requires _ _ _ _ (whole_again c.args.input.now c.in_ok-parts.parts.script fit.0) (input_fits c.split.ensures c.in_ok-parts.was)
    (omega (arith, length-take-le c.in_ok-parts.parts.turns c.split.new.turns fit.1, fit.1, c.split.auto.turns)) (omega arith)

pub returns : goal.returns
returns g c =
    let fit = parts_fit c.split.ensures c.in_ok-parts.was in
    does_job c.args.input.now c.args.output.now c.split.ensures (omega arith) c.in_ok-parts.was
    (record {
      text_lent = _;
      turns_lent = _;
      last_lent = _;
      output_lent = _;
      left = _;
      called = c.job.ensures;
      text_is = refl;
      turns_are = refl;
      whole = whole_again c.args.input.now c.in_ok-parts.parts.script fit.0;
      few = omega (arith, length-take-le c.in_ok-parts.parts.turns c.split.new.turns fit.1, fit.1, c.split.auto.turns);
      output_is = refl;
      leaves = refl;
    })

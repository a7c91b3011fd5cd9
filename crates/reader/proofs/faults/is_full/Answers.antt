-- The number of a form says its sort, and with it the most that counts; the slots filled are those of the open block.
use native.Mathlib.Omega.{arith}
use mathlib.Core.List.{[], ◌∷◌}
use borrow.Author.Tests.{le-leb, lt-leb}
use Rattle.rules.specs.declared.forms.Form.TheVariants.{NoForm, Kind, Thread, Method, Give}
use Rattle.rules.proofs.FormNumbers.{number_told, all_but}
use Rattle.reader.specs.Sofar.{full_before}
use Rattle.reader.proofs.LineChecks.{named, told, is_kind, is_opener, is_give, line_opener_number, let_told}
use Rattle.reader.proofs.faults.is_full.Goals as goal

pub returns-then-r-ge16 : goal.returns-then-r-ge16
unfolding full_before
returns-then-r-ge16 c =
    record {
      is = λ tidy F e.
          let (x, k) = let_told (named c.args.form) (all_but (NoForm ∷ Kind ∷ Thread ∷ Method ∷ Give ∷ [])) c.in-Value.is tt tt tt tt F e in
          rw (k, tidy.filled, le-leb 16 c.args.r.filled c.if-r-ge16.true);
    }

pub returns-in-Kind : goal.returns-in-Kind
unfolding full_before
returns-in-Kind c = record { is = λ tidy F e. let (K, k) = is_kind F (told F e) (number_told (named c.args.form) c.in-Kind.is (omega arith)) in rw k }

pub returns-in-NoForm : goal.returns-in-NoForm
unfolding full_before
returns-in-NoForm c =
    record {
      is = λ tidy F e.
          let between = line_opener_number (named c.args.form) F e c.in-NoForm.is in
          let (o, k, n) = is_opener F (told F e) between.0 between.1 in
          rw k;
    }

pub returns-in-Give : goal.returns-in-Give
unfolding full_before
returns-in-Give c = record { is = λ tidy F e. let (w, k) = is_give F (told F e) (number_told (named c.args.form) c.in-Give.is (omega arith)) in rw k }

pub returns-else-r-ge16 : goal.returns-else-r-ge16
unfolding full_before
returns-else-r-ge16 c =
    record {
      is = λ tidy F e.
          let (x, k) = let_told (named c.args.form) (all_but (NoForm ∷ Kind ∷ Thread ∷ Method ∷ Give ∷ [])) c.in-Value.is tt tt tt tt F e in
          rw (k, tidy.filled, lt-leb 16 c.args.r.filled c.if-r-ge16.false);
    }

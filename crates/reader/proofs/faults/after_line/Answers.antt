-- The number of a form says its sort, and with it what the line adds; an opener starts the count of slots, a let adds one.
use native.Mathlib.Omega.{arith}
use mathlib.Core.Path.{refl}
use mathlib.Core.List.{[], ◌∷◌}
use Rattle.rules.specs.declared.forms.Form.TheVariants.{Kind, Thread, Method, Give}
use Rattle.rules.specs.Reading.{slots_filled, read_on}
use Rattle.rules.proofs.FormNumbers.{number_told, all_but}
use Rattle.reader.proofs.LineChecks.{named, told, is_kind, is_thread, is_method, is_give, let_told, let_goes_on, tidy_let}
use Rattle.reader.proofs.faults.after_line.Goals as goal

pub returns-in-Kind : goal.returns-in-Kind
unfolding read_on
returns-in-Kind c = record {
  is = λ F e. let (K, k) = is_kind F (told F e) (number_told (named c.args.form) c.in-Kind.is (omega arith)) in rw k;
  tidy = λ m F e t placed free. record { filled = t.filled; bounded = t.bounded };
}

pub returns-in-Thread : goal.returns-in-Thread
unfolding read_on slots_filled
returns-in-Thread c = record {
  is = λ F e. rw (is_thread F (told F e) (number_told (named c.args.form) c.in-Thread.is (omega arith)));
  tidy = λ m F e t placed free. record { filled = refl; bounded = omega arith };
}

pub returns-in-Method : goal.returns-in-Method
unfolding read_on slots_filled
returns-in-Method c = record {
  is = λ F e. rw (is_method F (told F e) (number_told (named c.args.form) c.in-Method.is (omega arith)));
  tidy = λ m F e t placed free. record { filled = refl; bounded = omega arith };
}

pub returns-in-Give : goal.returns-in-Give
unfolding read_on slots_filled
returns-in-Give c = record {
  is = λ F e. let (w, k) = is_give F (told F e) (number_told (named c.args.form) c.in-Give.is (omega arith)) in rw k;
  tidy = λ m F e t placed free. record { filled = refl; bounded = omega arith };
}

pub returns-in-NoForm : goal.returns-in-NoForm
returns-in-NoForm c =
    record {
      is = λ F e. let (x, k) = let_told (named c.args.form) (all_but (Kind ∷ Thread ∷ Method ∷ Give ∷ [])) c.in-NoForm.is tt tt tt tt F e in rw k (let_goes_on c.args.r x);
      tidy = λ m F e t placed free. let (x, k) = let_told (named c.args.form) (all_but (Kind ∷ Thread ∷ Method ∷ Give ∷ [])) c.in-NoForm.is tt tt tt tt F e in tidy_let m c.args.r x t (rw k at placed) (rw k at free);
    }

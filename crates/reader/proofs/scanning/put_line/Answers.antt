-- The number of a form says whether it opens a block, and what was called adds it so.
use native.Mathlib.Omega.{arith}
use mathlib.Core.List.{[], ◌∷◌}
use Rattle.rules.specs.declared.forms.Form.TheVariants.{Thread, Method}
use Rattle.rules.proofs.FormNumbers.{all_but}
use Rattle.reader.proofs.LineChecks.{named, opener_number, no_opener}
use Rattle.reader.proofs.Scan.{put_opener, put_none, put_other}
use Rattle.reader.proofs.scanning.put_line.Goals as goal

pub returns-then-b-lt64 : goal.returns-then-b-lt64
returns-then-b-lt64 c =
    let a = c.args in
    let between = opener_number (named c.args.l.form) c.in-Thread.is in
    put_opener a.n a.b a.l _ _ (omega arith) (omega arith) between.0 between.1 (rw c.number.ensures at c.add_opener.ensures.opener_added)

pub returns-else-b-lt64 : goal.returns-else-b-lt64
returns-else-b-lt64 c =
    let a = c.args in
    let between = opener_number (named c.args.l.form) c.in-Thread.is in
    put_none a.n a.b a.l _ _ (omega arith) between.0 between.1

pub returns-in-NoForm : goal.returns-in-NoForm
returns-in-NoForm c =
    let a = c.args in
    let other = no_opener (named c.args.l.form) (all_but (Thread ∷ Method ∷ [])) c.in-NoForm.is tt tt in
    put_other a.n a.b a.l _ _ (omega arith) other (rw c.number-in-NoForm.ensures at c.add_line.ensures.line_added)

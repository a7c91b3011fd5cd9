-- The line without its LF has a stray byte where the line has one: LF is none.
use mathlib.Core.Path.{sym, ◌∙◌}
use Rattle.reader.proofs.Lines.{part_stray}
use Rattle.reader.proofs.scanning.unfit_fault.Goals as goal

pub returns-then-is_stray : goal.returns-then-is_stray
returns-then-is_stray c =
    let a = c.args in
    rw (sym (part_stray a.s.now a.at c.find_lf-end.result c.find_lf-end.ensures.0) ∙ sym c.is_stray.ensures ∙ c.if-is_stray.true)

pub returns : goal.returns
returns c =
    let a = c.args in
    rw (sym (part_stray a.s.now a.at c.find_lf-end.result c.find_lf-end.ensures.0) ∙ sym c.is_stray.ensures ∙ c.if-is_stray.false)

-- From the start of line n to the first LF stands line n without its LF.
use mathlib.Core.Path.{ap, sym, ◌∙◌}
use Rattle.rules.specs.Text.{without_lf, find_line}
use Rattle.reader.proofs.Lines.{part_without_lf}
use Rattle.reader.proofs.finder.find_line.Goals as goal

pub returns : goal.returns
unfolding find_line
returns c = record { result_value = part_without_lf c.args.s.now c.line_start-at.result c.find_lf-end.result c.find_lf-end.ensures.0 ∙ ap without_lf (sym c.line_start-at.ensures.0); ref_ptr_value = rw (← c.line_start-at.ensures.2) }

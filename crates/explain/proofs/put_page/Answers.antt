-- The pages are the lines of one text, five each, and 0 has none.
use native.Mathlib.Omega.{arith}
use Rattle.rules.specs.Text.{join}
use Rattle.buffer.proofs.Outputs.{nothing, same_text}
use Rattle.explain.specs.Pages.{pages}
use Rattle.explain.proofs.PageLines.{all_pages, no_page, a_page}
use Rattle.explain.proofs.put_page.Goals as goal

pub returns-then-n-eq0 : goal.returns-then-n-eq0
returns-then-n-eq0 c = same_text 32768 (no_page c.args.n c.if-n-eq0.true) (omega arith) (nothing 32768 (omega arith))

pub returns : goal.returns
unfolding all_pages join pages
returns c = same_text 32768 (a_page c.args.n c.if-n-eq0.false) (omega arith) c.put_lines.ensures

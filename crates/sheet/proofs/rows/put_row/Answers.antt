-- Nothing of a row without turns.
use borrow.Author.Tests.{eq-eqb, ne_eqb}
use Rattle.std.proofs.Common.{◌*◌, refl, sym, ◌∙◌, arith}
use Rattle.buffer.proofs.Outputs.{nothing, ◌▹◌, same_text}
use Rattle.sheet.specs.SheetText.{turns_in, row_text}
use Rattle.sheet.proofs.rows.put_row.Goals as goal

pub returns-then-turns_in-eq0 : goal.returns-then-turns_in-eq0
unfolding row_text
returns-then-turns_in-eq0 c =
    rw (eq-eqb (turns_in c.args.counts.now (c.args.t * 5)) 0 (sym c.turns_in.ensures ∙ c.if-turns_in-eq0.true)) (nothing 93 (omega (arith, c.requires.0)))

pub returns : goal.returns
unfolding row_text
returns c =
    same_text 93 (rw (ne_eqb (turns_in c.args.counts.now (c.args.t * 5)) 0 (λ e. c.if-turns_in-eq0.false (c.turns_in.ensures ∙ e))) refl) (omega arith)
    (c.put_row_name.ensures ▹ c.put_fates.ensures)

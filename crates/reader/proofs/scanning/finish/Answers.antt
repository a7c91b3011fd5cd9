-- The tests are those of the definition: no block, or the last one open.
use borrow.Author.Tests.{eq-eqb, ne_eqb}
use mathlib.Core.Path.{◌≡◌, refl, sym, ap, ◌∙◌}
use mathlib.Core.Bool.{not}
use mathlib.Core.Logic.{⊎_elim}
use Rattle.rules.specs.Reading as R
use Rattle.reader.proofs.LineChecks.{equals_outside, no_block_open, place_outside}
use Rattle.reader.proofs.scanning.finish.Goals as goal

pub returns-then-r-eq0 : goal.returns-then-r-eq0
unfolding R.finish
returns-then-r-eq0 c =
    let r = c.args.r in
    let asked : not (no_block_open r.place) ≡ c.ne-is_open.result = sym (c.ne-is_open.ensures ∙ ap not (equals_outside r.place)) in
    record {
      is = rw (c.at.ensures.fault, c.at.ensures.line)
          (⊎_elim (λ none. rw (eq-eqb r.blocks 0 none))
          (λ some. rw (ne_eqb r.blocks 0 some.0, place_outside r.place r.filled, asked ∙ some.1))
          c.then-r-eq0.either);
    }

pub returns : goal.returns
unfolding R.finish
returns c =
    let r = c.args.r in
    let asked : not (no_block_open r.place) ≡ c.ne-is_open.result = sym (c.ne-is_open.ensures ∙ ap not (equals_outside r.place)) in
    record { is = (rw (ne_eqb r.blocks 0 c.if-r-eq0.false, place_outside r.place r.filled, asked ∙ c.if-is_open.false), refl, refl, refl) }

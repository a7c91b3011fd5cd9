-- `parts::items_at` meets its contract: the parts read so far run from the list's place to the place reached.
use Rattle.std.proofs.Common.{◌+◌, ◌/◌, arith, eqb, refl, sym, ◌∙◌, [], ◌∷◌, ◌++◌}
use Rattle.rules.specs.Lists.{any}
use Rattle.grammar.specs.Items.{past, none, more}
use Rattle.grammar.specs.declared.parts.Part.{Part}
use Rattle.grammar.proofs.Many.{at_space}
use Rattle.grammar.proofs.ItemLists.{any_more, past_more, listed_more}
use Rattle.grammar.proofs.parts.items_at.Goals as goal

pub loop-part-init : goal.loop-part-init
unfolding past any
loop-part-init g c = record {
  parts = [];
  run = rw c.no_items-l.ensures.ends.2 none;
  listed = c.no_items-l.ensures.listed;
  need = c.no_items-l.ensures.ends.0;
  own = c.no_items-l.ensures.ends.1;
  start = omega arith;
  limit = omega arith;
}

pub loop-part-smaller : goal.loop-part-smaller
loop-part-smaller g c =
    let inside = at_space c.args.text.bytes.now c.loop-part.l.end (sym c.byte.ensures ∙ c.loop-part-test.true) in
    let bound = c.requires.bounded _ _ (omega arith) (rw c.in_ok-w.was at c.part.ensures) in
    omega arith

pub loop-part-preserved : goal.loop-part-preserved
loop-part-preserved g c =
    let here = sym c.byte.ensures ∙ c.loop-part-test.true in
    let inside = at_space c.args.text.bytes.now c.loop-part.l.end here in
    let read = rw c.in_ok-w.was at c.part.ensures in
    let bound = c.requires.bounded _ _ (omega arith) read in
    let before = c.loop-part.invariant in
    let number = λ (p : Part). p.word / c.args.per in
    record {
      parts = before.parts ++ (c.in_ok-w.w ∷ []);
      run = more c.in_ok-w.w before.run here read;
      listed = listed_more (λ p. p.word + 1) number before.parts c.in_ok-w.w before.listed c.with_item-next.ensures.adds refl refl refl refl refl;
      need = c.max.ensures ∙ past_more number before.parts c.in_ok-w.w before.need refl;
      own = c.either.ensures ∙ any_more (λ p. eqb p.word 1) before.parts c.in_ok-w.w before.own refl;
      start = omega arith;
      limit = omega arith;
    }

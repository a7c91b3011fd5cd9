-- An item 0 stands past the last method; another is one more than its block.
use mathlib.Core.Path.{refl, ap, ◌∙◌}
use mathlib.Core.Bool.{not}
use Rattle.rules.specs.Script.{method, kind_at}
use Rattle.reader.proofs.Links.{no_method, no_such_method, method_named}
use Rattle.reader.proofs.linking.method_dangles.Goals as goal

pub returns-then-item-eq0 : goal.returns-then-item-eq0
returns-then-item-eq0 c =
    let a = c.args in
    record {
      is = λ P table e h.
          no_such_method (no_method P) (kind_at P a.n).methods a.i c.kind_method-item.result (c.kind_method-item.ensures.kind_method.is P table.counts table.rest table.filled h) c.if-item-eq0.true;
    }

pub returns : goal.returns
returns c =
    let a = c.args in
    record {
      is = λ P table e h.
          ap not (c.is_sort.ensures.is P method table e refl)
          ∙ method_named (no_method P) (kind_at P a.n).methods a.i c.kind_method-item.result (c.kind_method-item.ensures.kind_method.is P table.counts table.rest table.filled h) c.if-item-eq0.false;
    }

-- Word 2 names the kind; of the next four as many are given as the new has operands.
use Prim.Native.Nat.{◌+◌, ◌*◌}
use mathlib.Core.Path.{◌≡◌, refl}
use mathlib.Core.Bool.{not}
use lib.Dec.{eqb}
use lib.ListN.{get_or}
use Rattle.std.proofs.Common.{rules, tests}
use Rattle.std.proofs.lemmas.Iterator.{YieldsList-from_range}
use Rattle.std.proofs.lemmas.Iterator.Consumers.{YieldsList-from_filter, count_from_yields_List}
use Rattle.reader.proofs.Links.{counted, kind_missing, operands_told}
use Rattle.reader.proofs.linking.new_dangles.Goals as goal

pub returns-then-counts-kind : goal.returns-then-counts-kind
returns-then-counts-kind c = kind_missing c.line_word-kind.ensures.line_word c.if-counts-kind.true

pub returns : goal.returns
returns c =
    let a = c.args in
    let operands : c.count-operands.result ≡ counted a.t.now a.n =
    count_from_yields_List c.filter.result c.count-operands.result c.count-operands.ensures.ran
    (YieldsList-from_filter _ (λ k. not (eqb (get_or a.t.now (72 + a.n * 8 + k) 0) 0)) (YieldsList-from_range 3 7 4 c.filter.ensures.source refl)
    c.filter.ensures.closure (λ k b q made. search (rules, tests))) in
    rw operands (operands_told c.line_word-kind.ensures.line_word c.if-counts-kind.false c.kind_fields.ensures.kind_fields)

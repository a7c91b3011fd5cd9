-- `checks::form_checks::method_block` meets its contract: no kind has a fifth method, and a kind of an object that is there is one of 32.
use Rattle.checks.proofs.CallChecks.{no_fifth_method, no_such_method, such_method}
use Rattle.checks.proofs.form_checks.method_block.Goals as goal

pub returns-then-j-ge4 : goal.returns-then-j-ge4
returns-then-j-ge4 c = no_fifth_method _ _ _ c.if-j-ge4.true

pub returns-then-item-eq0 : goal.returns-then-item-eq0
returns-then-item-eq0 c = no_such_method _ c.kind.ensures.sees c.kind_method-item.ensures.kind_method c.if-item-eq0.true

pub returns : goal.returns
returns c = such_method _ c.kind.ensures.sees c.kind_method-item.ensures.kind_method c.if-item-eq0.false

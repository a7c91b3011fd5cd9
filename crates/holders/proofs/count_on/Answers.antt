-- `holders::count_on` meets its contract: what is too short is refused; the object was never made; or its record has the count.
use Rattle.std.proofs.Common.{refl, ap}
use Rattle.rules.specs.Numbers.{number}
use Rattle.holders.proofs.Asked.{not_made, told}
use Rattle.holders.proofs.count_on.Goals as goal

pub returns-then-object_count-object : goal.returns-then-object_count-object
returns-then-object_count-object c =
    not_made c.if-s-lt8192.false c.object_count.ensures.sees c.if-object_count-object.true (record { refusal = c.at-then-object_count-object.result; is = refl; number_is = ap number c.at-then-object_count-object.ensures.fault; line_is = c.at-then-object_count-object.ensures.line })

pub returns : goal.returns
returns c = told c.if-s-lt8192.false c.object_count.ensures.sees c.if-object_count-object.false c.holder_count.ensures.stores

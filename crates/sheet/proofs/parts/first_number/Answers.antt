-- The edition's word tells whether the first line names it.
use Rattle.sheet.proofs.PartLaws.{first_is_one, first_is_none}
use Rattle.sheet.proofs.parts.first_number.Goals as goal

pub returns-then-edition-eq2 : goal.returns-then-edition-eq2
returns-then-edition-eq2 c = first_is_one c.edition.ensures.edition_is c.if-edition-eq2.true

pub returns-else-edition-eq2 : goal.returns-else-edition-eq2
returns-else-edition-eq2 c = first_is_none c.edition.ensures.edition_is c.if-edition-eq2.false
